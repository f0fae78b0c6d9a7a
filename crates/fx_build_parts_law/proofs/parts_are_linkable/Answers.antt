use Rattle.fx_build_parts_law.proofs.Rows.{linkable}
use Rattle.fx_build_parts_law.proofs.parts_are_linkable.Goals as goal

pub returns : goal.returns
returns c =
    λ p g at k buildable. linkable (record {
      ops = c.ops_are_rows.ensures;
      beginnings = c.beginnings_are_rows.ensures;
      gates = c.gates_are_rows.ensures;
      runtimes = c.runtimes_are_rows.ensures;
    }) p g at k buildable
