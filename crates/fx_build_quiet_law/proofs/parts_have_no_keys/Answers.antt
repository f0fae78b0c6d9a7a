use Rattle.fx_build_quiet_law.proofs.Whole.{no_keys}
use Rattle.fx_build_quiet_law.proofs.parts_have_no_keys.Goals as goal

pub returns : goal.returns
returns c =
    no_keys (record {
      ops = c.ops_are_quiet.ensures;
      beginnings = c.beginnings_are_quiet.ensures;
      gates = c.gates_are_quiet.ensures;
      runtimes = c.runtimes_are_quiet.ensures;
    })
