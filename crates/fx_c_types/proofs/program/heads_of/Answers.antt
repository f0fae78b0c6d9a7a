use Rattle.std.proofs.Common.{arith}
use Rattle.std.proofs.lemmas.Result.{err_from_is_err_and}
use Rattle.fx_c_types_heads.specs.HeadsView.{heads_tree}
use Rattle.fx_c_types.proofs.Turns.{heads_next, heads_stop}
use Rattle.fx_c_types.proofs.program.heads_of.Goals as goal

pub returns-in_err-add_at : goal.returns-in_err-add_at
returns-in_err-add_at c =
    let p = err_from_is_err_and c.from_residual.result c.from_residual.ensures.1 in
    rw (p.1, p.2) (λ h. heads_stop c.loop-placed.number (heads_tree c.loop-placed.heads) c.args.all.now c.loop-placed.placed-index c.placed-item.result _ _ c.loop-placed-test.true c.placed-item.is (c.in_err-add_at.ensures h) c.loop-placed.invariant.rest)

pub loop-placed-preserved : goal.loop-placed-preserved
loop-placed-preserved c = record {
  place = omega (arith, c.loop-placed.invariant.place);
  rest = heads_next c.loop-placed.number (heads_tree c.loop-placed.heads) (heads_tree c.add_at.new.heads) c.args.all.now c.loop-placed.placed-index c.placed-item.result _ c.loop-placed-test.true c.placed-item.is c.in_ok-add_at.ensures c.loop-placed.invariant.rest;
}
