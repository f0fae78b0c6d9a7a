use Rattle.std.proofs.Common.{arith}
use Rattle.std.proofs.lemmas.Result.{err_from_is_err_and}
use Rattle.fx_c_types_heads.specs.HeadsView.{heads_tree}
use Rattle.fx_c_types.specs.ProgramView.{bodies_tree}
use Rattle.fx_c_types.proofs.Turns.{bodies_next, bodies_stop}
use Rattle.fx_c_types.proofs.program.bodies_of.Goals as goal

pub returns-in_err-body_at : goal.returns-in_err-body_at
returns-in_err-body_at c =
    let p = err_from_is_err_and c.from_residual.result c.from_residual.ensures.1 in
    rw (p.1, p.2) (λ h. bodies_stop c.loop-placed.number (heads_tree c.args.heads.now) (bodies_tree c.loop-placed.bodies) c.args.all.now c.loop-placed.placed-index c.placed-item.result _ _ c.loop-placed-test.true c.placed-item.is (c.in_err-body_at.ensures h) c.loop-placed.invariant.rest)

pub loop-placed-preserved : goal.loop-placed-preserved
loop-placed-preserved c = record {
  place = omega (arith, c.loop-placed.invariant.place);
  rest = bodies_next c.loop-placed.number (heads_tree c.args.heads.now) (bodies_tree c.loop-placed.bodies) (bodies_tree c.body_at.new.bodies) c.args.all.now c.loop-placed.placed-index c.placed-item.result _ c.loop-placed-test.true c.placed-item.is c.in_ok-body_at.ensures c.loop-placed.invariant.rest;
}
