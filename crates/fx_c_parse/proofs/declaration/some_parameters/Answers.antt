use Rattle.std.proofs.Common.{arith}
use Rattle.fx_c_parse.proofs.Repetitions.{parameter_goes_on}
use Rattle.fx_c_parse.proofs.declaration.some_parameters.Goals as goal

pub loop-alloc-preserved : goal.loop-alloc-preserved
loop-alloc-preserved c =
    let fewer = c.next.ensures.fewer in
    record {
      shorter = omega (arith, c.in_ok-one.ensures.shorter, fewer, c.loop-alloc.invariant.shorter);
      left = parameter_goes_on _ _ _ _ _ _ _ _ _ c.loop-alloc.invariant.left c.has_sign.ensures.value c.loop-alloc-test.true c.next.ensures.rest c.in_ok-one.ensures.tree c.in_ok-push-2.ensures.items (omega (arith, c.in_ok-one.ensures.shorter, fewer));
    }
