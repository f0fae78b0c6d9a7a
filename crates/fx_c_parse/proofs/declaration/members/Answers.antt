use Rattle.std.proofs.Common.{arith}
use Rattle.fx_c_parse.proofs.Repetitions.{member_goes_on}
use Rattle.fx_c_parse.proofs.declaration.members.Goals as goal

pub loop-alloc-preserved : goal.loop-alloc-preserved
loop-alloc-preserved c = record {
  shorter = omega (arith, c.in_ok-one.ensures.shorter, c.loop-alloc.invariant.shorter);
  left = member_goes_on _ _ _ _ _ _ _ _ c.loop-alloc.invariant.left c.has_sign.ensures.value c.loop-alloc-test.true c.in_ok-one.ensures.tree c.in_ok-push-2.ensures.items c.in_ok-one.ensures.shorter;
}
