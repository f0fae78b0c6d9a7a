use Rattle.std.proofs.Common.{◌∙◌, sym, arith}
use Rattle.fx_grants.specs.Refusals.{schedules_outside}
use Rattle.fx_grants.proofs.Firsts.{found_here, passed_here}
use Rattle.fx_grants.proofs.refusals.not_scheduler.Goals as goal

pub returns-then-outside : goal.returns-then-outside
returns-then-outside c = found_here (schedules_outside c.args.c.now c.args.homes.now) c.loop-f.number c.loop-f.f-index c.as_slice-f-items.result.now c.f-item.result _ c.loop-f-test.true c.f-item.is (sym c.in_ok-outside.ensures ∙ c.if-outside.true) c.loop-f.invariant.first

pub loop-f-preserved : goal.loop-f-preserved
loop-f-preserved c = record {
  number = omega (arith, c.loop-f.invariant.number);
  first = passed_here (schedules_outside c.args.c.now c.args.homes.now) c.loop-f.number c.loop-f.f-index c.as_slice-f-items.result.now c.f-item.result _ c.loop-f-test.true c.f-item.is (sym c.in_ok-outside.ensures ∙ c.if-outside.false) c.loop-f.invariant.first;
}
