use Rattle.std.proofs.Common.{◌∙◌, sym, arith}
use Rattle.fx_grants.specs.Refusals.{holds_refused_gate}
use Rattle.fx_grants.proofs.Firsts.{found_here, passed_here}
use Rattle.fx_grants.proofs.refusals.not_granted.Goals as goal

pub returns-then-refused : goal.returns-then-refused
returns-then-refused c = found_here (holds_refused_gate c.args.p.now c.args.c.now c.args.homes.now) c.loop-f.number c.loop-f.f-index c.as_slice-f-items.result.now c.f-item.result _ c.loop-f-test.true c.f-item.is (sym c.in_ok-refused.ensures ∙ c.if-refused.true) c.loop-f.invariant.first

pub loop-f-preserved : goal.loop-f-preserved
loop-f-preserved c = record {
  number = omega (arith, c.loop-f.invariant.number);
  first = passed_here (holds_refused_gate c.args.p.now c.args.c.now c.args.homes.now) c.loop-f.number c.loop-f.f-index c.as_slice-f-items.result.now c.f-item.result _ c.loop-f-test.true c.f-item.is (sym c.in_ok-refused.ensures ∙ c.if-refused.false) c.loop-f.invariant.first;
}
