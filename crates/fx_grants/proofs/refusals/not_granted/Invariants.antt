use Rattle.std.proofs.Common.{◌≡◌, drop}
use Rattle.std.specs.List.{position_from}
use Rattle.fx_grants.specs.Refusals.{holds_refused_gate, not_granted}
use Rattle.fx_grants.proofs.refusals.not_granted.Given as goal

abbrev pub invariant-loop-f : goal.invariant-loop-f
invariant-loop-f l = record {
  number : l.number ≡ l.f-index;
  first : position_from (holds_refused_gate l.p l.c l.homes) l.number (drop l.f-index l.f-items) ≡ not_granted l.p l.c l.homes;
}
