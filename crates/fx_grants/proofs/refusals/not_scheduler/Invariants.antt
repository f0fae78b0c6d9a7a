use Rattle.std.proofs.Common.{◌≡◌, drop}
use Rattle.std.specs.List.{position_from}
use Rattle.fx_grants.specs.Refusals.{schedules_outside, not_scheduler}
use Rattle.fx_grants.proofs.refusals.not_scheduler.Given as goal

abbrev pub invariant-loop-f : goal.invariant-loop-f
invariant-loop-f l = record {
  number : l.number ≡ l.f-index;
  first : position_from (schedules_outside l.c l.homes) l.number (drop l.f-index l.f-items) ≡ not_scheduler l.p l.c l.homes;
}
