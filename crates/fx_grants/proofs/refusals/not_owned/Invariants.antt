use Rattle.std.proofs.Common.{◌≡◌, drop}
use Rattle.fx_grants.specs.Refusals.{first_some, foreign_device, not_owned}
use Rattle.fx_grants.proofs.refusals.not_owned.Given as goal

abbrev pub invariant-loop-f : goal.invariant-loop-f
invariant-loop-f l = first_some (foreign_device l.c l.homes) (drop l.f-index l.f-items) ≡ not_owned l.p l.c l.homes
