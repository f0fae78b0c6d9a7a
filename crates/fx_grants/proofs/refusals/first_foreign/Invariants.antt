use Rattle.std.proofs.Common.{◌≡◌, drop}
use Rattle.fx_grants.specs.Refusals.{first_some, foreign}
use Rattle.fx_grants.proofs.refusals.first_foreign.Given as goal

abbrev pub invariant-loop-one : goal.invariant-loop-one
invariant-loop-one l = first_some (foreign l.c l.home) (drop l.one-index l.uses) ≡ first_some (foreign l.c l.home) l.uses
