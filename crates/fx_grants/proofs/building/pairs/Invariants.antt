use Rattle.std.proofs.Common.{◌≡◌, map, take}
use Rattle.fx_grants.specs.GrantSets.{pair_of}
use Rattle.fx_grants.proofs.building.pairs.Given as goal

abbrev pub invariant-loop-global : goal.invariant-loop-global
invariant-loop-global l = l.found.items ≡ map (pair_of l.c l.homes) (take l.global-index l.globals)
