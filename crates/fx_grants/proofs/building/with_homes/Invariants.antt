use Rattle.std.proofs.Common.{◌≡◌, map, drop}
use Rattle.fx_grants.specs.Sets.{with_members}
use Rattle.fx_grants.specs.Homes.{home_of}
use Rattle.fx_grants.proofs.building.with_homes.Given as goal

abbrev pub invariant-loop-name : goal.invariant-loop-name
invariant-loop-name l = with_members l.members (map (home_of l.c) (drop l.name-index l.names)) ≡ with_members l.fn.set (map (home_of l.c) l.names)
