use Rattle.std.proofs.Common.{◌≡◌, ◌<◌, All, map, take}
use Rattle.fx_config.specs.declared.configuration.Library.{Library}
use Rattle.fx_grants.specs.Homes.{home_of}
use Rattle.fx_grants.proofs.homes.homes.Given as goal

abbrev pub invariant-loop-library : goal.invariant-loop-library
invariant-loop-library l = record {
  homes : l.found.items ≡ map (λ (r : Library). home_of l.c r.name) (take l.library-index l.library-items);
  small : All (λ h. h < 16) l.found.items;
}
