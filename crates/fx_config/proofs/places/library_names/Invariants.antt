use Rattle.std.proofs.Common.{◌≡◌, map, take}
use Rattle.fx_config.specs.declared.configuration.Library.{Library}
use Rattle.fx_config.proofs.places.library_names.Given as goal

abbrev pub invariant-loop-library : goal.invariant-loop-library
invariant-loop-library l = map (λ s. s.now) l.found.items ≡ map (λ (r : Library). r.name) (take l.library-index l.libraries)
