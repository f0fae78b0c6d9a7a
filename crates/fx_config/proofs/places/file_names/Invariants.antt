use Rattle.std.proofs.Common.{◌≡◌, map, take}
use Rattle.fx_config.specs.Reading.{files_of}
use Rattle.fx_config.proofs.places.file_names.Given as goal

abbrev pub invariant-loop-library : goal.invariant-loop-library
invariant-loop-library l = map (λ s. s.now) l.found.items ≡ files_of (take l.library-index l.libraries)
