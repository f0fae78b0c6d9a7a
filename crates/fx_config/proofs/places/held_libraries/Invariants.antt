use Rattle.std.proofs.Common.{◌≡◌, map, take}
use Rattle.fx_config.specs.Reading.{libraries_of}
use Rattle.fx_config.proofs.places.held_libraries.Given as goal

abbrev pub invariant-loop-compartment : goal.invariant-loop-compartment
invariant-loop-compartment l = map (λ s. s.now) l.found.items ≡ libraries_of (take l.compartment-index l.compartments)
