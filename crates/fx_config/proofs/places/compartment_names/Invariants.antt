use Rattle.std.proofs.Common.{◌≡◌, map, take}
use Rattle.fx_config.specs.declared.configuration.Compartment.{Compartment}
use Rattle.fx_config.proofs.places.compartment_names.Given as goal

abbrev pub invariant-loop-compartment : goal.invariant-loop-compartment
invariant-loop-compartment l = map (λ s. s.now) l.found.items ≡ map (λ (r : Compartment). r.name) (take l.compartment-index l.compartments)
