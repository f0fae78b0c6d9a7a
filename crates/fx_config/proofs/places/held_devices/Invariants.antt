use Rattle.std.proofs.Common.{◌≡◌, take}
use Rattle.fx_config.specs.Reading.{devices_of}
use Rattle.fx_config.proofs.places.held_devices.Given as goal

abbrev pub invariant-loop-compartment : goal.invariant-loop-compartment
invariant-loop-compartment l = l.found.items ≡ devices_of (take l.compartment-index l.compartments)
