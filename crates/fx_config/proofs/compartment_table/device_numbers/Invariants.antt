use Rattle.fx_config.specs.Reading.{device_of}
use Rattle.fx_config.proofs.Loops.{ReadTo}
use Rattle.fx_config.proofs.compartment_table.device_numbers.Given as goal

abbrev pub invariant-loop-number : goal.invariant-loop-number
invariant-loop-number l = ReadTo device_of l.numbers l.number-index l.devices.items
