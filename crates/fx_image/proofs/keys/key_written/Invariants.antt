use Rattle.std.proofs.Common.{◌≡◌, drop}
use Rattle.fx_image.specs.Keys.{key_written}
use Rattle.fx_image.proofs.keys.key_written.Given as goal

abbrev pub invariant-loop-section : goal.invariant-loop-section
invariant-loop-section l = key_written (drop l.section-index l.sections) l.compartment l.key ≡ key_written l.sections l.compartment l.key
