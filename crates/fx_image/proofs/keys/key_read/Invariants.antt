use Rattle.std.proofs.Common.{◌≡◌, drop}
use Rattle.fx_image.specs.Keys.{key_read}
use Rattle.fx_image.proofs.keys.key_read.Given as goal

abbrev pub invariant-loop-section : goal.invariant-loop-section
invariant-loop-section l = key_read (drop l.section-index l.sections) l.compartment l.key ≡ key_read l.sections l.compartment l.key
