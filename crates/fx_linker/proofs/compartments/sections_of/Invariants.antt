use Rattle.std.proofs.Common.{◌≡◌, map, take}
use Rattle.fx_linker.specs.Data.{section_of}
use Rattle.fx_linker.proofs.compartments.sections_of.Given as goal

abbrev pub invariant-loop-s : goal.invariant-loop-s
invariant-loop-s l = l.found.items ≡ map section_of (take l.s-index l.sections)
