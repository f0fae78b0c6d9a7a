use Rattle.std.proofs.Common.{◌≡◌, ◌++◌, length, drop}
use Rattle.fx_linker.specs.Data.{literals_from}
use Rattle.fx_linker.proofs.literals.literals.Given as goal

abbrev pub invariant-loop-i : goal.invariant-loop-i
invariant-loop-i l = l.out.items ++ literals_from l.addresses l.i (length l.out.items) (drop l.i l.literals) ≡ literals_from l.addresses 0 0 l.literals
