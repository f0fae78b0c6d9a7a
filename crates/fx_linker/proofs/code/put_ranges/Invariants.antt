use Rattle.std.proofs.Common.{◌≡◌, ◌++◌, drop}
use Rattle.fx_linker.specs.Code.{ranges_code}
use Rattle.fx_linker.proofs.code.put_ranges.Given as goal

abbrev pub invariant-loop-c : goal.invariant-loop-c
invariant-loop-c l = l.out.items ++ ranges_code l.parts l.to l.places l.c (drop l.c l.ranges) ≡ l.fn.out.items ++ ranges_code l.parts l.to l.places 0 l.ranges
