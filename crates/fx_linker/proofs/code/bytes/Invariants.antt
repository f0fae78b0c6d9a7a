use Rattle.std.proofs.Common.{◌≡◌, ◌++◌, drop}
use Rattle.fx_linker.specs.Code.{bytes_from}
use Rattle.fx_linker.proofs.code.bytes.Given as goal

abbrev pub invariant-loop-k : goal.invariant-loop-k
invariant-loop-k l = l.out.items ++ bytes_from l.parts l.to l.own l.k (drop l.k l.pieces) ≡ bytes_from l.parts l.to l.own 0 l.pieces
