use Rattle.std.proofs.Common.{◌≡◌, take}
use Rattle.fx_c_types_heads.proofs.copies.names.Given as goal

abbrev pub invariant-loop-name : goal.invariant-loop-name
invariant-loop-name l = l.all.items ≡ take l.name-index l.name-items
