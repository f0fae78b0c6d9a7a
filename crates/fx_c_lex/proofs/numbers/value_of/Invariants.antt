use Rattle.std.proofs.Common.{◌≡◌, drop}
use Rattle.fx_c_lex.specs.Numbers.{value_after}
use Rattle.fx_c_lex.proofs.numbers.value_of.Given as goal

abbrev pub invariant-loop-b : goal.invariant-loop-b
invariant-loop-b l = value_after l.base l.value (drop l.b-index l.digits) ≡ value_after l.base 0 l.digits
