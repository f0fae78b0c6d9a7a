use Rattle.std.proofs.Common.{sym, subst, ◌≤◌}
use Rattle.std.specs.Prelude.{All}
use Rattle.fx_c_lex.proofs.Digits.{all_digits}
use Rattle.fx_c_lex.proofs.numbers.typed.Goals as goal

pub value_of-requires : goal.value_of-requires
value_of-requires c = subst (All (λ b. 48 ≤ b)) (sym c.split_at.ensures.front) (all_digits c.args.base c.args.bytes.now _ c.digits_length.ensures.count)
