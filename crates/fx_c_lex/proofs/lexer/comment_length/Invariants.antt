use Rattle.std.proofs.Common.{◌≡◌, ◌+◌, drop}
use Rattle.std.specs.Prelude.{option_map}
use Rattle.fx_c_lex.specs.Lexis.{to_comment_end}
use Rattle.fx_c_lex.proofs.Comments.{end_after}
use Rattle.fx_c_lex.proofs.lexer.comment_length.Given as goal

abbrev pub invariant-loop-i : goal.invariant-loop-i
invariant-loop-i l = option_map (λ n. n + l.i) (end_after l.star (drop l.i l.text)) ≡ to_comment_end l.text
