use Rattle.std.proofs.Common.{◌≡◌, ◌-◌, ◌≤◌, length, drop}
use Rattle.fx_c_lex.specs.Lexis.{tokens_of, tokens_from}
use Rattle.fx_c_lex.specs.Reading.{follow}
use Rattle.fx_c_lex.proofs.lexer.all_tokens.Given as goal

abbrev pub invariant-loop-at : goal.invariant-loop-at
invariant-loop-at l = record {
  within : l.at ≤ length l.text;
  told : follow l.tokens (tokens_from l.at 0 (drop l.at l.text)) ≡ tokens_of l.text;
}

abbrev pub decreases-loop-at : goal.decreases-loop-at
decreases-loop-at l = length l.text - l.at
