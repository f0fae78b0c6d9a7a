use Rattle.std.proofs.Common.{◌∙◌}
use Rattle.fx_c_lex.proofs.Longest.{word_front}
use Rattle.fx_c_lex.proofs.lexer.word.Goals as goal

pub returns : goal.returns
returns c = c.lexeme.ensures ∙ word_front c.args.text.now _ _ c.requires.letter c.word_length-length.ensures.count c.word_kind.ensures
