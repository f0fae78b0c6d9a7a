use Rattle.std.proofs.Common.{sym, ◌∙◌, ap}
use Rattle.fx_c_lex.specs.Lexis.{longest_token}
use Rattle.fx_c_lex.proofs.Longest.{sign_front}
use Rattle.fx_c_lex.proofs.lexer.sign.Goals as goal

pub returns : goal.returns
returns c = c.longest_sign.ensures ∙ ap longest_token (sym (sign_front c.args.text.now c.requires.some c.requires.other))
