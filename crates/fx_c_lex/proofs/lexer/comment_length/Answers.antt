use Rattle.fx_c_lex.proofs.Comments.{to_end_from_0}
use Rattle.fx_c_lex.proofs.lexer.comment_length.Goals as goal

pub loop-i-init : goal.loop-i-init
loop-i-init c = to_end_from_0 c.args.text.now
