use Rattle.fx_c_lex.proofs.Ordered.{given_in_order, given_only, given_first}
use Rattle.fx_c_lex.proofs.lexer.tokens.Goals as goal

pub returns-clause-in_order : goal.returns-clause-in_order
returns-clause-in_order c = given_in_order c.args.text.now c.all_tokens.result c.all_tokens.ensures

pub returns-clause-only : goal.returns-clause-only
returns-clause-only c = given_only c.args.text.now c.all_tokens.result c.all_tokens.ensures

pub returns-clause-first : goal.returns-clause-first
returns-clause-first c = given_first c.args.text.now c.all_tokens.result c.all_tokens.ensures
