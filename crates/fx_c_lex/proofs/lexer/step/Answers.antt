use Rattle.std.proofs.Common.{◌∙◌, sym, arith}
use Rattle.fx_c_lex.proofs.Steps.{blank_within, lexeme_within, blank_step, lexeme_step}
use Rattle.fx_c_lex.proofs.lexer.step.Goals as goal

pub overflow_cast-end : goal.overflow_cast-end
overflow_cast-end c = let within = lexeme_within _ _ c.args.rest.now _ c.requires.some c.in_ok-at_front.ensures c.in-Lexeme.is in omega arith

pub overflow_add-end : goal.overflow_add-end
overflow_add-end c = let within = lexeme_within _ _ c.args.rest.now _ c.requires.some c.in_ok-at_front.ensures c.in-Lexeme.is in omega arith

pub returns-in-Blank : goal.returns-in-Blank
returns-in-Blank c =
    let within = blank_within c.in-Blank.length c.args.rest.now _ c.requires.some c.in_ok-at_front.ensures c.in-Blank.is in
    (within.0, within.1, blank_step _ _ _ _ c.requires.some (sym c.in_ok-at_front.ensures ∙ c.in-Blank.is) within.0 within.1)

pub returns-in_ok-push-in-Lexeme : goal.returns-in_ok-push-in-Lexeme
returns-in_ok-push-in-Lexeme c =
    let within = lexeme_within c.in-Lexeme.length c.in-Lexeme.kind c.args.rest.now _ c.requires.some c.in_ok-at_front.ensures c.in-Lexeme.is in
    (within.0, within.1, lexeme_step _ _ c.in-Lexeme.kind _ _ _ c.in_ok-push-in-Lexeme.ensures.ok c.requires.some (sym c.in_ok-at_front.ensures ∙ c.in-Lexeme.is) within.0 within.1)
