use Rattle.std.proofs.Common.{◌∙◌, ap, Some, None, ◌+◌}
use Rattle.fx_c_lex.specs.Lexis.{longest_token, or_shorter}
use Rattle.fx_c_lex.specs.Quoted.{character_by}
use Rattle.fx_c_lex.proofs.Longest.{character_front, all_but_first}
use Rattle.fx_c_lex.proofs.lexer.character.Goals as goal

pub returns-in-Some : goal.returns-in-Some
returns-in-Some c =
    c.lexeme.ensures ∙ ap (λ kind. longest_token (or_shorter (c.in-Some.length + 1) kind None)) (c.character_kind.ensures ∙ ap (λ bytes. character_by (Some bytes)) c.as_slice.ensures.value)
    ∙ character_front c.args.text.now _ (Some (c.in-Some.bytes.items, c.in-Some.length)) (all_but_first c.args.text.now) c.requires.some c.requires.quote (rw c.in-Some.is at c.in_ok-bytes.ensures.found) (rw c.in-Some.is at c.in_ok-bytes.ensures.within)

pub returns-in-None : goal.returns-in-None
returns-in-None c = character_front c.args.text.now _ None (all_but_first c.args.text.now) c.requires.some c.requires.quote (rw c.in-None.is at c.in_ok-bytes.ensures.found) tt
