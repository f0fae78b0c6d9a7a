use Rattle.std.proofs.Common.{◌∙◌, ap, Some, None, ◌+◌}
use Rattle.fx_c_lex.specs.declared.token.TokenKind.TheVariants.{Text}
use Rattle.fx_c_lex.specs.declared.lexer.Front.TheVariants.{Lexeme}
use Rattle.fx_c_lex.proofs.Longest.{string_front, all_but_first}
use Rattle.fx_c_lex.proofs.lexer.string.Goals as goal

pub returns-in-Some : goal.returns-in-Some
returns-in-Some c =
    ap (λ bytes. Lexeme (Text bytes) (c.in-Some.length + 1)) c.new.ensures
    ∙ string_front c.args.text.now _ (Some (c.in-Some.bytes.items, c.in-Some.length)) (all_but_first c.args.text.now) c.requires.some c.requires.quote (rw c.in-Some.is at c.in_ok-bytes.ensures.found) (rw c.in-Some.is at c.in_ok-bytes.ensures.within)

pub returns-in-None : goal.returns-in-None
returns-in-None c = string_front c.args.text.now _ None (all_but_first c.args.text.now) c.requires.some c.requires.quote (rw c.in-None.is at c.in_ok-bytes.ensures.found) tt
