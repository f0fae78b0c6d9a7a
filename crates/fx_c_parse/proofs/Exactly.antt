-- What an answer of the parser says of the text.
use Rattle.std.proofs.Common.{◌≡◌, ℕ, List, Result, Ok, Err, sym, ap, ◌∙◌}
use Rattle.fx_c_ast.specs.declared.parsed.Unit.{Unit as Parsed}
use Rattle.fx_c_ast.specs.ParsedTrees.{DeclTree, decl_trees}
use Rattle.fx_c_lex.specs.declared.token.Token.{Token}
use Rattle.fx_c_lex.specs.Laws.{StopsAfter}
use Rattle.fx_c_lex.specs.Lexis.{tokens_of}
use Rattle.fx_c_lex.proofs.Ordered.{are_in_order, are_the_only, is_first_place}
use Rattle.fx_c_parse.specs.declared.fault.ParseError.{ParseError}
use Rattle.fx_c_parse.specs.declared.fault.ParseError.TheVariants.{Byte, Syntax, OutOfMemory}
use Rattle.fx_c_parse.specs.Words.{words}
use Rattle.fx_c_parse.specs.Declarations.{unit_of, GivesOf}
use Rattle.fx_c_parse.specs.Exact.{IsTextOf, StopsText, Answers, IfTree, IfSyntax, IfByte}
use Rattle.fx_c_parse.proofs.CompleteUnits.{unit_sound, unit_complete, unit_stopped}

pub is_found : (text : List ℕ) (r : Result Parsed ParseError) → GivesOf text r (tokens_of text) → IfTree r (IsTextOf text)
is_found text (Ok u) h = (h.0, are_in_order text h.0 h.1, unit_sound (words text h.0) (decl_trees u.decls) h.2)
is_found text (Err e) h = tt

pub is_stopped : (text : List ℕ) (r : Result Parsed ParseError) → GivesOf text r (tokens_of text) → IfSyntax r (StopsText text)
is_stopped text (Ok u) h = tt
is_stopped text (Err (Syntax n)) h = (h.0, are_in_order text h.0 h.1, unit_stopped (words text h.0) n h.2)
is_stopped text (Err (Byte at)) h = tt
is_stopped text (Err OutOfMemory) h = tt

pub is_byte : (text : List ℕ) (r : Result Parsed ParseError) → GivesOf text r (tokens_of text) → IfByte r (λ at. (ts : List Token) × StopsAfter text 0 ts at)
is_byte text (Ok u) h = tt
is_byte text (Err (Syntax n)) h = tt
is_byte text (Err (Byte at)) h = is_first_place text at h
is_byte text (Err OutOfMemory) h = tt

pub is_only : (text : List ℕ) (r : Result Parsed ParseError) → GivesOf text r (tokens_of text) → (ds : List DeclTree) → IsTextOf text ds → Answers r ds
is_only text (Ok u) h ds is =
    let q : ◌≡◌ {A = Result (List Token) ℕ} (Ok h.0) (Ok is.0) = sym h.1 ∙ are_the_only text is.0 is.1 in
    let same : h.0 ≡ is.0 = cc in
    let read : ◌≡◌ {A = Result (List DeclTree) ℕ} (Ok (decl_trees u.decls)) (Ok ds) = sym h.2 ∙ ap (λ ts. unit_of (words text ts)) same ∙ unit_complete (words text is.0) ds is.2 in
    cc
is_only text (Err (Syntax n)) h ds is =
    let q : ◌≡◌ {A = Result (List Token) ℕ} (Ok h.0) (Ok is.0) = sym h.1 ∙ are_the_only text is.0 is.1 in
    let same : h.0 ≡ is.0 = cc in
    let read : ◌≡◌ {A = Result (List DeclTree) ℕ} (Err n) (Ok ds) = sym h.2 ∙ ap (λ ts. unit_of (words text ts)) same ∙ unit_complete (words text is.0) ds is.2 in
    absurd cc
is_only text (Err (Byte at)) h ds is =
    let q : ◌≡◌ {A = Result (List Token) ℕ} (Err at) (Ok is.0) = sym h ∙ are_the_only text is.0 is.1 in
    absurd cc
is_only text (Err OutOfMemory) h ds is = tt
