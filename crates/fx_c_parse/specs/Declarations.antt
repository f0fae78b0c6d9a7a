-- Declarations and units.
use Rattle.std.specs.Prelude.{◌≡◌, ℕ, zero, suc, ◌+◌, ◌-◌, ◌^◌, ◌%◌, Bool, true, false, List, [], ◌∷◌, ◌++◌, length, Option, Some, None, Result, Ok, Err, ◌&&◌, if◌then◌else◌}
use Rattle.fx_c_ast.specs.declared.parsed.Grant.{Grant}
use Rattle.fx_c_ast.specs.declared.parsed.Grant.TheVariants.{Private, Libraries, All}
use Rattle.fx_c_ast.specs.declared.parsed.Init.{Init}
use Rattle.fx_c_ast.specs.declared.parsed.Init.TheVariants.{Zero, Number, Text}
use Rattle.fx_c_ast.specs.declared.parsed.Unit.{Unit as Parsed}
use Rattle.fx_c_ast.specs.ParsedTrees.{TypeTree, ParamTree, DeclTree, StructTree, GlobalTree, FunctionTree, decl_trees}
use Rattle.fx_c_lex.specs.declared.sign.TheConstants.{OPEN_PAREN, CLOSE_PAREN, OPEN_BRACE, CLOSE_BRACE, COMMA, SEMICOLON, ASSIGN, MINUS, STAR}
use Rattle.fx_c_lex.specs.declared.keyword.TheConstants.{SHARED, READ, VOID}
use Rattle.fx_c_lex.specs.declared.token.Token.{Token}
use Rattle.fx_c_parse.specs.declared.fault.Fault.{Fault}
use Rattle.fx_c_parse.specs.declared.fault.Fault.TheVariants as fault
use Rattle.fx_c_parse.specs.declared.fault.ParseError.{ParseError}
use Rattle.fx_c_parse.specs.declared.fault.ParseError.TheVariants.{Byte, Syntax, OutOfMemory}
use Rattle.fx_c_parse.specs.declared.front.DeclarationFront.{DeclarationFront}
use Rattle.fx_c_parse.specs.declared.front.DeclarationFront.TheVariants as front
use Rattle.fx_c_parse.specs.Words.{Word, NameWord, KeywordWord, NumberWord, CharWord, TextWord, SignWord, first_name, first_number, has_sign, has_keyword, after_sign, tail, words}
use Rattle.fx_c_parse.specs.Reading.{◌>>=◌, Turn, Ends, Tries, turns}
use Rattle.fx_c_parse.specs.Fronts.{declaration_front}
use Rattle.fx_c_parse.specs.Types.{nesting, pointer_type_of, dims_of}
use Rattle.fx_c_parse.specs.Statements.{declarator_of, statement_at, statements_by, behind_shared}

-- a member and `;`
abbrev pub member_of : List Word → Option ((TypeTree × List ℕ) × List Word)
member_of ws = declarator_of ws >>= λ d. after_sign SEMICOLON d.2 >>= λ rest. Some ((d.0, d.1), rest)

abbrev pub member_turn : List (TypeTree × List ℕ) → List Word → Turn (List (TypeTree × List ℕ))
member_turn all ws = if has_sign CLOSE_BRACE ws then Ends else Tries (member_of ws >>= λ x. Some (all ++ x.0 ∷ [], x.1))

-- at least one member, and `}`
abbrev pub members_of : List Word → Option (List (TypeTree × List ℕ) × List Word)
members_of ws = member_of ws >>= λ x. turns member_turn (length x.1 + 1) (x.0 ∷ []) x.1 >>= λ y. Some (y.0, tail y.1)

-- behind `struct`
abbrev pub structure_of : List Word → Option (DeclTree × List Word)
structure_of ws = first_name ws >>= λ n. members_of (tail (tail ws)) >>= λ m. after_sign SEMICOLON m.1 >>= λ rest. Some (StructTree n m.0, rest)

abbrev pub name_turn : List (List ℕ) → List Word → Turn (List (List ℕ))
name_turn all ws = if has_sign COMMA ws then Tries (first_name (tail ws) >>= λ n. Some (all ++ n ∷ [], tail (tail ws))) else Ends

-- at least one name, and `)`
abbrev pub names_of : List Word → Option (List (List ℕ) × List Word)
names_of ws = first_name ws >>= λ n. turns name_turn (length (tail ws) + 1) (n ∷ []) (tail ws) >>= λ x. after_sign CLOSE_PAREN x.1 >>= λ rest. Some (x.0, rest)

abbrev pub grant_of : List Word → Option (Grant × List Word)
grant_of ws = if has_sign STAR ws then (after_sign CLOSE_PAREN (tail ws) >>= λ rest. Some (All, rest)) else (names_of ws >>= λ x. Some (Libraries x.0, x.1))

-- an annotation, if it stands there
abbrev pub annotation_of : ℕ → List Word → Option (Grant × List Word)
annotation_of word ws = if has_keyword word ws then (after_sign OPEN_PAREN (tail ws) >>= grant_of) else Some (Private, ws)

-- a number below 2^64, negated
abbrev pub negated : ℕ → ℕ
negated n = (2 ^ 64 - n) % 2 ^ 64

abbrev pub first_constant : List Word → Option Init
first_constant [] = None
first_constant (NumberWord value ty ∷ ws) = Some (Number value)
first_constant (CharWord byte ∷ ws) = Some (Number byte)
first_constant (TextWord bytes ∷ ws) = Some (Text bytes)
first_constant (NameWord bytes ∷ ws) = None
first_constant (KeywordWord number ∷ ws) = None
first_constant (SignWord number ∷ ws) = None

abbrev pub constant_value_of : List Word → Option (Init × List Word)
constant_value_of ws = if has_sign MINUS ws then (first_number (tail ws) >>= λ n. Some (Number (negated n), tail (tail ws))) else (first_constant ws >>= λ i. Some (i, tail ws))

-- `=` and a constant, if they stand there
abbrev pub initial_of : List Word → Option (Init × List Word)
initial_of ws = if has_sign ASSIGN ws then constant_value_of (tail ws) else Some (Zero, ws)

-- behind the name of a global
abbrev pub global_of : Grant → Grant → TypeTree → ℕ → List ℕ → List Word → Option (DeclTree × List Word)
global_of grant readers ty left name ws = dims_of left ty ws >>= λ d. initial_of d.1 >>= λ i. after_sign SEMICOLON i.1 >>= λ rest. Some (GlobalTree grant readers d.0 name i.0, rest)

abbrev pub granted_of : List Word → Option (DeclTree × List Word)
granted_of ws = annotation_of SHARED ws >>= λ g. annotation_of READ g.1 >>= λ r. pointer_type_of r.1 >>= λ t. first_name t.2 >>= λ n. global_of g.0 r.0 t.0 t.1 n (tail t.2)

-- a parameter
abbrev pub parameter_of : List Word → Option (ParamTree × List Word)
parameter_of ws = pointer_type_of (behind_shared ws) >>= λ t. first_name t.2 >>= λ n. Some (record { shared = has_keyword SHARED ws; ty = t.0; name = n }, tail t.2)

abbrev pub parameter_turn : List ParamTree → List Word → Turn (List ParamTree)
parameter_turn all ws = if has_sign COMMA ws then Tries (parameter_of (tail ws) >>= λ x. Some (all ++ x.0 ∷ [], x.1)) else Ends

-- at least one parameter, and `)`
abbrev pub some_parameters_of : List Word → Option (List ParamTree × List Word)
some_parameters_of ws = parameter_of ws >>= λ x. turns parameter_turn (length x.1 + 1) (x.0 ∷ []) x.1 >>= λ y. after_sign CLOSE_PAREN y.1 >>= λ rest. Some (y.0, rest)

-- parameters and `)`; `void` alone is none
abbrev pub parameters_of : List Word → Option (List ParamTree × List Word)
parameters_of ws =
    if has_sign CLOSE_PAREN ws then Some ([], tail ws)
    else (if has_keyword VOID ws && has_sign CLOSE_PAREN (tail ws) then Some ([], tail (tail ws))
    else some_parameters_of ws)

-- a function behind its `(`; its own block is no node
abbrev pub function_of : Bool → TypeTree → List ℕ → List Word → Option (DeclTree × List Word)
function_of entry ty name ws = parameters_of ws >>= λ p. after_sign OPEN_BRACE p.1 >>= λ a. statements_by (statement_at nesting) a >>= λ b. Some (FunctionTree entry ty name p.0 b.0, b.1)

-- a function behind `__entry`
abbrev pub entry_of : List Word → Option (DeclTree × List Word)
entry_of ws = pointer_type_of ws >>= λ t. first_name t.2 >>= λ n. after_sign OPEN_PAREN (tail t.2) >>= function_of true t.0 n

-- a global or a function without annotations
abbrev pub plain_of : List Word → Option (DeclTree × List Word)
plain_of ws = pointer_type_of ws >>= λ t. first_name t.2 >>= λ n. (if has_sign OPEN_PAREN (tail t.2) then function_of false t.0 n (tail (tail t.2)) else global_of Private Private t.0 t.1 n (tail t.2))

abbrev pub declaration_by : List Word → DeclarationFront → Option (DeclTree × List Word)
declaration_by ws front.Struct = structure_of (tail ws)
declaration_by ws front.Granted = granted_of ws
declaration_by ws front.Entry = entry_of (tail ws)
declaration_by ws front.Plain = plain_of ws

abbrev pub declaration_of : List Word → Option (DeclTree × List Word)
declaration_of ws = declaration_by ws (declaration_front ws)

-- the declarations of words, behind those already read; or how many stand before the first that isn't one
abbrev pub unit_step : (List DeclTree → List Word → Result (List DeclTree) ℕ) → List DeclTree → Option (DeclTree × List Word) → Result (List DeclTree) ℕ
unit_step next done None = Err (length done)
unit_step next done (Some x) = next (done ++ x.0 ∷ []) x.1

abbrev pub units : ℕ → List DeclTree → List Word → Result (List DeclTree) ℕ
units zero done ws = Err (length done)
units (suc n) done [] = Ok done
units (suc n) done (w ∷ ws) = unit_step (units n) done (declaration_of (w ∷ ws))

-- the declarations of words, or how many stand before the first that isn't one
unfoldable pub unit_of : List Word → Result (List DeclTree) ℕ
unit_of ws = units (length ws + 1) [] ws

-- what reading gives, where so many declarations were read: all of them, or those before what isn't one
abbrev pub Reads : Result (Unit {0}) Fault → List DeclTree → ℕ → Result (List DeclTree) ℕ → Type 0
Reads (Ok x) done count read = read ≡ Ok done
Reads (Err fault.Syntax) done count read = read ≡ Err count
Reads (Err fault.OutOfMemory) done count read = Unit {0}

-- what is known of a text's tokens says what its unit is, or why it has none
abbrev pub GivesUnit : Result Parsed ParseError → Result (List DeclTree) ℕ → Type 0
GivesUnit (Ok u) read = read ≡ Ok (decl_trees u.decls)
GivesUnit (Err (Syntax n)) read = read ≡ Err n
GivesUnit (Err (Byte at)) read = ⊥
GivesUnit (Err OutOfMemory) read = Unit {0}

abbrev pub GivesOf : List ℕ → Result Parsed ParseError → Result (List Token) ℕ → Type 0
GivesOf text (Err OutOfMemory) read = Unit {0}
GivesOf text (Err (Byte at)) read = read ≡ Err at
GivesOf text (Err (Syntax n)) read = (ts : List Token) × (read ≡ Ok ts) × (unit_of (words text ts) ≡ Err n)
GivesOf text (Ok u) read = (ts : List Token) × (read ≡ Ok ts) × (unit_of (words text ts) ≡ Ok (decl_trees u.decls))
