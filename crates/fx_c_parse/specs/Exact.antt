-- What the grammar says of a text, and what reading has to do with it.
use Rattle.std.specs.Prelude.{◌≡◌, ℕ, List, Some, Result, Ok, Err}
use Rattle.fx_c_ast.specs.declared.parsed.Unit.{Unit as Parsed}
use Rattle.fx_c_ast.specs.ParsedTrees.{DeclTree, decl_trees}
use Rattle.fx_c_lex.specs.declared.token.Token.{Token}
use Rattle.fx_c_lex.specs.Laws.{InOrder}
use Rattle.fx_c_parse.specs.declared.fault.ParseError.{ParseError}
use Rattle.fx_c_parse.specs.declared.fault.ParseError.TheVariants.{Byte, Syntax, OutOfMemory}
use Rattle.fx_c_parse.specs.Words.{Word, words}
use Rattle.fx_c_parse.specs.Declarations.{declaration_of}
use Rattle.fx_c_parse.specs.Units.{IsDeclaration, IsUnit, StopsBehind}

-- a text's tokens are these declarations
abbrev pub IsTextOf : List ℕ → List DeclTree → Type 0
IsTextOf text ds = (ts : List Token) × InOrder text 0 ts × IsUnit (words text ts) ds

-- a text's tokens are so many declarations and a rest that no declaration begins
abbrev pub StopsText : List ℕ → ℕ → Type 0
StopsText text n = (ts : List Token) × InOrder text 0 ts × StopsBehind (words text ts) n

-- an answer is this tree, unless memory ran out
abbrev pub Answers : Result Parsed ParseError → List DeclTree → Type 0
Answers (Ok u) ds = decl_trees u.decls ≡ ds
Answers (Err OutOfMemory) ds = Unit {0}
Answers (Err (Byte at)) ds = ⊥
Answers (Err (Syntax n)) ds = ⊥

-- what holds of a tree that was answered
abbrev pub IfTree : Result Parsed ParseError → (List DeclTree → Type 0) → Type 0
IfTree (Ok u) P = P (decl_trees u.decls)
IfTree (Err e) P = Unit {0}

-- what holds of the count in an answer `Syntax`
abbrev pub IfSyntax : Result Parsed ParseError → (ℕ → Type 0) → Type 0
IfSyntax (Ok u) P = Unit {0}
IfSyntax (Err (Syntax n)) P = P n
IfSyntax (Err (Byte at)) P = Unit {0}
IfSyntax (Err OutOfMemory) P = Unit {0}

-- what holds of the place in an answer `Byte`
abbrev pub IfByte : Result Parsed ParseError → (ℕ → Type 0) → Type 0
IfByte (Ok u) P = Unit {0}
IfByte (Err (Byte at)) P = P at
IfByte (Err (Syntax n)) P = Unit {0}
IfByte (Err OutOfMemory) P = Unit {0}

-- words are one tree at most
abbrev pub IsOneTree : Type 0
IsOneTree = (ws : List Word) (ds es : List DeclTree) → IsUnit ws ds → IsUnit ws es → ds ≡ es

-- what is read is in the grammar, and what is in the grammar is read
abbrev pub IsSound : Type 0
IsSound = (ws : List Word) (d : DeclTree) (rest : List Word) → declaration_of ws ≡ Some (d, rest) → IsDeclaration ws d rest

abbrev pub IsComplete : Type 0
IsComplete = (ws : List Word) (d : DeclTree) (rest : List Word) → IsDeclaration ws d rest → declaration_of ws ≡ Some (d, rest)
