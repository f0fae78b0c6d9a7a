-- The grammar of declarations and files (this project's C profile), and what a file is that has no tree.
use Rattle.std.specs.Prelude.{◌≡◌, ℕ, ◌≤◌, Bool, true, false, List, [], ◌∷◌, length}
use Rattle.fx_c_ast.specs.declared.operator.IntType.{IntType}
use Rattle.fx_c_ast.specs.declared.parsed.Grant.{Grant}
use Rattle.fx_c_ast.specs.declared.parsed.Grant.TheVariants.{Private, Libraries, All}
use Rattle.fx_c_ast.specs.declared.parsed.Init.{Init}
use Rattle.fx_c_ast.specs.declared.parsed.Init.TheVariants.{Zero, Number, Text}
use Rattle.fx_c_ast.specs.ParsedTrees.{TypeTree, StmtTrees, ParamTree, DeclTree, StructTree, GlobalTree, FunctionTree}
use Rattle.fx_c_lex.specs.declared.sign.TheConstants.{OPEN_PAREN, CLOSE_PAREN, OPEN_BRACE, CLOSE_BRACE, COMMA, SEMICOLON, ASSIGN, MINUS, STAR}
use Rattle.fx_c_lex.specs.declared.keyword.TheConstants.{SHARED, READ, ENTRY, STRUCT, VOID}
use Rattle.fx_c_parse.specs.Words.{Word, NameWord, KeywordWord, NumberWord, CharWord, TextWord, SignWord}
use Rattle.fx_c_parse.specs.Types.{nesting}
use Rattle.fx_c_parse.specs.Declarations.{negated}
use Rattle.fx_c_parse.specs.Grammar.{IsPointerType}
use Rattle.fx_c_parse.specs.Phrases.{IsDeclarator, IsShared, IsStatements}

-- phrases of one kind, any number of them
pub data IsList {A : Type 0} (Is : List Word → A → List Word → Type 0) : List Word → List A → List Word → Type 0 where
  no_item : {rest : List Word} → IsList Is rest [] rest
  next_item : {ws a : List Word} {x : A} {xs : List A} {rest : List Word} → Is ws x a → IsList Is a xs rest → IsList Is ws (x ∷ xs) rest

pub data IsMember : List Word → TypeTree × List ℕ → List Word → Type 0 where
  struct_member : {ws : List Word} {t : TypeTree} {name : List ℕ} {rest : List Word} → IsDeclarator ws t name (SignWord SEMICOLON ∷ rest) → IsMember ws (t, name) rest

pub data IsNextName : List Word → List ℕ → List Word → Type 0 where
  next_name : {name : List ℕ} {rest : List Word} → IsNextName (SignWord COMMA ∷ NameWord name ∷ rest) name rest

-- an annotation of this keyword, or nothing
pub data IsGrant : ℕ → List Word → Grant → List Word → Type 0 where
  no_grant : {word : ℕ} {rest : List Word} → IsGrant word rest Private rest
  grant_all : {word : ℕ} {rest : List Word} → IsGrant word (KeywordWord word ∷ SignWord OPEN_PAREN ∷ SignWord STAR ∷ SignWord CLOSE_PAREN ∷ rest) All rest
  grant_some : {word : ℕ} {name : List ℕ} {names : List (List ℕ)} {a : List Word} {rest : List Word}
      → IsList IsNextName a names (SignWord CLOSE_PAREN ∷ rest)
      → IsGrant word (KeywordWord word ∷ SignWord OPEN_PAREN ∷ NameWord name ∷ a)
      (Libraries (name ∷ names)) rest

-- `=` and a constant, or nothing
pub data IsInitial : List Word → Init → List Word → Type 0 where
  no_initial : {rest : List Word} → IsInitial rest Zero rest
  negative : {value : ℕ} {ty : IntType} {rest : List Word} → IsInitial (SignWord ASSIGN ∷ SignWord MINUS ∷ NumberWord value ty ∷ rest) (Number (negated value)) rest
  positive : {value : ℕ} {ty : IntType} {rest : List Word} → IsInitial (SignWord ASSIGN ∷ NumberWord value ty ∷ rest) (Number value) rest
  byte_value : {byte : ℕ} {rest : List Word} → IsInitial (SignWord ASSIGN ∷ CharWord byte ∷ rest) (Number byte) rest
  text_value : {bytes : List ℕ} {rest : List Word} → IsInitial (SignWord ASSIGN ∷ TextWord bytes ∷ rest) (Text bytes) rest

-- `__entry`, or nothing
pub data IsEntry : List Word → Bool → List Word → Type 0 where
  no_entry : {rest : List Word} → IsEntry rest false rest
  entry : {rest : List Word} → IsEntry (KeywordWord ENTRY ∷ rest) true rest

pub data IsParameter : List Word → ParamTree → List Word → Type 0 where
  parameter : {n : ℕ} {ws a : List Word} {s : Bool} {t : TypeTree} {name : List ℕ}
      {rest : List Word}
      → IsShared ws s a → IsPointerType n a t (NameWord name ∷ rest) → n ≤ nesting
      → IsParameter ws (record { shared = s; ty = t; name = name }) rest

pub data IsNextParameter : List Word → ParamTree → List Word → Type 0 where
  next_parameter : {a : List Word} {p : ParamTree} {rest : List Word} → IsParameter a p rest → IsNextParameter (SignWord COMMA ∷ a) p rest

-- `void` alone is no parameter
pub data IsParameters : List Word → List ParamTree → List Word → Type 0 where
  no_parameter : {rest : List Word} → IsParameters rest [] rest
  void_alone : {rest : List Word} → IsParameters (KeywordWord VOID ∷ rest) [] rest
  parameters : {ws a : List Word} {p : ParamTree} {ps : List ParamTree} {rest : List Word} → IsParameter ws p a → IsList IsNextParameter a ps rest → IsParameters ws (p ∷ ps) rest

-- a declaration within nesting; a function's own block is no node
pub data IsDeclaration : List Word → DeclTree → List Word → Type 0 where
  structure : {a b : List Word} {name : List ℕ} {m : TypeTree × List ℕ}
      {ms : List (TypeTree × List ℕ)} {rest : List Word}
      → IsMember a m b → IsList IsMember b ms (SignWord CLOSE_BRACE ∷ SignWord SEMICOLON ∷ rest)
      → IsDeclaration (KeywordWord STRUCT ∷ NameWord name ∷ SignWord OPEN_BRACE ∷ a)
      (StructTree name (m ∷ ms)) rest
  global : {ws a b c : List Word} {g r : Grant} {t : TypeTree} {name : List ℕ} {i : Init}
      {rest : List Word}
      → IsGrant SHARED ws g a → IsGrant READ a r b → IsDeclarator b t name c
      → IsInitial c i (SignWord SEMICOLON ∷ rest) → IsDeclaration ws (GlobalTree g r t name i) rest
  function : {n h : ℕ} {ws a b c : List Word} {e : Bool} {t : TypeTree} {name : List ℕ}
      {ps : List ParamTree} {ss : StmtTrees} {rest : List Word}
      → IsEntry ws e a → IsPointerType n a t (NameWord name ∷ SignWord OPEN_PAREN ∷ b) → n ≤ nesting
      → IsParameters b ps (SignWord CLOSE_PAREN ∷ SignWord OPEN_BRACE ∷ c)
      → IsStatements c ss h (SignWord CLOSE_BRACE ∷ rest) → h ≤ nesting
      → IsDeclaration ws (FunctionTree e t name ps ss) rest

-- a file: declarations and nothing behind them
abbrev pub IsUnit : List Word → List DeclTree → Type 0
IsUnit ws ds = IsList IsDeclaration ws ds []

-- no file: behind so many declarations there is a rest that no declaration begins
pub record StopsBehind (ws : List Word) (n : ℕ) : Type 0 where
  pub declarations : List DeclTree
  pub rest : List Word
  pub begun : IsList IsDeclaration ws declarations rest
  pub count : length declarations ≡ n
  pub some : rest ≡ [] → ⊥
  pub none : (d : DeclTree) (after : List Word) → IsDeclaration rest d after → ⊥
