-- What was parsed of texts, and which text has no tree.
use Rattle.std.specs.Prelude.{◌≡◌, ℕ, List, [], ◌∷◌, ◌++◌, length}
use Rattle.fx_c_ast.specs.declared.parsed.Unit.{Unit as Parsed}
use Rattle.fx_c_ast.specs.ParsedTrees.{DeclTree, decl_trees}
use Rattle.fx_c_lex.specs.declared.token.Token.{Token}
use Rattle.fx_c_lex.specs.Laws.{StopsAfter}
use Rattle.fx_c_parse.specs.Exact.{IsTextOf, StopsText}
use Rattle.fx_c_parse.specs.declared.fault.ParseError.{ParseError}
use Rattle.fx_c_parse.specs.declared.fault.ParseError.TheVariants as parse
use Rattle.fx_cmd_load.specs.declared.error.LoadError.{LoadError}
use Rattle.fx_cmd_load.specs.declared.error.LoadError.TheVariants.{File, Config, Parse, OutOfMemory}
use Rattle.fx_cmd_load.specs.declared.parsing.ParsedFile.{ParsedFile}
use Rattle.fx_cmd_load.specs.Named.{Named}

-- the text is the tree's by the grammar
abbrev pub HasTree : List ℕ → Parsed → Type 0
HasTree text unit = IsTextOf text (decl_trees unit.decls)

-- the files' trees, in order
abbrev pub AreParsed : List Named → List (List ℕ) → List ParsedFile → Type 0
AreParsed [] [] [] = Unit {0}
AreParsed [] [] (f ∷ fs) = ⊥
AreParsed [] (t ∷ ts) fs = ⊥
AreParsed (n ∷ ns) [] fs = ⊥
AreParsed (n ∷ ns) (t ∷ ts) [] = ⊥
AreParsed (n ∷ ns) (t ∷ ts) (f ∷ fs) = (f.library ≡ n.library) × HasTree t f.unit × AreParsed ns ts fs

-- each text has a tree
abbrev pub HaveTrees : List (List ℕ) → Type 0
HaveTrees [] = Unit {0}
HaveTrees (t ∷ ts) = ((ds : List DeclTree) × IsTextOf t ds) × HaveTrees ts

-- why a text has no tree: the first place without a token, or how many declarations stand before a rest that
-- isn't empty and that no declaration begins
abbrev pub NoTree : List ℕ → ParseError → Type 0
NoTree text (parse.Byte at) = (ts : List Token) × StopsAfter text 0 ts at
NoTree text (parse.Syntax n) = StopsText text n
NoTree text parse.OutOfMemory = ⊥

abbrev pub HasNoTree : List ℕ → ℕ → LoadError → Type 0
HasNoTree text number (Parse file error) = (file ≡ number) × NoTree text error
HasNoTree text number (File name error) = ⊥
HasNoTree text number (Config error) = ⊥
HasNoTree text number OutOfMemory = Unit {0}

-- the texts before the one of a number have trees, and that one has none
pub record StopsParsing (texts : List (List ℕ)) (file : ℕ) (error : ParseError) : Type 0 where
  pub first : List (List ℕ)
  pub next : List ℕ
  pub rest : List (List ℕ)
  pub order : texts ≡ first ++ next ∷ rest
  pub number : length first ≡ file
  pub trees : HaveTrees first
  pub none : NoTree next error

abbrev pub OneHasNoTree : List (List ℕ) → LoadError → Type 0
OneHasNoTree texts (Parse file error) = StopsParsing texts file error
OneHasNoTree texts (File name error) = ⊥
OneHasNoTree texts (Config error) = ⊥
OneHasNoTree texts OutOfMemory = Unit {0}
