-- How many declarations files have.
use Rattle.std.proofs.Common.{◌≡◌, ℕ, zero, suc, ◌+◌, ◌*◌, ◌≤◌, List, [], ◌∷◌, ◌++◌, length, Option, Some, None, Ok, refl, ap, arith}
use Rattle.std.proofs.lemmas.List.{length-append}
use Rattle.fx_base.specs.Files.{Held}
use Rattle.fx_c_ast.specs.declared.parsed.Decl.{Decl}
use Rattle.fx_c_ast.specs.ParsedTrees.{DeclTree, decl_trees}
use Rattle.fx_c_lex.specs.declared.token.Token.{Token}
use Rattle.fx_c_lex.specs.Laws.{InOrder}
use Rattle.fx_c_parse.specs.Words.{Word, words}
use Rattle.fx_c_parse.specs.Declarations.{units, unit_of, unit_step, declaration_of}
use Rattle.fx_c_parse.specs.Units.{IsUnit}
use Rattle.fx_c_parse.specs.Exact.{IsTextOf}
use Rattle.fx_c_parse.proofs.CompleteUnits.{unit_complete}
use Rattle.fx_c_types.specs.ProgramView.{placed_in, declarations}
use Rattle.fx_config.specs.declared.configuration.Config.{Config}
use Rattle.fx_cmd_load.specs.declared.parsing.ParsedFile.{ParsedFile}
use Rattle.fx_cmd_load.specs.Named.{Named, from_library}
use Rattle.fx_cmd_load.specs.Reading.{AreRead}
use Rattle.fx_cmd_load.specs.Parsing.{AreParsed}
use Rattle.fx_cmd_load.specs.Loading.{IsLoaded, SourcesGiven, HasFewParts}
use Rattle.fx_cmd_load.proofs.Trees.{named_count}
use Rattle.fx_cmd_load.specs.Programs.{sources_of}

-- each declaration takes a word
units_few : (n : ℕ) (done ds : List DeclTree) (ws : List Word) → units n done ws ≡ Ok ds → length ds + 1 ≤ length done + n
units_few zero done ds ws is = absurd cc
units_few (suc n) done ds [] is = let same : done ≡ ds = cc in omega (arith, ap length same)
units_few (suc n) done ds (w ∷ ws) is = by (declaration_of (w ∷ ws)) is (λ more rest rest_is. units_few n more ds rest rest_is)
  where
    by : (step : Option (DeclTree × List Word)) → unit_step (units n) done step ≡ Ok ds → ((more : List DeclTree) (rest : List Word) → units n more rest ≡ Ok ds → length ds + 1 ≤ length more + n) → length ds + 1 ≤ length done + suc n
    by None step_is again = absurd cc
    by (Some x) step_is again = omega (arith, again (done ++ x.0 ∷ []) x.1 step_is, length-append done (x.0 ∷ []))

unit_few : (ws : List Word) (ds : List DeclTree) → IsUnit ws ds → length ds ≤ length ws
unfolding unit_of
unit_few ws ds is = omega (arith, units_few (length ws + 1) [] ds ws (unit_complete ws ds is))

length-words : (text : List ℕ) (ts : List Token) → length (words text ts) ≡ length ts
length-words text [] = refl
length-words text (t ∷ ts) = ap suc (length-words text ts)

-- each token takes a byte
tokens_few : (text : List ℕ) (at : ℕ) (ts : List Token) → at ≤ length text → InOrder text at ts → at + length ts ≤ length text
tokens_few text at [] le order = omega arith
tokens_few text at (t ∷ ts) le order =
    let token = order.2 in
    omega (arith, order.0, token.some, tokens_few text t.end ts token.within order.3)

length-decls : (ds : List Decl) → length (decl_trees ds) ≡ length ds
length-decls [] = refl
length-decls (d ∷ ds) = ap suc (length-decls ds)

text_few : (text : List ℕ) (ds : List Decl) → IsTextOf text (decl_trees ds) → length ds ≤ length text
text_few text ds is = omega (arith, length-decls ds, unit_few (words text is.0) (decl_trees ds) is.2, length-words text is.0, tokens_few text 0 is.0 (omega arith) is.1)

length-placed : (library : ℕ) (ds : List Decl) → length (placed_in library ds) ≡ length ds
length-placed library [] = refl
length-placed library (d ∷ ds) = ap suc (length-placed library ds)

files_few : (held : Option Held) (ns : List Named) (ts : List (List ℕ)) (fs : List ParsedFile) → AreRead held ns ts → AreParsed ns ts fs → length (declarations (sources_of fs)) ≤ 1048576 * length ns
files_few held [] [] [] read parsed = omega arith
files_few held [] [] (f ∷ fs) read parsed = absurd parsed
files_few held [] (t ∷ ts) fs read parsed = absurd parsed
files_few held (n ∷ ns) [] fs read parsed = absurd parsed
files_few held (n ∷ ns) (t ∷ ts) [] read parsed = absurd parsed
files_few held (n ∷ ns) (t ∷ ts) (f ∷ fs) read parsed =
    omega (arith, length-append (placed_in f.library f.unit.decls) (declarations (sources_of fs)), length-placed f.library f.unit.decls, text_few t f.unit.decls parsed.1, read.1, files_few held ns ts fs read.2 parsed.2)

pub few_given : (held : Option Held) (k : Config) (files : List ParsedFile)
    → SourcesGiven held (from_library 0 k.libraries) files → HasFewParts k
    → length (declarations (sources_of files)) ≤ 67108864
few_given held k files given few =
    omega (
      arith,
      files_few held (from_library 0 k.libraries) given.0 files given.1 given.2,
      named_count 0 k.libraries,
      few.files,
    )

pub few_declarations : (name : List ℕ) (held : Option Held) (k : Config) (files : List ParsedFile)
    → IsLoaded name held k files → HasFewParts k
    → length (declarations (sources_of files)) ≤ 67108864
few_declarations name held k files loaded few = few_given held k files loaded.1 few
