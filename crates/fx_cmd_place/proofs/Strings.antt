-- How many strings stand in the files of a configuration.
use Rattle.std.proofs.Common.{ℕ, ◌*◌, ◌≤◌, List, [], ◌∷◌, length, Option, arith}
use Rattle.fx_base.specs.Files.{Held}
use Rattle.fx_config.specs.declared.configuration.Config.{Config}
use Rattle.fx_c_ast.specs.ParsedTrees.{decl_trees}
use Rattle.fx_c_types.specs.ProgramView.{placed_in, declarations}
use Rattle.fx_c_types_texts_law.specs.Strings.{program_strings}
use Rattle.fx_c_types_texts_law.proofs.Written.{few_strings, strings-append, strings-placed}
use Rattle.fx_cmd_load.specs.declared.parsing.ParsedFile.{ParsedFile}
use Rattle.fx_cmd_load.specs.Named.{Named, from_library}
use Rattle.fx_cmd_load.specs.Reading.{AreRead}
use Rattle.fx_cmd_load.specs.Parsing.{AreParsed}
use Rattle.fx_cmd_load.specs.Loading.{IsLoaded, HasFewParts}
use Rattle.fx_cmd_load.proofs.Trees.{named_count}
use Rattle.fx_cmd_load.specs.Programs.{sources_of}

-- each string takes a byte of its file, and a file has at most 1,048,576 bytes
files_written : (held : Option Held) (ns : List Named) (ts : List (List ℕ)) (fs : List ParsedFile) → AreRead held ns ts → AreParsed ns ts fs → program_strings (declarations (sources_of fs)) ≤ 1048576 * length ns
files_written held [] [] [] read parsed = omega arith
files_written held [] [] (f ∷ fs) read parsed = absurd parsed
files_written held [] (t ∷ ts) fs read parsed = absurd parsed
files_written held (n ∷ ns) [] fs read parsed = absurd parsed
files_written held (n ∷ ns) (t ∷ ts) [] read parsed = absurd parsed
files_written held (n ∷ ns) (t ∷ ts) (f ∷ fs) read parsed =
    omega (arith, strings-append (placed_in f.library f.unit.decls) (declarations (sources_of fs)), strings-placed f.library f.unit.decls, few_strings t (decl_trees f.unit.decls) parsed.1, read.1, files_written held ns ts fs read.2 parsed.2)

pub few_written : (name : List ℕ) (held : Option Held) (k : Config) (files : List ParsedFile) → IsLoaded name held k files → HasFewParts k → program_strings (declarations (sources_of files)) ≤ 67108864
few_written name held k files loaded few =
    let given = loaded.1 in
    omega (arith, files_written held (from_library 0 k.libraries) given.0 files given.1 given.2, named_count 0 k.libraries, few.files)
