-- The files of a configuration are the trees of texts, which are few and short.
use Rattle.std.proofs.Common.{ℕ, ◌*◌, ◌≤◌, List, [], ◌∷◌, length, Option, arith}
use Rattle.std.specs.Prelude.{All}
use Rattle.fx_base.specs.Files.{Held}
use Rattle.fx_config.specs.declared.configuration.Config.{Config}
use Rattle.fx_c_ast.specs.declared.checked.TFunction.{TFunction}
use Rattle.fx_c_ast.specs.declared.checked.TProgram.{TProgram}
use Rattle.fx_c_ast.specs.CheckedTrees.{tstmt_trees, struct_types}
use Rattle.fx_c_types_model.specs.Tables.{tables}
use Rattle.fx_c_types_model.specs.Trees.{AreRight}
use Rattle.fx_c_types_model.specs.Each.{EachInAll}
use Rattle.fx_c_types_model.specs.Fits.{DeviceFits, ElementFits}
use Rattle.fx_c_types_model.specs.Lowerable.{IsLowerable}
use Rattle.fx_c_types_texts_law.specs.Texts.{AreFilesOf, bytes_of}
use Rattle.fx_c_types_texts_law.proofs.Devices.{devices_fit}
use Rattle.fx_c_types_texts_law.proofs.Elements.{elements_fit}
use Rattle.fx_c_types_texts_law.proofs.Numbers.{bodies_right}
use Rattle.fx_c_types_lowerable_law.proofs.Lowerable.{lowerable}
use Rattle.fx_cmd_load.specs.declared.parsing.ParsedFile.{ParsedFile}
use Rattle.fx_cmd_load.specs.Named.{Named, from_library}
use Rattle.fx_cmd_load.specs.Reading.{AreRead}
use Rattle.fx_cmd_load.specs.Parsing.{AreParsed}
use Rattle.fx_cmd_load.specs.Loading.{HasFewParts}
use Rattle.fx_cmd_load.proofs.Trees.{named_count}
use Rattle.fx_cmd_load.specs.Programs.{sources_of, IsProgramOf}

files_are : (ns : List Named) (ts : List (List ℕ)) (fs : List ParsedFile) → AreParsed ns ts fs → AreFilesOf ts (sources_of fs)
files_are [] [] [] parsed = tt
files_are [] [] (f ∷ fs) parsed = absurd parsed
files_are [] (t ∷ ts) fs parsed = absurd parsed
files_are (n ∷ ns) [] fs parsed = absurd parsed
files_are (n ∷ ns) (t ∷ ts) [] parsed = absurd parsed
files_are (n ∷ ns) (t ∷ ts) (f ∷ fs) parsed = (parsed.1, files_are ns ts fs parsed.2)

bytes_few : (held : Option Held) (ns : List Named) (ts : List (List ℕ)) → AreRead held ns ts → bytes_of ts ≤ 1048576 * length ns
bytes_few held [] [] read = omega arith
bytes_few held [] (t ∷ ts) read = absurd read
bytes_few held (n ∷ ns) [] read = absurd read
bytes_few held (n ∷ ns) (t ∷ ts) read = omega (arith, read.1, bytes_few held ns ts read.2)

short : (name : List ℕ) (held : Option Held) (k : Config) (p : TProgram) (is : IsProgramOf name held k p) → HasFewParts k → bytes_of is.1.1.0 ≤ 67108864
short name held k p is few = omega (arith, bytes_few held (from_library 0 k.libraries) is.1.1.0 is.1.1.1, named_count 0 k.libraries, few.files)

pub configured_right : (name : List ℕ) (held : Option Held) (k : Config) (p : TProgram) → IsProgramOf name held k p → HasFewParts k → All (λ (f : TFunction). AreRight (tables p f) (tstmt_trees f.body.items)) p.functions
configured_right name held k p is few =
    bodies_right is.1.1.0 (sources_of is.0) p (files_are (from_library 0 k.libraries) is.1.1.0 is.0 is.1.1.2) (short name held k p is few) is.2

pub configured_lowerable : (name : List ℕ) (held : Option Held) (k : Config) (p : TProgram) → IsProgramOf name held k p → HasFewParts k → IsLowerable p
configured_lowerable name held k p is few =
    lowerable is.1.1.0 (sources_of is.0) p (files_are (from_library 0 k.libraries) is.1.1.0 is.0 is.1.1.2) (short name held k p is few) is.2

pub configured_fit : (name : List ℕ) (held : Option Held) (k : Config) (p : TProgram) → IsProgramOf name held k p → All (λ (f : TFunction). EachInAll DeviceFits (tstmt_trees f.body.items)) p.functions × All (λ (f : TFunction). EachInAll (ElementFits (struct_types p.structs)) (tstmt_trees f.body.items)) p.functions
configured_fit name held k p is =
    let given = is.1.1 in
    let are : AreFilesOf given.0 (sources_of is.0) = files_are (from_library 0 k.libraries) given.0 is.0 given.2 in
    (devices_fit given.0 (sources_of is.0) p are is.2, elements_fit given.0 (sources_of is.0) p are is.2)
