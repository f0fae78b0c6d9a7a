-- The checked program of a configuration and its sources, and why there is none.
use Rattle.std.specs.Prelude.{◌≡◌, ℕ, List, map, Option, Ok, Err}
use Rattle.fx_base.specs.Files.{Held}
use Rattle.fx_config.specs.declared.configuration.Config.{Config as Configuration}
use Rattle.fx_c_ast.specs.declared.checked.TProgram.{TProgram}
use Rattle.fx_c_types.specs.declared.program.SourceFile.{SourceFile}
use Rattle.fx_c_types.specs.declared.fault.TypeError.TheVariants.{Rule}
use Rattle.fx_c_types.specs.Programs.{well_typed}
use Rattle.fx_c_types.specs.ProgramView.{declarations, program_tree}
use Rattle.fx_cmd_load.specs.declared.parsing.ParsedFile.{ParsedFile}
use Rattle.fx_cmd_load.specs.declared.error.LoadError.TheVariants as load
use Rattle.fx_cmd_load.specs.Named.{Named, from_library}
use Rattle.fx_cmd_load.specs.Loading.{IsLoaded, LoadCause, SourcesGiven}
use Rattle.fx_cmd_load.specs.Loading.{ConfigurationCause, SourcesCause}
use Rattle.fx_cmd_load.specs.Reading.{LeavesCount, FaultLeaves}
use Rattle.fx_cmd_load.specs.declared.program_error.ProgramError.{ProgramError}
use Rattle.fx_cmd_load.specs.declared.program_error.ProgramError.TheVariants.{File, Config, Parse}
use Rattle.fx_cmd_load.specs.declared.program_error.ProgramError.TheVariants.{Types, OutOfMemory}

-- a parsed file, for the check
abbrev pub source_of : ParsedFile → SourceFile
source_of f = record { library = f.library; unit = f.unit }

abbrev pub sources_of : List ParsedFile → List SourceFile
sources_of files = map source_of files

-- the program is what the files mean, and they keep all rules
abbrev pub IsChecked : List ParsedFile → TProgram → Type 0
IsChecked files p = well_typed (declarations (sources_of files)) ≡ Ok (program_tree p)

-- the program is that of the texts of the configuration's files
abbrev pub IsSourcesProgram : Option Held → Configuration → TProgram → Type 0
IsSourcesProgram held k p =
    (files : List ParsedFile) × SourcesGiven held (from_library 0 k.libraries) files
    × IsChecked files p

-- the configuration is what the text under the name means, and the program is that of the texts of
-- its files
abbrev pub IsProgramOf : List ℕ → Option Held → Configuration → TProgram → Type 0
IsProgramOf name held k p =
    (files : List ParsedFile) × IsLoaded name held k files × IsChecked files p

-- a rule that the files violate first
abbrev pub BreaksRule : List ParsedFile → ProgramError → Type 0
BreaksRule files (Types kind declaration) =
    well_typed (declarations (sources_of files)) ≡ Err (Rule kind declaration)
BreaksRule files (File name error) = ⊥
BreaksRule files (Config error) = ⊥
BreaksRule files (Parse file error) = ⊥
BreaksRule files OutOfMemory = Unit {0}

-- nothing but a file that failed changes the count of faults, as far as memory was there to say
-- which
abbrev pub ProgramLeaves : Option Held → ℕ → ℕ → ProgramError → Type 0
ProgramLeaves held before now (File name error) = FaultLeaves error held before now
ProgramLeaves held before now OutOfMemory = Unit {0}
ProgramLeaves held before now _ = LeavesCount held before now

-- ---- the steps

-- why there is no configuration: it was not read, or the text under the name is refused
abbrev pub UnconfiguredCause : List ℕ → Option Held → ℕ → ℕ → ProgramError → Type 0
UnconfiguredCause name held before now (File n error) =
    ConfigurationCause name held before now (load.File n error)
UnconfiguredCause name held before now (Config error) =
    ConfigurationCause name held before now (load.Config error)
UnconfiguredCause name held before now (Parse file error) = ⊥
UnconfiguredCause name held before now (Types kind declaration) = ⊥
UnconfiguredCause name held before now OutOfMemory = Unit {0}

-- why files have no trees: one was not read; or all were, and one has no tree
abbrev pub UnparsedCause : Option Held → ℕ → ℕ → List Named → ProgramError → Type 0
UnparsedCause held before now names (File n error) =
    SourcesCause held before now names (load.File n error)
UnparsedCause held before now names (Config error) = ⊥
UnparsedCause held before now names (Parse file error) =
    SourcesCause held before now names (load.Parse file error)
UnparsedCause held before now names (Types kind declaration) = ⊥
UnparsedCause held before now names OutOfMemory = Unit {0}

-- why files have no program: they have no trees, for the cause of that; or they have, and this is
-- the first rule that they violate
abbrev pub UncheckedCause : Option Held → ℕ → ℕ → List Named → ProgramError → Type 0
UncheckedCause held before now names (File n error) =
    SourcesCause held before now names (load.File n error)
UncheckedCause held before now names (Config error) = ⊥
UncheckedCause held before now names (Parse file error) =
    SourcesCause held before now names (load.Parse file error)
UncheckedCause held before now names (Types kind declaration) =
    (files : List ParsedFile) × SourcesGiven held names files
    × (well_typed (declarations (sources_of files)) ≡ Err (Rule kind declaration))
UncheckedCause held before now names OutOfMemory = Unit {0}

-- ---- both

-- Why there is no program, by the first step that failed: nothing is loaded, for its cause; or files
-- are loaded, and this is the first rule that they violate. Want of memory is free.
abbrev pub ProgramCause : List ℕ → Option Held → ℕ → ℕ → ProgramError → Type 0
ProgramCause name held before now (File n error) =
    LoadCause name held before now (load.File n error)
ProgramCause name held before now (Config error) =
    LoadCause name held before now (load.Config error)
ProgramCause name held before now (Parse file error) =
    LoadCause name held before now (load.Parse file error)
ProgramCause name held before now (Types kind declaration) =
    (k : Configuration) × (files : List ParsedFile) × IsLoaded name held k files
    × (well_typed (declarations (sources_of files)) ≡ Err (Rule kind declaration))
ProgramCause name held before now OutOfMemory = Unit {0}
