-- The causes of what was not loaded, as those of a program, step by step.
use Rattle.std.proofs.Common.{ℕ, ◌≤◌, inl, inr, List, Option}
use Rattle.fx_base.specs.Told.{Told}
use Rattle.fx_base.specs.Files.{Held, SameFiles}
use Rattle.fx_config.specs.declared.configuration.Config.{Config as Configuration}
use Rattle.fx_cmd_load.specs.declared.error.LoadError.{LoadError}
use Rattle.fx_cmd_load.specs.declared.error.LoadError.TheVariants.{File, Config, Parse, OutOfMemory}
use Rattle.fx_cmd_load.specs.Named.{Named, from_library}
use Rattle.fx_cmd_load.specs.Loading.{IsConfigured, ConfigurationCause, SourcesGiven, SourcesCause}
use Rattle.fx_cmd_load.specs.declared.parsing.ParsedFile.{ParsedFile}
use Rattle.fx_cmd_load.specs.declared.program_error.ProgramError.{ProgramError}
use Rattle.fx_cmd_load.specs.declared.program_error.ProgramError.TheVariants as program
use Rattle.fx_cmd_load.specs.Errors.{unloaded}
use Rattle.fx_cmd_load.specs.Reading.{LeavesCount, ErrorLeaves}
use Rattle.fx_cmd_load.specs.Programs.{UnconfiguredCause, UnparsedCause, UncheckedCause}
use Rattle.fx_cmd_load.specs.Programs.{ProgramCause, ProgramLeaves, BreaksRule}
use Rattle.fx_cmd_load.proofs.Stages.{read_before, counted_twice, fault_leaves}
use Rattle.fx_cmd_load.proofs.Work.{stops_before}

-- ---- what was refused, as refusals of a program

pub unconfigured : (name : List ℕ) (held : Option Held) (before now : ℕ) (error : LoadError)
    → ConfigurationCause name held before now error
    → UnconfiguredCause name held before now (unloaded error)
unconfigured name held before now (File n error) cause = cause
unconfigured name held before now (Config error) cause = cause
unconfigured name held before now (Parse file error) cause = absurd cause
unconfigured name held before now OutOfMemory cause = tt

pub unparsed : (held : Option Held) (before now : ℕ) (names : List Named) (error : LoadError)
    → SourcesCause held before now names error
    → UnparsedCause held before now names (unloaded error)
unparsed held before now names (File n error) cause = cause
unparsed held before now names (Config error) cause = absurd cause
unparsed held before now names (Parse file error) cause = cause
unparsed held before now names OutOfMemory cause = tt

pub unloaded_leaves : (held : Option Held) (before now : ℕ) (error : LoadError)
    → ErrorLeaves held before now error → ProgramLeaves held before now (unloaded error)
unloaded_leaves held before now (File name error) leaves = leaves
unloaded_leaves held before now (Config error) leaves = leaves
unloaded_leaves held before now (Parse file error) leaves = leaves
unloaded_leaves held before now OutOfMemory leaves = leaves

-- ---- the sources

pub unread : (held : Option Held) (before now : ℕ) (names : List Named) (error : ProgramError)
    → UnparsedCause held before now names error → UncheckedCause held before now names error
unread held before now names (program.File n error) cause = cause
unread held before now names (program.Config error) cause = absurd cause
unread held before now names (program.Parse file error) cause = cause
unread held before now names (program.Types kind declaration) cause = absurd cause
unread held before now names program.OutOfMemory cause = tt

pub broken : (held : Option Held) (before now : ℕ) (names : List Named) (files : List ParsedFile)
    (error : ProgramError)
    → SourcesGiven held names files → BreaksRule files error
    → UncheckedCause held before now names error
broken held before now names files (program.Types kind declaration) given breaks =
    (files, given, breaks)
broken held before now names files (program.File n error) given breaks = absurd breaks
broken held before now names files (program.Config error) given breaks = absurd breaks
broken held before now names files (program.Parse file error) given breaks = absurd breaks
broken held before now names files program.OutOfMemory given breaks = tt

pub breaks_leave : (held : Option Held) (before now : ℕ) (files : List ParsedFile)
    (error : ProgramError)
    → BreaksRule files error → LeavesCount held before now → ProgramLeaves held before now error
breaks_leave held before now files (program.Types kind declaration) breaks same = same
breaks_leave held before now files (program.File name error) breaks same = absurd breaks
breaks_leave held before now files (program.Config error) breaks same = same
breaks_leave held before now files (program.Parse file error) breaks same = same
breaks_leave held before now files program.OutOfMemory breaks same = tt

-- ---- the configuration and then the sources

pub configuration_stops : (name : List ℕ) (held : Option Held) (before now : ℕ)
    (error : ProgramError)
    → UnconfiguredCause name held before now error → ProgramCause name held before now error
configuration_stops name held before now (program.File n error) cause = inl cause
configuration_stops name held before now (program.Config error) cause = cause
configuration_stops name held before now (program.Parse file error) cause = absurd cause
configuration_stops name held before now (program.Types kind declaration) cause = absurd cause
configuration_stops name held before now program.OutOfMemory cause = tt

-- what was given of files that stayed as they were
pub given_before : (a b : Option Held) (names : List Named) (files : List ParsedFile)
    → Told SameFiles a b → SourcesGiven b names files → SourcesGiven a names files
given_before a b names files same given =
    (given.0, read_before a b names given.0 same given.1, given.2)

pub sources_stop : (name : List ℕ) (a b : Option Held) (first before now : ℕ) (k : Configuration)
    (error : ProgramError)
    → Told SameFiles a b → first ≤ before → IsConfigured name a k
    → UncheckedCause b before now (from_library 0 k.libraries) error
    → ProgramCause name a first now error
sources_stop name a b first before now k (program.File n error) same le is cause =
    inr (k, is, stops_before a b first before now (from_library 0 k.libraries) n error same le cause)
sources_stop name a b first before now k (program.Config error) same le is cause = absurd cause
sources_stop name a b first before now k (program.Parse file error) same le is cause =
    (k, is, (cause.0, read_before a b (from_library 0 k.libraries) cause.0 same cause.1, cause.2))
sources_stop name a b first before now k (program.Types kind declaration) same le is cause =
    (k, cause.0, (is, given_before a b (from_library 0 k.libraries) cause.0 same cause.1), cause.2)
sources_stop name a b first before now k program.OutOfMemory same le is cause = tt

pub program_leaves : (a b : Option Held) (first before now : ℕ) (error : ProgramError)
    → Told SameFiles a b → LeavesCount a first before → ProgramLeaves b before now error
    → ProgramLeaves a first now error
program_leaves a b first before now (program.File name error) same p q =
    fault_leaves error a b first before now same p q
program_leaves a b first before now (program.Config error) same p q =
    counted_twice a b first before now same p q
program_leaves a b first before now (program.Parse file error) same p q =
    counted_twice a b first before now same p q
program_leaves a b first before now (program.Types kind declaration) same p q =
    counted_twice a b first before now same p q
program_leaves a b first before now program.OutOfMemory same p q = tt
