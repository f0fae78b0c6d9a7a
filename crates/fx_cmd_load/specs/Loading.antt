-- What a configuration and its sources come to, step by step in the order of work.
use Rattle.std.specs.Prelude.{◌≡◌, ◌≢◌, ℕ, ◌≤◌, ◌⊎◌, List, length, Option, Ok, Err}
use Rattle.fx_base.specs.Files.{Held}
use Rattle.fx_config.specs.declared.configuration.Config.{Config}
use Rattle.fx_config.specs.declared.configuration.ConfigError.TheVariants as config
use Rattle.fx_config.specs.Reading.{configuration_of, files_of}
use Rattle.fx_cmd_load.specs.declared.error.LoadError.{LoadError}
use Rattle.fx_cmd_load.specs.declared.error.LoadError.TheVariants.{File, Config as ConfigRefused, Parse, OutOfMemory}
use Rattle.fx_cmd_load.specs.declared.parsing.ParsedFile.{ParsedFile}
use Rattle.fx_cmd_load.specs.Named.{Named, from_library}
use Rattle.fx_cmd_load.specs.Reading.{config_limit, HasContent, ReadingFault, AreRead, StopsReading}
use Rattle.fx_cmd_load.specs.Parsing.{AreParsed, StopsParsing}

-- ---- the configuration

abbrev pub MeansConfiguration : List ℕ → Config → Type 0
MeansConfiguration text k = configuration_of text ≡ Ok k

abbrev pub RefusesConfiguration : List ℕ → LoadError → Type 0
RefusesConfiguration text (ConfigRefused error) = (configuration_of text ≡ Err error) × (error ≢ config.OutOfMemory)
RefusesConfiguration text (File name error) = ⊥
RefusesConfiguration text (Parse file error) = ⊥
RefusesConfiguration text OutOfMemory = Unit {0}

-- the text under the name means this configuration
abbrev pub IsConfigured : List ℕ → Option Held → Config → Type 0
IsConfigured name held k = (text : List ℕ) × HasContent held name text × (length text ≤ config_limit) × MeansConfiguration text k

-- the configuration was not read, or the text under the name is refused
abbrev pub ConfigurationCause : List ℕ → Option Held → ℕ → ℕ → LoadError → Type 0
ConfigurationCause name held before now (File n error) = (n ≡ name) × ReadingFault config_limit name held before now error
ConfigurationCause name held before now (ConfigRefused error) =
    (text : List ℕ) × HasContent held name text × (length text ≤ config_limit)
    × (configuration_of text ≡ Err error) × (error ≢ config.OutOfMemory)
ConfigurationCause name held before now (Parse file error) = ⊥
ConfigurationCause name held before now OutOfMemory = Unit {0}

-- no more libraries, files and compartments than a configuration may have
pub record HasFewParts (k : Config) : Type 0 where
  pub libraries : length k.libraries ≤ 64
  pub files : length (files_of k.libraries) ≤ 64
  pub compartments : length k.compartments ≤ 16

-- ---- the sources

-- these are the trees of the texts of the files
abbrev pub SourcesGiven : Option Held → List Named → List ParsedFile → Type 0
SourcesGiven held names files = (texts : List (List ℕ)) × AreRead held names texts × AreParsed names texts files

-- a source file was not read; or all were, and one has no tree
abbrev pub SourcesCause : Option Held → ℕ → ℕ → List Named → LoadError → Type 0
SourcesCause held before now names (File name error) = StopsReading held before now names name error
SourcesCause held before now names (ConfigRefused error) = ⊥
SourcesCause held before now names (Parse file error) = (texts : List (List ℕ)) × AreRead held names texts × StopsParsing texts file error
SourcesCause held before now names OutOfMemory = Unit {0}

-- ---- both

-- The configuration is what the text under the name means, and the files are the trees of the texts of the
-- files that it names, in order.
abbrev pub IsLoaded : List ℕ → Option Held → Config → List ParsedFile → Type 0
IsLoaded name held k files = IsConfigured name held k × SourcesGiven held (from_library 0 k.libraries) files

-- Why nothing is loaded, by the first step that failed: the configuration was not read, or the text under the
-- name is refused; or it is a configuration's, and a source file was not read; or all were, and one has no
-- tree. Want of memory is free.
abbrev pub LoadCause : List ℕ → Option Held → ℕ → ℕ → LoadError → Type 0
LoadCause name held before now (File n error) =
    ((n ≡ name) × ReadingFault config_limit name held before now error)
    ⊎ ((k : Config) × IsConfigured name held k × StopsReading held before now (from_library 0 k.libraries) n error)
LoadCause name held before now (ConfigRefused error) = ConfigurationCause name held before now (ConfigRefused error)
LoadCause name held before now (Parse file error) = (k : Config) × IsConfigured name held k × SourcesCause held before now (from_library 0 k.libraries) (Parse file error)
LoadCause name held before now OutOfMemory = Unit {0}
