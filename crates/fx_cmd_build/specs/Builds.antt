-- What the command `build CONF IMAGE` comes to, step by step in the order of work.
use Rattle.std.specs.Prelude.{◌≡◌, ◌≢◌, ℕ, List, [], ◌∷◌, ◌++◌, Option, Some, Ok, Err, ◌⊎◌}
use Rattle.fx_base.specs.Faults.{Rose}
use Rattle.fx_base.specs.Told.{Told}
use Rattle.fx_base.specs.Files.{Held, SameFiles, SameElsewhere}
use Rattle.fx_config.specs.declared.configuration.Config.{Config}
use Rattle.fx_config.specs.declared.configuration.Mechanism.TheVariants.{Call}
use Rattle.fx_c_ast.specs.declared.checked.TProgram.{TProgram}
use Rattle.fx_grants.specs.declared.grants.Grants.{Grants}
use Rattle.fx_grants.specs.Refusals.{resolved}
use Rattle.fx_sections.specs.declared.placement.Placement.{Placement}
use Rattle.fx_sections.specs.Placement.{placed}
use Rattle.fx_image.specs.Rules.{IsImage}
use Rattle.fx_image.specs.Spelling.{image_spelling}
use Rattle.fx_image.specs.declared.forms.Image.{Image as Made}
use Rattle.fx_linker.specs.declared.error.LinkError.TheVariants as link
use Rattle.fx_build_core.specs.Built.{built}
use Rattle.fx_cmd_base.specs.Streams.{Streams, Untouched, TookNothing}
use Rattle.fx_cmd_base.specs.Ends.{ErrorStream, EndedOrWanted}
use Rattle.fx_cmd_load.specs.Loading.{IsConfigured, HasFewParts}
use Rattle.fx_cmd_load.specs.Programs.{IsProgramOf, UnconfiguredCause, ProgramCause}
use Rattle.fx_cmd_build.specs.Failures.{failure_status, failure_words}
use Rattle.fx_cmd_build.specs.declared.building.Unbuilt.{Unbuilt}
use Rattle.fx_cmd_build.specs.declared.building.Unbuilt.TheVariants as unbuilt
use Rattle.fx_cmd_build.specs.declared.failure.BuildFailure.{BuildFailure}
use Rattle.fx_cmd_build.specs.declared.failure.BuildFailure.TheVariants.{Program, Mechanism, Image}
use Rattle.fx_cmd_build.specs.declared.failure.BuildFailure.TheVariants.{WriteFailed, OutOfMemory}

-- ---- from a checked program to its image

-- a program of files that were read, under a configuration of plain calls
abbrev pub IsProgramReady : TProgram → Config → Type 0
IsProgramReady p k =
    (name : List ℕ) × (held : Option Held) × IsProgramOf name held k p × HasFewParts k
    × (k.mechanism ≡ Call)

-- the program is granted and placed, and this is the image of both
abbrev pub IsImageOf : TProgram → Config → Made → Type 0
IsImageOf p k i =
    (g : Grants) × (at : Placement) × (resolved p k ≡ Ok g) × (placed p g k ≡ Ok at)
    × (built p g at k ≡ Ok i)

-- why the configuration grants nothing in the program
abbrev pub GrantsCause : TProgram → Config → Unbuilt → Type 0
GrantsCause p k (unbuilt.Grants error) = resolved p k ≡ Err error
GrantsCause p k (unbuilt.Place error) = ⊥
GrantsCause p k (unbuilt.CodeTooLong bytes) = ⊥
GrantsCause p k unbuilt.OutOfMemory = Unit {0}

-- why the program is not placed
abbrev pub PlaceCause : TProgram → Grants → Config → Unbuilt → Type 0
PlaceCause p g k (unbuilt.Grants error) = ⊥
PlaceCause p g k (unbuilt.Place error) = placed p g k ≡ Err error
PlaceCause p g k (unbuilt.CodeTooLong bytes) = ⊥
PlaceCause p g k unbuilt.OutOfMemory = Unit {0}

-- why it is not linked
abbrev pub LinkCause : TProgram → Grants → Placement → Config → Unbuilt → Type 0
LinkCause p g at k (unbuilt.Grants error) = ⊥
LinkCause p g at k (unbuilt.Place error) = ⊥
LinkCause p g at k (unbuilt.CodeTooLong bytes) = built p g at k ≡ Err (link.CodeTooLong bytes)
LinkCause p g at k unbuilt.OutOfMemory = Unit {0}

-- Why a program has no image, by the first step that refused. Want of memory is free.
abbrev pub ImageCause : TProgram → Config → Unbuilt → Type 0
ImageCause p k (unbuilt.Grants error) = resolved p k ≡ Err error
ImageCause p k (unbuilt.Place error) =
    (g : Grants) × (resolved p k ≡ Ok g) × (placed p g k ≡ Err error)
ImageCause p k (unbuilt.CodeTooLong bytes) =
    (g : Grants) × (at : Placement) × (resolved p k ≡ Ok g) × (placed p g k ≡ Ok at)
    × (built p g at k ≡ Err (link.CodeTooLong bytes))
ImageCause p k unbuilt.OutOfMemory = Unit {0}

-- ---- the command

-- why there is no configuration of plain calls: there is none, for its cause; or it is another
-- mechanism's
abbrev pub ConfigurationCause : (config : List ℕ) → Option Held → ℕ → ℕ → BuildFailure → Type 0
ConfigurationCause config held before now (Program error) =
    UnconfiguredCause config held before now error
ConfigurationCause config held before now Mechanism =
    (k : Config) × IsConfigured config held k × (k.mechanism ≢ Call)
ConfigurationCause config held before now (Image error) = ⊥
ConfigurationCause config held before now WriteFailed = ⊥
ConfigurationCause config held before now OutOfMemory = ⊥

-- why there is no program of plain calls; nothing was changed
abbrev pub LoadCause : (config : List ℕ) → Option Held → ℕ → ℕ → BuildFailure → Type 0
LoadCause config held before now (Program error) = ProgramCause config held before now error
LoadCause config held before now Mechanism =
    (k : Config) × IsConfigured config held k × (k.mechanism ≢ Call)
LoadCause config held before now (Image error) = ⊥
LoadCause config held before now WriteFailed = ⊥
LoadCause config held before now OutOfMemory = ⊥

-- Why an image was not written: the files failed, or memory ran out. `before` and `now` are their
-- counts of faults.
abbrev pub WritingCause : ℕ → ℕ → BuildFailure → Type 0
WritingCause before now WriteFailed = Rose before now
WritingCause before now OutOfMemory = Unit {0}
WritingCause before now _ = ⊥

-- The new file holds exactly the spelling of the image of the program of the configuration's
-- sources, under plain calls, and every other file is as it was.
pub record BuildsImage
    (config image : List ℕ) (i : Made) (held after : Option Held) : Type 0 where
  pub k : Config
  pub p : TProgram
  pub program : IsProgramOf config held k p
  pub plain : k.mechanism ≡ Call
  pub value : IsImageOf p k i
  pub rules : IsImage i
  pub written : Told (λ old new. new image ≡ Some (image_spelling i)) held after
  pub others : Told (SameElsewhere image) held after

-- Why no image was written, by the first step that failed. Before the writing no file is changed.
abbrev pub BuildCause : (config image : List ℕ) → Option Held → Option Held → ℕ → ℕ → BuildFailure
    → Type 0
BuildCause config image held after before now (Program error) =
    ProgramCause config held before now error × Told SameFiles held after
BuildCause config image held after before now Mechanism =
    (k : Config) × IsConfigured config held k × (k.mechanism ≢ Call) × Told SameFiles held after
BuildCause config image held after before now (Image error) =
    (k : Config) × (p : TProgram) × IsProgramOf config held k p × (k.mechanism ≡ Call)
    × ImageCause p k error × Told SameFiles held after
BuildCause config image held after before now WriteFailed =
    (k : Config) × (p : TProgram) × (i : Made) × IsProgramOf config held k p × IsImageOf p k i
    × Rose before now × Told (SameElsewhere image) held after
BuildCause config image held after before now OutOfMemory = Told (SameElsewhere image) held after

-- A failure has its status and its line; or there was no memory for the line.
abbrev pub Reports : (image : List ℕ) → BuildFailure → ℕ → ErrorStream → Type 0
Reports image why result err =
    EndedOrWanted (failure_status why) (failure_words image why ++ 10 ∷ []) result err

-- The image was built and written, the status is 0, and the error stream took nothing.
pub record Builds
    (config image : List ℕ) (held after : Option Held) (result : ℕ) (err : ErrorStream)
    : Type 0 where
  pub made : Made
  pub builds : BuildsImage config image made held after
  pub status : result ≡ 0
  pub quiet : Told TookNothing err.told err.printed

-- There is a cause why no image was written, and the line and status of that.
pub record BuildsNone
    (config image : List ℕ) (held after : Option Held) (before now result : ℕ)
    (err : ErrorStream) : Type 0 where
  pub why : BuildFailure
  pub cause : BuildCause config image held after before now why
  pub reports : Reports image why result err

abbrev pub Does : (config image : List ℕ) → Option Held → Option Held → (before now : ℕ) → ℕ
    → ErrorStream → Type 0
Does config image held after before now result err =
    Builds config image held after result err
    ⊎ BuildsNone config image held after before now result err

-- What the command came to. Neither input nor output is touched.
pub record DoesBuild
    (config image : List ℕ) (before after : Streams) (result : ℕ) (err : ErrorStream)
    : Type 0 where
  pub does : Does config image before.held after.held before.file_faults after.file_faults result
      err
  pub untouched : Untouched before after

-- The command that ended with status 0: the image was written, and the error stream took nothing.
pub record DoneBuild
    (config image : List ℕ) (before after : Streams) (err : ErrorStream) : Type 0 where
  pub made : Made
  pub builds : BuildsImage config image made before.held after.held
  pub untouched : Untouched before after
  pub quiet : Told TookNothing err.told err.printed
