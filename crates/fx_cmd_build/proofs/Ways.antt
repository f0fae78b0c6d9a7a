-- What the command comes to, from its steps, and what its status says.
use Rattle.std.proofs.Common.{◌≡◌, ◌≢◌, ℕ, ◌<◌, ◌≤◌, List, Option, Some, None, Ok, inl, inr, refl, ◌∙◌}
use Rattle.std.proofs.Common.{arith}
use Rattle.fx_base.specs.Told.{Told}
use Rattle.fx_base.specs.Files.{Held, SameFiles, SameElsewhere}
use Rattle.fx_config.specs.declared.configuration.Config.{Config}
use Rattle.fx_config.specs.declared.configuration.Mechanism.TheVariants.{Call}
use Rattle.fx_c_ast.specs.declared.checked.TProgram.{TProgram}
use Rattle.fx_grants.specs.declared.grants.Grants.{Grants}
use Rattle.fx_grants.specs.Refusals.{resolved}
use Rattle.fx_sections.specs.declared.placement.Placement.{Placement}
use Rattle.fx_sections.specs.Placement.{placed}
use Rattle.fx_image.specs.Rules.{IsImage}
use Rattle.fx_image.specs.Spelling.{image_spelling}
use Rattle.fx_image.specs.declared.forms.Image.{Image as Made}
use Rattle.fx_cmd_base.specs.Streams.{TookNothing}
use Rattle.fx_cmd_base.specs.Ends.{ErrorStream, Ended}
use Rattle.fx_cmd_load.specs.Programs.{IsProgramOf}
use Rattle.fx_cmd_load.specs.declared.program_error.ProgramError.{ProgramError}
use Rattle.fx_cmd_load.specs.declared.program_error.ProgramError.TheVariants as program
use Rattle.fx_cmd_load.proofs.Causes.{configuration_stops}
use Rattle.fx_cmd_base.specs.ProgramWords.{program_status}
use Rattle.fx_cmd_build.specs.Failures.{failure_status, unbuilt_status}
use Rattle.fx_cmd_build.specs.Builds.{GrantsCause, PlaceCause, LinkCause, ImageCause, IsImageOf}
use Rattle.fx_cmd_build.specs.Builds.{ConfigurationCause, LoadCause, WritingCause, BuildsImage}
use Rattle.fx_cmd_build.specs.Builds.{BuildCause, Reports, Builds, Does}
use Rattle.fx_cmd_build.specs.declared.building.Unbuilt.{Unbuilt}
use Rattle.fx_cmd_build.specs.declared.building.Unbuilt.TheVariants as unbuilt
use Rattle.fx_cmd_build.specs.declared.failure.BuildFailure.{BuildFailure}
use Rattle.fx_cmd_build.specs.declared.failure.BuildFailure.TheVariants.{Program, Mechanism, Image}
use Rattle.fx_cmd_build.specs.declared.failure.BuildFailure.TheVariants.{WriteFailed, OutOfMemory}

-- ---- from a checked program to its image

pub ungranted : (p : TProgram) (k : Config) (error : Unbuilt) → GrantsCause p k error
    → ImageCause p k error
ungranted p k (unbuilt.Grants error) cause = cause
ungranted p k (unbuilt.Place error) cause = absurd cause
ungranted p k (unbuilt.CodeTooLong bytes) cause = absurd cause
ungranted p k unbuilt.OutOfMemory cause = tt

pub unplaced : (p : TProgram) (k : Config) (g : Grants) (error : Unbuilt)
    → resolved p k ≡ Ok g → PlaceCause p g k error → ImageCause p k error
unplaced p k g (unbuilt.Grants error) granted cause = absurd cause
unplaced p k g (unbuilt.Place error) granted cause = (g, granted, cause)
unplaced p k g (unbuilt.CodeTooLong bytes) granted cause = absurd cause
unplaced p k g unbuilt.OutOfMemory granted cause = tt

pub unlinked : (p : TProgram) (k : Config) (g : Grants) (at : Placement) (error : Unbuilt)
    → resolved p k ≡ Ok g → placed p g k ≡ Ok at → LinkCause p g at k error
    → ImageCause p k error
unlinked p k g at (unbuilt.Grants error) granted is cause = absurd cause
unlinked p k g at (unbuilt.Place error) granted is cause = absurd cause
unlinked p k g at (unbuilt.CodeTooLong bytes) granted is cause = (g, at, granted, is, cause)
unlinked p k g at unbuilt.OutOfMemory granted is cause = tt

-- ---- from the files to a checked program

pub unplain : (config : List ℕ) (held : Option Held) (before now : ℕ) (why : BuildFailure)
    → ConfigurationCause config held before now why → LoadCause config held before now why
unplain config held before now (Program error) cause =
    configuration_stops config held before now error cause
unplain config held before now Mechanism cause = cause
unplain config held before now (Image error) cause = absurd cause
unplain config held before now WriteFailed cause = absurd cause
unplain config held before now OutOfMemory cause = absurd cause

-- ---- the whole

pub unloaded : (config image : List ℕ) (held after : Option Held) (before now : ℕ)
    (why : BuildFailure)
    → LoadCause config held before now why → Told SameFiles held after
    → BuildCause config image held after before now why
unloaded config image held after before now (Program error) cause same = (cause, same)
unloaded config image held after before now Mechanism cause same =
    (cause.0, cause.1, cause.2, same)
unloaded config image held after before now (Image error) cause same = absurd cause
unloaded config image held after before now WriteFailed cause same = absurd cause
unloaded config image held after before now OutOfMemory cause same = absurd cause

-- what holds behind a reading, seen from before it
after_reading : (P : Held → Held → Type 0)
    → ((x y z : Held) → SameFiles x y → P y z → P x z)
    → (a b c : Option Held) → Told SameFiles a b → Told P b c → Told P a c
after_reading P join None None None same then = tt
after_reading P join None None (Some z) same then = absurd then
after_reading P join None (Some y) c same then = absurd same
after_reading P join (Some x) None c same then = absurd same
after_reading P join (Some x) (Some y) None same then = absurd then
after_reading P join (Some x) (Some y) (Some z) same then = join x y z same then

others_after : (a b c : Option Held) (name : List ℕ)
    → Told SameFiles a b → Told (SameElsewhere name) b c → Told (SameElsewhere name) a c
others_after a b c name same others =
    after_reading (SameElsewhere name) (λ x y z p q. λ other differs. q other differs ∙ p other)
    a b c same others

pub unwritten : (config image : List ℕ) (a b c : Option Held) (first before now : ℕ) (k : Config)
    (p : TProgram) (i : Made) (why : BuildFailure)
    → IsProgramOf config a k p → IsImageOf p k i → Told SameFiles a b → first ≤ before
    → Told (SameElsewhere image) b c → WritingCause before now why
    → BuildCause config image a c first now why
unwritten config image a b c first before now k p i (Program error) is made same le others cause =
    absurd cause
unwritten config image a b c first before now k p i Mechanism is made same le others cause =
    absurd cause
unwritten config image a b c first before now k p i (Image error) is made same le others cause =
    absurd cause
unwritten config image a b c first before now k p i WriteFailed is made same le others cause =
    (k, p, i, is, made, omega (arith, le, cause), others_after a b c image same others)
unwritten config image a b c first before now k p i OutOfMemory is made same le others cause =
    others_after a b c image same others

-- the spelling of the image stands under the name
abbrev Stands : List ℕ → Made → Held → Held → Type 0
Stands name i old new = new name ≡ Some (image_spelling i)

pub built_and_written : (config image : List ℕ) (a b c : Option Held) (k : Config) (p : TProgram)
    (i : Made)
    → IsProgramOf config a k p → k.mechanism ≡ Call → IsImageOf p k i → IsImage i
    → Told SameFiles a b → Told (Stands image i) b c → Told (SameElsewhere image) b c
    → BuildsImage config image i a c
built_and_written config image a b c k p i program plain made rules same written others = record {
  k = k;
  p = p;
  program = program;
  plain = plain;
  value = made;
  rules = rules;
  written = after_reading (Stands image i) (λ x y z p q. q) a b c same written;
  others = others_after a b c image same others;
}

pub took_nothing : (taken : Option (List ℕ)) → Told TookNothing taken taken
took_nothing None = tt
took_nothing (Some bytes) = refl

-- ---- the status

program_failed : (error : ProgramError) → 2 < program_status error
program_failed (program.File name error) = omega arith
program_failed (program.Config error) = omega arith
program_failed (program.Parse file error) = omega arith
program_failed (program.Types kind declaration) = omega arith
program_failed program.OutOfMemory = omega arith

unbuilt_failed : (error : Unbuilt) → 2 < unbuilt_status error
unbuilt_failed (unbuilt.Grants error) = omega arith
unbuilt_failed (unbuilt.Place error) = omega arith
unbuilt_failed (unbuilt.CodeTooLong bytes) = omega arith
unbuilt_failed unbuilt.OutOfMemory = omega arith

-- a failure's status is none of what is done and of usage
failed : (why : BuildFailure) → 2 < failure_status why
failed (Program error) = program_failed error
failed Mechanism = omega arith
failed (Image error) = unbuilt_failed error
failed WriteFailed = omega arith
failed OutOfMemory = omega arith

ended_failed : (status : ℕ) (line : List ℕ) (result : ℕ) (err : ErrorStream)
    → 2 < status → Ended status line result err → 2 < result
ended_failed status line result err some (inl own) = omega (arith, some, own.0)
ended_failed status line result err some (inr fault) = omega (arith, fault.0)

pub reported_failed : (image : List ℕ) (why : BuildFailure) (result : ℕ) (err : ErrorStream)
    → Reports image why result err → 2 < result
reported_failed image why result err (inl own) =
    ended_failed (failure_status why) _ result err (failed why) own
reported_failed image why result err (inr memory) =
    ended_failed 6 _ result err (omega arith) memory

-- only an image that was written has status 0
pub done : (config image : List ℕ) (held after : Option Held) (before now result : ℕ)
    (err : ErrorStream)
    → Does config image held after before now result err → result ≡ 0
    → Builds config image held after result err
done config image held after before now result err (inl builds) none = builds
done config image held after before now result err (inr nothing) none =
    absurd (omega (arith, none, reported_failed image nothing.why result err nothing.reports))

-- and it is never usage
pub no_usage : (config image : List ℕ) (held after : Option Held) (before now result : ℕ)
    (err : ErrorStream)
    → Does config image held after before now result err → result ≢ 2
no_usage config image held after before now result err (inl builds) two =
    omega (arith, two, builds.status)
no_usage config image held after before now result err (inr nothing) two =
    omega (arith, two, reported_failed image nothing.why result err nothing.reports)
