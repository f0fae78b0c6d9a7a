-- Why a run isn't begun.
use Rattle.std.specs.Prelude.{◌≡◌, ℕ, List, [], Option, None, Some, Err}
use Rattle.fx_base.specs.Files.{Held}
use Rattle.fx_image.specs.ImageBytes.{ImageBytes}
use Rattle.fx_image.specs.Reading.{image_at}
use Rattle.fx_image.specs.declared.error.ImageError.{ImageError}
use Rattle.fx_image.specs.declared.forms.Image.{Image}
use Rattle.fx_cmd_load.specs.Reading.{WasRead, LeavesCount, FaultLeaves, ReadingFault}
use Rattle.fx_cmd_base.specs.Words.{RunGiven}
use Rattle.fx_cmd_run.specs.declared.load.Unbegun.{Unbegun}
use Rattle.fx_cmd_run.specs.declared.load.Unbegun.TheVariants.{Unread, Refused, OutOfMemory}
use Rattle.fx_cmd_run.specs.declared.load.Which.TheVariants as which

-- The most bytes of an image's file and of a schedule's.
abbrev pub file_limit : ℕ
file_limit = 16_777_216

-- The file of this name holds this image's bytes, no more than the limit.
abbrev pub HasImage : Option Held → List ℕ → Image → Type 0
HasImage held name image = (bytes : List ℕ) × WasRead file_limit held name bytes × ImageBytes image bytes

-- Its bytes are refused as an image so.
abbrev pub RefusesImage : Option Held → List ℕ → ImageError → Type 0
RefusesImage held name error = (bytes : List ℕ) × WasRead file_limit held name bytes × (image_at bytes ≡ Err error)

-- The schedule is that of the file named, or empty where none is named.
abbrev pub HasSchedule : Option Held → Option (List ℕ) → List ℕ → Type 0
HasSchedule held None schedule = schedule ≡ []
HasSchedule held (Some name) schedule = WasRead file_limit held name schedule

-- Bytes were refused as no image, or memory ran out.
abbrev pub IsRefused : List ℕ → Unbegun → Type 0
IsRefused bytes (Refused error) = image_at bytes ≡ Err error
IsRefused bytes OutOfMemory = Unit {0}
IsRefused bytes _ = ⊥

-- Nothing but a file that failed changes the count of faults.
abbrev pub UnbegunLeaves : Option Held → ℕ → ℕ → Unbegun → Type 0
UnbegunLeaves held before now (Unread file error) = FaultLeaves error held before now
UnbegunLeaves held before now _ = LeavesCount held before now

-- Why the image wasn't taken, by what the files hold and their count of faults before and after.
abbrev pub ImageCause : List ℕ → Option Held → ℕ → ℕ → Unbegun → Type 0
ImageCause name held before now (Unread which.Image error) = ReadingFault file_limit name held before now error
ImageCause name held before now (Unread which.Schedule error) = ⊥
ImageCause name held before now (Refused error) = RefusesImage held name error
ImageCause name held before now OutOfMemory = Unit {0}

-- Why the schedule wasn't taken.
abbrev pub ScheduleCause : Option (List ℕ) → Option Held → ℕ → ℕ → Unbegun → Type 0
ScheduleCause (Some name) held before now (Unread which.Schedule error) = ReadingFault file_limit name held before now error
ScheduleCause name held before now OutOfMemory = Unit {0}
ScheduleCause name held before now _ = ⊥

-- Why a run wasn't begun: the image is read first, and the schedule behind an image that wasn't refused.
abbrev pub WhyUnbegun : RunGiven → Option Held → ℕ → ℕ → Unbegun → Type 0
WhyUnbegun given held before now (Unread which.Image error) = ReadingFault file_limit given.image held before now error
WhyUnbegun given held before now (Refused error) = RefusesImage held given.image error
WhyUnbegun given held before now (Unread which.Schedule error) =
    (image : Image) × HasImage held given.image image × (name : List ℕ) × (given.options.schedule ≡ Some name) × ReadingFault file_limit name held before now error
WhyUnbegun given held before now OutOfMemory = Unit {0}
