-- What the command comes to, from its steps, and what its status says.
use Rattle.std.proofs.Common.{◌≡◌, ℕ, ◌<◌, List, [], ◌∷◌, ◌++◌, inl, inr, Option, Some, None, Result, Ok, Err, OnOk, IfErr, refl, arith}
use Rattle.fx_base.specs.Told.{Told}
use Rattle.fx_base.specs.Files.{Held}
use Rattle.fx_image.specs.declared.forms.Image.{Image}
use Rattle.fx_cmd_load.specs.Reading.{LeavesCount}
use Rattle.fx_cmd_base.specs.Streams.{Gained, TookNothing}
use Rattle.fx_cmd_base.specs.Ends.{ErrorStream, Ended}
use Rattle.fx_cmd_run.specs.Causes.{HasImage, ImageCause, UnbegunLeaves}
use Rattle.fx_cmd_run.specs.Lines.{unbegun_status}
use Rattle.fx_cmd_run.specs.declared.load.Unbegun.{Unbegun}
use Rattle.fx_cmd_run.specs.declared.load.Unbegun.TheVariants as unbegun
use Rattle.fx_cmd_show.specs.Text.{text_of}
use Rattle.fx_cmd_show.specs.Failures.{unshown_status}
use Rattle.fx_cmd_show.specs.Shows.{ShowsImage, IsUnput, UnshownCause, Comes, Reports}
use Rattle.fx_cmd_show.specs.declared.failure.Unshown.{Unshown}
use Rattle.fx_cmd_show.specs.declared.failure.Unshown.TheVariants.{NoImage, WriteFault, OutOfMemory}

pub told_same : (taken : Option (List ℕ)) → Told TookNothing taken taken
told_same None = tt
told_same (Some bytes) = refl

-- an image that was read and put, or not put
pub came_of : (name : List ℕ) (held : Option Held) (before now : ℕ) (taken gained : Option (List ℕ)) (fine failed : ℕ) (image : Image) (came : Result (Unit {0}) Unshown)
    → HasImage held name image → LeavesCount held before now → OnOk came (Told (Gained (text_of image)) taken gained) → IfErr came (IsUnput image taken gained fine failed)
    → Comes name held before now taken gained fine failed came
came_of name held before now taken gained fine failed image (Ok x) read leaves put cause = ((image, read, put), leaves)
came_of name held before now taken gained fine failed image (Err (NoImage why)) read leaves put cause = absurd cause
came_of name held before now taken gained fine failed image (Err WriteFault) read leaves put cause = (image, read, leaves, cause)
came_of name held before now taken gained fine failed image (Err OutOfMemory) read leaves put cause = (image, read, leaves, cause)

unbegun_some : (why : Unbegun) → 0 < unbegun_status why
unbegun_some (unbegun.Unread file error) = omega arith
unbegun_some (unbegun.Refused error) = omega arith
unbegun_some unbegun.OutOfMemory = omega arith

unshown_some : (why : Unshown) → 0 < unshown_status why
unshown_some (NoImage why) = unbegun_some why
unshown_some WriteFault = omega arith
unshown_some OutOfMemory = omega arith

not_ended : (status : ℕ) (line : List ℕ) (result : ℕ) (err : ErrorStream) → 0 < status → Ended status line result err → result ≡ 0 → ⊥
not_ended status line result err some (inl own) none = omega (arith, own.0)
not_ended status line result err some (inr fault) none = omega (arith, fault.0)

-- only an image that was shown has status 0
pub done : (name : List ℕ) (held : Option Held) (before now : ℕ) (taken gained : Option (List ℕ)) (fine failed : ℕ) (came : Result (Unit {0}) Unshown) (result : ℕ) (err : ErrorStream)
    → Comes name held before now taken gained fine failed came → Reports name came result err → result ≡ 0 → ShowsImage name held taken gained × Told TookNothing err.told err.printed
done name held before now taken gained fine failed (Ok x) result err comes reports none = (comes.0, reports.1)
done name held before now taken gained fine failed (Err why) result err comes (inl own) none = absurd (not_ended (unshown_status why) _ result err (unshown_some why) own none)
done name held before now taken gained fine failed (Err why) result err comes (inr memory) none = absurd (not_ended 6 _ result err (omega arith) memory none)
