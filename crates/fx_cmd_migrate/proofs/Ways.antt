-- What the command comes to, from its steps, and what its status says.
use Rattle.std.proofs.Common.{◌≡◌, ℕ, ◌<◌, ◌≤◌, List, [], ◌∷◌, ◌++◌, inl, inr, Option, Some, None, Result, Ok, Err, OnOk, IfErr, refl, ◌∙◌, arith}
use Rattle.fx_base.specs.Faults.{Rose}
use Rattle.fx_base.specs.Told.{Told}
use Rattle.fx_base.specs.Files.{Held, SameFiles, SameElsewhere}
use Rattle.fx_image.specs.declared.forms.Image.{Image}
use Rattle.fx_image_migration_law.proofs.Alike.{keeps}
use Rattle.fx_run_core.proofs.Telling.{told_join}
use Rattle.fx_cmd_base.specs.Streams.{TookNothing}
use Rattle.fx_cmd_base.specs.Ends.{ErrorStream, Ended}
use Rattle.fx_cmd_run.specs.Causes.{HasImage}
use Rattle.fx_cmd_run.specs.Lines.{unbegun_status}
use Rattle.fx_cmd_run.specs.declared.load.Unbegun.{Unbegun}
use Rattle.fx_cmd_run.specs.declared.load.Unbegun.TheVariants as unbegun
use Rattle.fx_cmd_migrate.specs.Failures.{unmigrated_status}
use Rattle.fx_cmd_migrate.specs.Migrates.{current, RunsAsItIs, Writes, WritingCause, MigratesImage, Comes, Reports}
use Rattle.fx_cmd_migrate.specs.declared.failure.Unmigrated.{Unmigrated}
use Rattle.fx_cmd_migrate.specs.declared.failure.Unmigrated.TheVariants.{NoImage, WriteFailed, OutOfMemory}

-- what was written behind a reading, seen from before it
writes_after : (a b c : Option Held) (name : List ℕ) (image : Image) → Told SameFiles a b → Writes name image b c → Writes name image a c
writes_after a b c name image same w =
    let Is : Held → Held → Type 0 = λ old new. new name ≡ Some w.0 in
    (w.0, w.1, told_join SameFiles Is Is (λ x y z p q. q) a b c same w.2)

others_after : (a b c : Option Held) (name : List ℕ) → Told SameFiles a b → Told (SameElsewhere name) b c → Told (SameElsewhere name) a c
others_after a b c name same others =
    told_join SameFiles (SameElsewhere name) (SameElsewhere name) (λ x y z p q. λ other differs. q other differs ∙ p other) a b c same others

rose_after : (before middle now : ℕ) → before ≤ middle → Rose middle now → Rose before now
rose_after before middle now later rose = omega (arith, later, rose)

-- an image that was read was written, or not
pub came_of : (old new : List ℕ) (held mid after : Option Held) (before middle now : ℕ) (image : Image) (came : Result (Unit {0}) Unmigrated) → Told SameFiles held mid → before ≤ middle → HasImage held old image
    → OnOk came (Writes new image mid after) → Told (SameElsewhere new) mid after → IfErr came (WritingCause middle now) → Comes old new held after before now came
came_of old new held mid after before middle now image (Ok x) same later read written others cause =
    let runs : RunsAsItIs image = keeps image (current image) refl in
    let wrote : Writes new image held after = writes_after held mid after new image same written in
    (image, read, wrote, runs, others_after held mid after new same others)
came_of old new held mid after before middle now image (Err (NoImage why)) same later read written others cause = absurd cause
came_of old new held mid after before middle now image (Err WriteFailed) same later read written others cause =
    (image, read, rose_after before middle now later cause, others_after held mid after new same others)
came_of old new held mid after before middle now image (Err OutOfMemory) same later read written others cause =
    (image, read, tt, others_after held mid after new same others)

unbegun_some : (why : Unbegun) → 0 < unbegun_status why
unbegun_some (unbegun.Unread file error) = omega arith
unbegun_some (unbegun.Refused error) = omega arith
unbegun_some unbegun.OutOfMemory = omega arith

unmigrated_some : (why : Unmigrated) → 0 < unmigrated_status why
unmigrated_some (NoImage why) = unbegun_some why
unmigrated_some WriteFailed = omega arith
unmigrated_some OutOfMemory = omega arith

not_ended : (status : ℕ) (line : List ℕ) (result : ℕ) (err : ErrorStream) → 0 < status → Ended status line result err → result ≡ 0 → ⊥
not_ended status line result err some (inl own) none = omega (arith, own.0)
not_ended status line result err some (inr fault) none = omega (arith, fault.0)

-- only an image that was migrated has status 0
pub done : (old new : List ℕ) (held after : Option Held) (before now : ℕ) (came : Result (Unit {0}) Unmigrated) (result : ℕ) (err : ErrorStream)
    → Comes old new held after before now came → Reports old new came result err → result ≡ 0 → MigratesImage old new held after × Told TookNothing err.told err.printed
done old new held after before now (Ok x) result err comes reports none = (comes, reports.1)
done old new held after before now (Err why) result err comes (inl own) none = absurd (not_ended (unmigrated_status why) _ result err (unmigrated_some why) own none)
done old new held after before now (Err why) result err comes (inr memory) none = absurd (not_ended 6 _ result err (omega arith) memory none)
