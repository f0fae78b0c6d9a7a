-- Images that differ in their versions alone run alike.
use Rattle.std.proofs.Common.{◌≡◌, ℕ, List, refl, sym, ap, subst, ◌∙◌}
use Rattle.fx_outcomes.specs.Runs.{run, after, turns}
use Rattle.fx_outcomes.specs.Many.{Many, turn}
use Rattle.fx_cpu.specs.declared.registers.Regs.{Regs}
use Rattle.fx_image.specs.declared.forms.Image.{Image}
use Rattle.fx_machine_model.specs.Layout.{page_entry}
use Rattle.fx_machine_model.specs.Boot.{boot_byte, boot_regs, vcpus}
use Rattle.fx_machine_model.specs.Moves.{World, Move, move}
use Rattle.fx_machine_model.specs.Running.{boot}
use Rattle.fx_image_migration_law.specs.Migration.{RunsAlike, MigrationKeeps}

module _ (i : Image) (version : ℕ) where
  abbrev other : Image
  other = record i { version = version }

  -- Neither the bytes at boot nor a turn of a vCPU is looked up by the version.
  bytes : boot_byte other ≡ boot_byte i
  unfolding boot_byte
  bytes = refl

  moves : move other ≡ move i
  unfolding move page_entry
  moves = refl

  abbrev booted : (ℕ → ℕ) → List ℕ → Many Regs World
  booted memory answers = record {
    cpus = boot_regs i;
    world = record { memory = memory; answers = answers };
  }

  boots : (answers : List ℕ) → boot other answers ≡ boot i answers
  boots answers = ap (λ memory. booted memory answers) bytes

  -- So whatever is seen of turns from the state at boot on is the same.
  module _ {A : Type 0} (seen : (ℕ → Regs → World → Move) → Many Regs World → A) where
    seen_alike : (answers : List ℕ)
        → seen (move other) (boot other answers) ≡ seen (move i) (boot i answers)
    seen_alike answers =
        ap (λ m. seen m (boot other answers)) moves ∙ ap (seen (move i)) (boots answers)

  pub versions_alike : (answers schedule : List ℕ) → RunsAlike other i answers schedule
  versions_alike answers schedule = record {
    vcpus = refl;
    boot = boots answers;
    outcome = seen_alike (λ m s. run (turn m) (vcpus i) schedule s) answers;
    turns = seen_alike (λ m s. turns (turn m) (vcpus i) schedule s) answers;
    after = seen_alike (λ m s. after (turn m) (vcpus i) schedule s) answers;
  }

pub keeps : MigrationKeeps
keeps old new is answers schedule =
    subst (λ i. RunsAlike i old answers schedule) (sym is) (versions_alike old 2 answers schedule)
