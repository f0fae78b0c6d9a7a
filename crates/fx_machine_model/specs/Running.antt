-- Runs of an image.
use Rattle.std.specs.Prelude.{ℕ, List}
use Rattle.fx_outcomes.specs.Runs.{Outcome, run, after, turns}
use Rattle.fx_outcomes.specs.Many.{Many, turn}
use Rattle.fx_base.specs.declared.device_op.DeviceOp.{DeviceOp}
use Rattle.fx_cpu.specs.declared.registers.Regs.{Regs}
use Rattle.fx_image.specs.declared.forms.Image.{Image}
use Rattle.fx_machine_model.specs.Boot.{boot_byte, boot_regs, vcpus}
use Rattle.fx_machine_model.specs.Moves.{World, move}
use Rattle.fx_machine_model.specs.declared.stop.Stop.{Stop}

-- The boot state, with the answers that loads of devices are given.
abbrev pub boot_world : Image → List ℕ → World
boot_world image answers = record { memory = boot_byte image; answers = answers }

abbrev pub boot : Image → List ℕ → Many Regs World
boot image answers = record { cpus = boot_regs image; world = boot_world image answers }

-- The operations and the stop of a run by a schedule of vCPU numbers, which are taken modulo the
-- number of vCPUs.
abbrev pub run_image : Image → List ℕ → List ℕ → Outcome DeviceOp Stop
run_image image answers schedule = run (turn (move image)) (vcpus image) schedule (boot image answers)

-- The state after it.
abbrev pub image_after : Image → List ℕ → List ℕ → Many Regs World
image_after image answers schedule = after (turn (move image)) (vcpus image) schedule (boot image answers)

-- The number of turns made until the stop.
abbrev pub image_turns : Image → List ℕ → List ℕ → ℕ
image_turns image answers schedule = turns (turn (move image)) (vcpus image) schedule (boot image answers)
