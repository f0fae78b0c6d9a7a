-- When an image is faithful to a source.
use Rattle.std.specs.Prelude.{ℕ, ◌<◌, ◌^◌, List, All}
use Rattle.fx_outcomes.specs.Runs.{Outcome}
use Rattle.fx_outcomes.specs.Keeping.{Keeps}
use Rattle.fx_base.specs.declared.device_op.DeviceOp.{DeviceOp}
use Rattle.fx_c_mean_model.specs.declared.end.End.{End}
use Rattle.fx_image.specs.declared.find.Found.{Found}
use Rattle.fx_image.specs.declared.forms.Image.{Image}
use Rattle.fx_machine_model.specs.Boot.{vcpus}
use Rattle.fx_machine_model.specs.Running.{run_image}
use Rattle.fx_machine_model.specs.declared.stop.Stop.{Stop}
use Rattle.fx_faithful.specs.Ends.{IsUndefined, Corresponds}

-- For all answers of devices and all schedules the image keeps to the source: each prefix of its
-- operations is one of the source's, it stops only with the source's operations and the end that
-- corresponds, and within 256 rounds for each unit of cost it has made what the source makes and has
-- stopped where the source ends. Nothing is owed from where the source is undefined.
--
-- `expected answers k` are the source's operations and its end within the cost k. `names answers`
-- says, for the run with these answers and the moment at which it ends, which offset of which object
-- of the source, by its number, a place of the image stands for.
unfoldable pub Faithful : (List ℕ → Found → ℕ → ℕ → Type 0) → (List ℕ → ℕ → Outcome DeviceOp End) → Image → Type 0
Faithful names expected image =
    (answers : List ℕ) → All (λ answer. answer < 2 ^ 64) answers →
    Keeps DeviceOp End Stop IsUndefined (Corresponds (names answers) image) (vcpus image) (expected answers) (run_image image answers)
