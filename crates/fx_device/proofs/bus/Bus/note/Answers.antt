use Rattle.std.proofs.Common.{◌≡◌, Bool, true, false, if◌then◌else◌, List, [], ◌∷◌, ◌++◌, Option, is_ok}
use Rattle.fx_base.specs.declared.device_op.DeviceOp.{DeviceOp}
use Rattle.fx_device.specs.Rules.{Meaning}
use Rattle.fx_device.specs.Bus.{BusLaw}
use Rattle.fx_device.proofs.Law.{law-note}
use Rattle.fx_device.proofs.bus.Bus.note.Goals as goal

either : (done : Bool) (first boxes : List (Option Meaning)) (ops : List DeviceOp) (op : DeviceOp) → op.device ≡ 0 → BusLaw first (record { boxes = boxes; transcript = ops })
    → BusLaw first (record { boxes = boxes; transcript = if done then ops ++ op ∷ [] else ops })
either true first boxes ops op console law = law-note first boxes ops op console law
either false first boxes ops op console law = law

pub returns-clause-law : goal.returns-clause-law
returns-clause-law g c = λ first law. rw (c.write_down.ensures.transcript, c.write_down.ensures.boxes) (either (is_ok c.write_down.result) first _ _ c.args.op c.requires law)
