use Rattle.std.proofs.Common.{◌≡◌, ◌≢◌, ◌<◌, ◌-◌, length, refl, arith}
use Rattle.fx_device.proofs.Boxes.{Lands-at, Lands-zero, Lands-past}
use Rattle.fx_device.proofs.bus.store_at.Goals as goal

pub returns-then-device-eq0 : goal.returns-then-device-eq0
returns-then-device-eq0 g c = Lands-zero _ c.args.boxes.now c.args.device _ _ (omega arith) refl

pub returns-then-from-gt15 : goal.returns-then-from-gt15
returns-then-from-gt15 g c = Lands-past _ c.args.boxes.now c.args.device _ _ (omega arith) refl

pub returns : goal.returns
returns g c =
    let here : c.args.device ≢ 0 = omega arith in
    let at : c.from-2.result - 1 ≡ c.args.device - 1 = omega arith in
    let within : c.from-2.result - 1 < length c.args.boxes.now = omega arith in
    Lands-at _ _ c.args.device (c.from-2.result - 1) _ _ c.index-boxes-from.result _ here at within c.store_to.ensures
