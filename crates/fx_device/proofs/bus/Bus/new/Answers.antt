use Rattle.std.proofs.Common.{◌≡◌, ◌<◌, ◌++◌, ◌∷◌, [], length, arith, ap, ◌∙◌, append_assoc, length-append}
use Rattle.std.specs.Vec.Iter.{into_iter_items}
use Rattle.fx_device.proofs.Boxes.{plugged-push}
use Rattle.fx_device.proofs.Law.{law-start}
use Rattle.fx_device.proofs.bus.Bus.new.Goals as goal

pub loop-device-preserved : goal.loop-device-preserved
loop-device-preserved g c =
    let so_far = c.loop-device.invariant in
    let more : into_iter_items c.loop-device.device-iterator ≡ c.in-Some.device ∷ into_iter_items c.next.new.self = c.in-Some.ensures.steps.0 in
    let all : c.loop-device.yielded ++ (c.in-Some.device ∷ into_iter_items c.next.new.self) ≡ c.args.devices.items = rw (← more) so_far.4 in
    let within : length c.loop-device.yielded < 15 = omega (arith, ap length all, length-append c.loop-device.yielded (c.in-Some.device ∷ into_iter_items c.next.new.self), c.requires) in
    (tt, tt, omega (arith, length-append c.loop-device.yielded (c.in-Some.device ∷ []), so_far.2), rw (so_far.3, so_far.2) (plugged-push 15 c.loop-device.yielded c.in-Some.device within), append_assoc c.loop-device.yielded (c.in-Some.device ∷ []) (into_iter_items c.next.new.self) ∙ all)

pub returns-clause-law : goal.returns-clause-law
returns-clause-law g c = rw c.new.ensures.items (law-start _)
