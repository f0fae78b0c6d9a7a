use Rattle.std.proofs.Common.{◌≡◌, ◌++◌, length}
use Rattle.std.specs.Vec.Iter.{into_iter_items}
use Rattle.fx_device.specs.Bus.{plugged}
use Rattle.fx_device.proofs.bus.Bus.new.Given as goal

abbrev pub invariant-loop-device : goal.invariant-loop-device
invariant-loop-device g l =
    (goal.iterator-loop-device g).can_next l.device-iterator × (goal.iterator-loop-device g).is_finite l.device-iterator
    × (l.place ≡ length l.yielded) × (l.boxes ≡ plugged 15 l.yielded) × (l.yielded ++ into_iter_items l.device-iterator ≡ l.fn.devices.items)
