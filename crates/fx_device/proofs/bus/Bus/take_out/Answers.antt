use Rattle.std.proofs.Common.{◌≡◌, ◌≢◌, ◌-◌, None, arith}
use Rattle.fx_device.proofs.Boxes.{map_box}
use Rattle.fx_device.proofs.bus.Bus.take_out.Goals as goal

pub returns-clause-boxes : goal.returns-clause-boxes
returns-clause-boxes g c =
    let here : c.args.device ≢ 0 = omega arith in
    let at : c.from-2.result - 1 ≡ c.args.device - 1 = omega arith in
    map_box _ _ c.args.device (c.from-2.result - 1) _ None here at c.take.ensures.after
