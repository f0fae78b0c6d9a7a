use Rattle.std.proofs.Common.{◌≡◌, ◌++◌, drop}
use Rattle.fx_cmd_show.specs.Lists.{each_line}
use Rattle.fx_cmd_show.specs.Lines.{device_line}
use Rattle.fx_cmd_show.proofs.tables.put_devices.Given as goal

abbrev pub invariant-loop-device : goal.invariant-loop-device
invariant-loop-device l = l.text ++ each_line (device_line l.comps) l.device (drop l.device l.owners) ≡ l.fn.text ++ each_line (device_line l.comps) 0 l.owners
