use Rattle.fx_run_core.proofs.States.{bus_with}
use Rattle.fx_run_core.proofs.Watched.{devices_dropped, devices_unwatched, devices_watched}
use Rattle.fx_run_core.proofs.watch.begin.Goals as goal

pub returns-then-left-eq0-clause-devices : goal.returns-then-left-eq0-clause-devices
returns-then-left-eq0-clause-devices g c =
    let m = c.args.machine.now in
    let n = c.unplug.new.self in
    let old = bus_with m.bus.boxes m.bus.transcript.items (λ d. (g.dyn-1.0.entry d.vtable).1.meaning d.value) in
    let new = bus_with n.bus.boxes n.bus.transcript.items (λ d. (g.dyn-1.0.entry d.vtable).1.meaning d.value) in
    rw (c.in-Some.is) (devices_dropped old.boxes c.in-Some.device c.in-Some.left new c.if-left-eq0.true c.unplug.ensures.boxes (rw (c.unplug.ensures.transcript) c.requires))

pub returns-in-None-clause-devices : goal.returns-in-None-clause-devices
returns-in-None-clause-devices g c =
    let m = c.args.machine.now in
    rw (c.in-None.is) (devices_unwatched (bus_with m.bus.boxes m.bus.transcript.items (λ d. (g.dyn-1.0.entry d.vtable).1.meaning d.value)) c.requires)

pub returns-else-left-eq0-clause-devices : goal.returns-else-left-eq0-clause-devices
returns-else-left-eq0-clause-devices g c =
    let m = c.args.machine.now in
    rw (c.in-Some.is) (devices_watched (bus_with m.bus.boxes m.bus.transcript.items (λ d. (g.dyn-1.0.entry d.vtable).1.meaning d.value)) c.in-Some.device c.in-Some.left c.if-left-eq0.false c.requires)
