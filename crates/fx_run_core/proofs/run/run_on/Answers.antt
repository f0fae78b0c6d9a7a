use Rattle.std.proofs.Common.{length, ap, arith}
use Rattle.fx_run_core.proofs.States.{state_with}
use Rattle.fx_run_core.proofs.Moments.{begins, goes_on_at, ends_at, spent}
use Rattle.fx_run_core.proofs.run.run_on.Goals as goal

pub turn_once-requires : goal.turn_once-requires
turn_once-requires g c = c.loop-turns.invariant.moment.reached.going

pub loop-turns-init : goal.loop-turns-init
loop-turns-init g c =
    let a = c.args.machine.now in
    let b = c.begin-watch.new.machine in
    let m = state_with a.image a.memory a.cpus.items a.bus.boxes a.bus.transcript.items a.stop (λ d. (g.dyn-1.0.entry d.vtable).1.meaning d.value) in
    let k = state_with b.image b.memory b.cpus.items b.bus.boxes b.bus.transcript.items b.stop (λ d. (g.dyn-1.0.entry d.vtable).1.meaning d.value) in
    record {
      within = omega arith;
      moment = begins c.args.schedule.now c.args.unplug c.begin-watch.result (g.O.Sink.taken c.args.out.now) (g.I.Source.left c.args.input.now) m k c.requires.0 c.requires.1 c.begin-watch.ensures.rebox c.begin-watch.ensures.watching c.begin-watch.ensures.devices;
      read = omega arith;
      put = omega arith;
    }

pub loop-turns-preserved : goal.loop-turns-preserved
loop-turns-preserved g c =
    let l = c.loop-turns in
    let a = c.args.machine.now in
    let b = l.machine in
    let e = c.turn_once.new.machine in
    let f = c.go_on-watch.new.machine in
    let m = state_with b.image b.memory b.cpus.items b.bus.boxes b.bus.transcript.items b.stop (λ d. (g.dyn-1.0.entry d.vtable).1.meaning d.value) in
    let k = state_with e.image e.memory e.cpus.items e.bus.boxes e.bus.transcript.items e.stop (λ d. (g.dyn-1.0.entry d.vtable).1.meaning d.value) in
    let j = state_with f.image f.memory f.cpus.items f.bus.boxes f.bus.transcript.items f.stop (λ d. (g.dyn-1.0.entry d.vtable).1.meaning d.value) in
    let i = l.invariant in
    let less = c.loop-turns-test.true in
    let reads = c.turn_once.ensures.read in
    let puts = c.turn_once.ensures.put in
    let before = i.read in
    let since = i.put in
    record {
      within = omega (arith, less);
      moment = goes_on_at _ _ _ _ _ _ m l.turns _ _ _ i.moment c.named.result c.named.ensures k j (length c.transcript-count.result.now) c.go_on-watch.result (g.O.Sink.taken c.turn_once.new.out) (g.I.Source.left c.turn_once.new.input) (ap length c.transcript-count.ensures) c.in-None.ensures.goes c.go_on-watch.ensures.rebox c.go_on-watch.ensures.watching;
      read = omega (arith, before, reads);
      put = omega (arith, since, puts);
    }

pub returns-in-Some-clause-ran : goal.returns-in-Some-clause-ran
returns-in-Some-clause-ran g c =
    let l = c.loop-turns in
    let a = c.args.machine.now in
    let b = l.machine in
    let m = state_with b.image b.memory b.cpus.items b.bus.boxes b.bus.transcript.items b.stop (λ d. (g.dyn-1.0.entry d.vtable).1.meaning d.value) in
    let e = c.turn_once.new.machine in
    let k = state_with e.image e.memory e.cpus.items e.bus.boxes e.bus.transcript.items e.stop (λ d. (g.dyn-1.0.entry d.vtable).1.meaning d.value) in
    (ends_at _ _ _ _ _ _ m l.turns _ _ _ l.invariant.moment c.args.budget
    (g.I.Source.faults c.args.input.now) (g.I.Source.faults l.input) (g.I.Source.faults c.turn_once.new.input) (g.O.Sink.faults c.args.out.now) (g.O.Sink.faults l.out) (g.O.Sink.faults c.turn_once.new.out) l.invariant.read l.invariant.put
    c.named.result c.named.ensures c.in-Some.outcome c.counted.result c.counted.ensures k (g.O.Sink.taken c.turn_once.new.out) (g.I.Source.left c.turn_once.new.input) c.loop-turns-test.true c.in-Some.ensures.ends).ran

pub returns-in-Some-clause-output : goal.returns-in-Some-clause-output
returns-in-Some-clause-output g c =
    let l = c.loop-turns in
    let a = c.args.machine.now in
    let b = l.machine in
    let m = state_with b.image b.memory b.cpus.items b.bus.boxes b.bus.transcript.items b.stop (λ d. (g.dyn-1.0.entry d.vtable).1.meaning d.value) in
    let e = c.turn_once.new.machine in
    let k = state_with e.image e.memory e.cpus.items e.bus.boxes e.bus.transcript.items e.stop (λ d. (g.dyn-1.0.entry d.vtable).1.meaning d.value) in
    (ends_at _ _ _ _ _ _ m l.turns _ _ _ l.invariant.moment c.args.budget
    (g.I.Source.faults c.args.input.now) (g.I.Source.faults l.input) (g.I.Source.faults c.turn_once.new.input) (g.O.Sink.faults c.args.out.now) (g.O.Sink.faults l.out) (g.O.Sink.faults c.turn_once.new.out) l.invariant.read l.invariant.put
    c.named.result c.named.ensures c.in-Some.outcome c.counted.result c.counted.ensures k (g.O.Sink.taken c.turn_once.new.out) (g.I.Source.left c.turn_once.new.input) c.loop-turns-test.true c.in-Some.ensures.ends).output_is

pub returns-in-Some-clause-input : goal.returns-in-Some-clause-input
returns-in-Some-clause-input g c =
    let l = c.loop-turns in
    let a = c.args.machine.now in
    let b = l.machine in
    let m = state_with b.image b.memory b.cpus.items b.bus.boxes b.bus.transcript.items b.stop (λ d. (g.dyn-1.0.entry d.vtable).1.meaning d.value) in
    let e = c.turn_once.new.machine in
    let k = state_with e.image e.memory e.cpus.items e.bus.boxes e.bus.transcript.items e.stop (λ d. (g.dyn-1.0.entry d.vtable).1.meaning d.value) in
    (ends_at _ _ _ _ _ _ m l.turns _ _ _ l.invariant.moment c.args.budget
    (g.I.Source.faults c.args.input.now) (g.I.Source.faults l.input) (g.I.Source.faults c.turn_once.new.input) (g.O.Sink.faults c.args.out.now) (g.O.Sink.faults l.out) (g.O.Sink.faults c.turn_once.new.out) l.invariant.read l.invariant.put
    c.named.result c.named.ensures c.in-Some.outcome c.counted.result c.counted.ensures k (g.O.Sink.taken c.turn_once.new.out) (g.I.Source.left c.turn_once.new.input) c.loop-turns-test.true c.in-Some.ensures.ends).input_is

pub returns-in-Some-clause-cause : goal.returns-in-Some-clause-cause
returns-in-Some-clause-cause g c =
    let l = c.loop-turns in
    let a = c.args.machine.now in
    let b = l.machine in
    let m = state_with b.image b.memory b.cpus.items b.bus.boxes b.bus.transcript.items b.stop (λ d. (g.dyn-1.0.entry d.vtable).1.meaning d.value) in
    let e = c.turn_once.new.machine in
    let k = state_with e.image e.memory e.cpus.items e.bus.boxes e.bus.transcript.items e.stop (λ d. (g.dyn-1.0.entry d.vtable).1.meaning d.value) in
    (ends_at _ _ _ _ _ _ m l.turns _ _ _ l.invariant.moment c.args.budget
    (g.I.Source.faults c.args.input.now) (g.I.Source.faults l.input) (g.I.Source.faults c.turn_once.new.input) (g.O.Sink.faults c.args.out.now) (g.O.Sink.faults l.out) (g.O.Sink.faults c.turn_once.new.out) l.invariant.read l.invariant.put
    c.named.result c.named.ensures c.in-Some.outcome c.counted.result c.counted.ensures k (g.O.Sink.taken c.turn_once.new.out) (g.I.Source.left c.turn_once.new.input) c.loop-turns-test.true c.in-Some.ensures.ends).cause

pub returns-clause-ran : goal.returns-clause-ran
returns-clause-ran g c =
    let l = c.loop-turns in
    let a = c.args.machine.now in
    let b = l.machine in
    let m = state_with b.image b.memory b.cpus.items b.bus.boxes b.bus.transcript.items b.stop (λ d. (g.dyn-1.0.entry d.vtable).1.meaning d.value) in
    (spent _ _ _ _ _ _ m l.turns _ _ _ l.invariant.moment c.args.budget
    (g.I.Source.faults c.args.input.now) (g.I.Source.faults l.input) (g.O.Sink.faults c.args.out.now) (g.O.Sink.faults l.out) l.invariant.within c.loop-turns-test.false).ran

pub returns-clause-output : goal.returns-clause-output
returns-clause-output g c =
    let l = c.loop-turns in
    let a = c.args.machine.now in
    let b = l.machine in
    let m = state_with b.image b.memory b.cpus.items b.bus.boxes b.bus.transcript.items b.stop (λ d. (g.dyn-1.0.entry d.vtable).1.meaning d.value) in
    (spent _ _ _ _ _ _ m l.turns _ _ _ l.invariant.moment c.args.budget
    (g.I.Source.faults c.args.input.now) (g.I.Source.faults l.input) (g.O.Sink.faults c.args.out.now) (g.O.Sink.faults l.out) l.invariant.within c.loop-turns-test.false).output_is

pub returns-clause-input : goal.returns-clause-input
returns-clause-input g c =
    let l = c.loop-turns in
    let a = c.args.machine.now in
    let b = l.machine in
    let m = state_with b.image b.memory b.cpus.items b.bus.boxes b.bus.transcript.items b.stop (λ d. (g.dyn-1.0.entry d.vtable).1.meaning d.value) in
    (spent _ _ _ _ _ _ m l.turns _ _ _ l.invariant.moment c.args.budget
    (g.I.Source.faults c.args.input.now) (g.I.Source.faults l.input) (g.O.Sink.faults c.args.out.now) (g.O.Sink.faults l.out) l.invariant.within c.loop-turns-test.false).input_is

pub returns-clause-cause : goal.returns-clause-cause
returns-clause-cause g c =
    let l = c.loop-turns in
    let a = c.args.machine.now in
    let b = l.machine in
    let m = state_with b.image b.memory b.cpus.items b.bus.boxes b.bus.transcript.items b.stop (λ d. (g.dyn-1.0.entry d.vtable).1.meaning d.value) in
    (spent _ _ _ _ _ _ m l.turns _ _ _ l.invariant.moment c.args.budget
    (g.I.Source.faults c.args.input.now) (g.I.Source.faults l.input) (g.O.Sink.faults c.args.out.now) (g.O.Sink.faults l.out) l.invariant.within c.loop-turns-test.false).cause
