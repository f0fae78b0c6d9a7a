use Rattle.std.proofs.Common.{arith}
use Rattle.fx_cmd_single.proofs.Views.{run_with}
use Rattle.fx_cmd_single.proofs.Moments.{begins, goes_on, ends, all_spent, cost_rises}
use Rattle.fx_cmd_single.proofs.run.run_on.Goals as goal

pub step_once-requires : goal.step_once-requires
step_once-requires g c =
    c.loop-runner.invariant.moment.reached.going

pub loop-runner-init : goal.loop-runner-init
loop-runner-init g c =
    let a = c.args.runner.now in
    let m = run_with a.source a.core a.bus.boxes a.bus.transcript.items a.cost a.end (λ d. (g.dyn-1.0.entry d.vtable).1.meaning d.value) in
    record {
      moment = begins c.args.budget (g.O.Sink.taken c.args.out.now) (g.I.Source.left c.args.input.now) m c.requires.0 c.requires.1;
      read = omega arith;
      put = omega arith;
    }

pub loop-runner-preserved : goal.loop-runner-preserved
loop-runner-preserved g c =
    let l = c.loop-runner in
    let a = c.args.runner.now in
    let b = l.runner in
    let e = c.step_once.new.runner in
    let m = run_with b.source b.core b.bus.boxes b.bus.transcript.items b.cost b.end (λ d. (g.dyn-1.0.entry d.vtable).1.meaning d.value) in
    let k = run_with e.source e.core e.bus.boxes e.bus.transcript.items e.cost e.end (λ d. (g.dyn-1.0.entry d.vtable).1.meaning d.value) in
    let i = l.invariant in
    let before = i.read in
    let since = i.put in
    let reads = c.step_once.ensures.read in
    let puts = c.step_once.ensures.put in
    record {
      moment = goes_on _ _ _ _ _ _ m _ _ i.moment (rw (← c.cost.ensures) c.loop-runner-test.true) (omega arith) k _ _ c.in_default.ensures.goes;
      read = omega (arith, before, reads);
      put = omega (arith, since, puts);
    }

pub loop-runner-smaller : goal.loop-runner-smaller
loop-runner-smaller g c =
    let l = c.loop-runner in
    let a = c.args.runner.now in
    let b = l.runner in
    let e = c.step_once.new.runner in
    let m = run_with b.source b.core b.bus.boxes b.bus.transcript.items b.cost b.end (λ d. (g.dyn-1.0.entry d.vtable).1.meaning d.value) in
    let k = run_with e.source e.core e.bus.boxes e.bus.transcript.items e.cost e.end (λ d. (g.dyn-1.0.entry d.vtable).1.meaning d.value) in
    let rises = cost_rises _ _ _ _ _ _ m _ _ l.invariant.moment (rw (← c.cost.ensures) c.loop-runner-test.true) (omega arith) k _ _ c.in_default.ensures.goes in omega (arith, rises)

pub returns-in-Some-clause-ran : goal.returns-in-Some-clause-ran
returns-in-Some-clause-ran g c =
    let l = c.loop-runner in
    let a = c.args.runner.now in
    let b = l.runner in
    let e = c.step_once.new.runner in
    let m = run_with b.source b.core b.bus.boxes b.bus.transcript.items b.cost b.end (λ d. (g.dyn-1.0.entry d.vtable).1.meaning d.value) in
    let k = run_with e.source e.core e.bus.boxes e.bus.transcript.items e.cost e.end (λ d. (g.dyn-1.0.entry d.vtable).1.meaning d.value) in
    (ends _ _ _ _ _ _ m _ _ l.invariant.moment (rw (← c.cost.ensures) c.loop-runner-test.true) (omega arith) (g.I.Source.faults c.args.input.now) (g.I.Source.faults l.input) (g.I.Source.faults c.step_once.new.input) (g.O.Sink.faults c.args.out.now) (g.O.Sink.faults l.out) (g.O.Sink.faults c.step_once.new.out) l.invariant.read l.invariant.put c.in-Some.outcome k (g.O.Sink.taken c.step_once.new.out) (g.I.Source.left c.step_once.new.input) c.in-Some.ensures.ends).ran

pub returns-in-Some-clause-output : goal.returns-in-Some-clause-output
returns-in-Some-clause-output g c =
    let l = c.loop-runner in
    let a = c.args.runner.now in
    let b = l.runner in
    let e = c.step_once.new.runner in
    let m = run_with b.source b.core b.bus.boxes b.bus.transcript.items b.cost b.end (λ d. (g.dyn-1.0.entry d.vtable).1.meaning d.value) in
    let k = run_with e.source e.core e.bus.boxes e.bus.transcript.items e.cost e.end (λ d. (g.dyn-1.0.entry d.vtable).1.meaning d.value) in
    (ends _ _ _ _ _ _ m _ _ l.invariant.moment (rw (← c.cost.ensures) c.loop-runner-test.true) (omega arith) (g.I.Source.faults c.args.input.now) (g.I.Source.faults l.input) (g.I.Source.faults c.step_once.new.input) (g.O.Sink.faults c.args.out.now) (g.O.Sink.faults l.out) (g.O.Sink.faults c.step_once.new.out) l.invariant.read l.invariant.put c.in-Some.outcome k (g.O.Sink.taken c.step_once.new.out) (g.I.Source.left c.step_once.new.input) c.in-Some.ensures.ends).output_is

pub returns-in-Some-clause-input : goal.returns-in-Some-clause-input
returns-in-Some-clause-input g c =
    let l = c.loop-runner in
    let a = c.args.runner.now in
    let b = l.runner in
    let e = c.step_once.new.runner in
    let m = run_with b.source b.core b.bus.boxes b.bus.transcript.items b.cost b.end (λ d. (g.dyn-1.0.entry d.vtable).1.meaning d.value) in
    let k = run_with e.source e.core e.bus.boxes e.bus.transcript.items e.cost e.end (λ d. (g.dyn-1.0.entry d.vtable).1.meaning d.value) in
    (ends _ _ _ _ _ _ m _ _ l.invariant.moment (rw (← c.cost.ensures) c.loop-runner-test.true) (omega arith) (g.I.Source.faults c.args.input.now) (g.I.Source.faults l.input) (g.I.Source.faults c.step_once.new.input) (g.O.Sink.faults c.args.out.now) (g.O.Sink.faults l.out) (g.O.Sink.faults c.step_once.new.out) l.invariant.read l.invariant.put c.in-Some.outcome k (g.O.Sink.taken c.step_once.new.out) (g.I.Source.left c.step_once.new.input) c.in-Some.ensures.ends).input_is

pub returns-clause-ran : goal.returns-clause-ran
returns-clause-ran g c =
    let l = c.loop-runner in
    let a = c.args.runner.now in
    let b = l.runner in
    let m = run_with b.source b.core b.bus.boxes b.bus.transcript.items b.cost b.end (λ d. (g.dyn-1.0.entry d.vtable).1.meaning d.value) in
    (all_spent _ _ _ _ _ _ m _ _ l.invariant.moment (g.I.Source.faults c.args.input.now) (g.I.Source.faults l.input) (g.O.Sink.faults c.args.out.now) (g.O.Sink.faults l.out) (rw (← c.cost.ensures) c.loop-runner-test.false)).ran

pub returns-clause-output : goal.returns-clause-output
returns-clause-output g c =
    let l = c.loop-runner in
    let a = c.args.runner.now in
    let b = l.runner in
    let m = run_with b.source b.core b.bus.boxes b.bus.transcript.items b.cost b.end (λ d. (g.dyn-1.0.entry d.vtable).1.meaning d.value) in
    (all_spent _ _ _ _ _ _ m _ _ l.invariant.moment (g.I.Source.faults c.args.input.now) (g.I.Source.faults l.input) (g.O.Sink.faults c.args.out.now) (g.O.Sink.faults l.out) (rw (← c.cost.ensures) c.loop-runner-test.false)).output_is

pub returns-clause-input : goal.returns-clause-input
returns-clause-input g c =
    let l = c.loop-runner in
    let a = c.args.runner.now in
    let b = l.runner in
    let m = run_with b.source b.core b.bus.boxes b.bus.transcript.items b.cost b.end (λ d. (g.dyn-1.0.entry d.vtable).1.meaning d.value) in
    (all_spent _ _ _ _ _ _ m _ _ l.invariant.moment (g.I.Source.faults c.args.input.now) (g.I.Source.faults l.input) (g.O.Sink.faults c.args.out.now) (g.O.Sink.faults l.out) (rw (← c.cost.ensures) c.loop-runner-test.false)).input_is
