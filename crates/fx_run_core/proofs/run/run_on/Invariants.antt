use Rattle.std.proofs.Common.{◌≤◌, ◌-◌}
use Rattle.fx_run_core.proofs.States.{state_with}
use Rattle.fx_run_core.proofs.Moments.{Moment}
use Rattle.fx_run_core.proofs.run.run_on.Given as goal

-- so many turns were made
abbrev pub invariant-loop-turns : goal.invariant-loop-turns
invariant-loop-turns g l =
    let first = l.fn.machine in
    let now = l.machine in
    let start = state_with first.image first.memory first.cpus.items first.bus.boxes first.bus.transcript.items first.stop (λ d. (g.dyn-1.0.entry d.vtable).1.meaning d.value) in
    let m = state_with now.image now.memory now.cpus.items now.bus.boxes now.bus.transcript.items now.stop (λ d. (g.dyn-1.0.entry d.vtable).1.meaning d.value) in
    record {
      within : l.turns ≤ l.budget;
      moment : Moment start.image l.schedule l.fn.unplug start.bus.boxes (g.O.Sink.taken l.fn.out) (g.I.Source.left l.fn.input) m l.turns l.watch (g.O.Sink.taken l.out) (g.I.Source.left l.input);
      read : g.I.Source.faults l.fn.input ≤ g.I.Source.faults l.input;
      put : g.O.Sink.faults l.fn.out ≤ g.O.Sink.faults l.out;
    }

abbrev pub decreases-loop-turns : goal.decreases-loop-turns
decreases-loop-turns g l = l.budget - l.turns
