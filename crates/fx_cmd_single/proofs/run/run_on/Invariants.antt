use Rattle.std.proofs.Common.{◌≤◌, ◌-◌}
use Rattle.fx_cmd_single.proofs.Views.{run_with}
use Rattle.fx_cmd_single.proofs.Moments.{Moment}
use Rattle.fx_cmd_single.proofs.run.run_on.Given as goal

-- so many steps were made
abbrev pub invariant-loop-runner : goal.invariant-loop-runner
invariant-loop-runner g l =
    let first = l.fn.runner in
    let now = l.runner in
    let start = run_with first.source first.core first.bus.boxes first.bus.transcript.items first.cost first.end (λ d. (g.dyn-1.0.entry d.vtable).1.meaning d.value) in
    let m = run_with now.source now.core now.bus.boxes now.bus.transcript.items now.cost now.end (λ d. (g.dyn-1.0.entry d.vtable).1.meaning d.value) in
    record {
      moment : Moment start.program start.rights l.budget start.bus.boxes (g.O.Sink.taken l.fn.out) (g.I.Source.left l.fn.input) m (g.O.Sink.taken l.out) (g.I.Source.left l.input);
      read : g.I.Source.faults l.fn.input ≤ g.I.Source.faults l.input;
      put : g.O.Sink.faults l.fn.out ≤ g.O.Sink.faults l.out;
    }

abbrev pub decreases-loop-runner : goal.decreases-loop-runner
decreases-loop-runner g l = l.budget - l.runner.cost
