use Rattle.std.proofs.Common.{ℕ, List, [], Option, refl}
use Rattle.fx_base.specs.declared.device_op.DeviceOp.{DeviceOp}
use Rattle.fx_device.specs.Bus.{plugged}
use Rattle.fx_device.specs.Rules.{Meaning}
use Rattle.fx_c_mean_model.specs.declared.rights.Rights.{Rights}
use Rattle.fx_c_mean_model.specs.Programs.{Program, program_of}
use Rattle.fx_cmd_single.specs.Ran.{RunsTo}
use Rattle.fx_cmd_single.proofs.Views.{run_with, bus_with, starts, from_start}
use Rattle.fx_cmd_single.proofs.Moments.{nothing_ran}
use Rattle.fx_cmd_single.proofs.run.single_run.Goals as goal

pub run_on-outcome-requires : goal.run_on-outcome-requires
run_on-outcome-requires g c =
    let p = c.new-bus.result in
    let a = c.in-Ok.runner in
    starts (program_of c.args.program.now) c.args.rights (bus_with p.boxes p.transcript.items (λ d. (g.dyn-1.0.entry d.vtable).1.meaning d.value)) (run_with a.source a.core a.bus.boxes a.bus.transcript.items a.cost a.end (λ d. (g.dyn-1.0.entry d.vtable).1.meaning d.value)) c.in-Ok.ensures c.new-bus.ensures.transcript

pub returns-clause-ran : goal.returns-clause-ran
returns-clause-ran g c =
    let p = c.new-bus.result in
    let a = c.in-Ok.runner in
    let e = c.run_on-outcome.new.runner in
    let bus = bus_with p.boxes p.transcript.items (λ d. (g.dyn-1.0.entry d.vtable).1.meaning d.value) in
    let boxes = (bus_with (plugged 15 c.args.devices.items) [] (λ d. (g.dyn-1.0.entry d.vtable).1.meaning d.value)).boxes in
    let m = run_with a.source a.core a.bus.boxes a.bus.transcript.items a.cost a.end (λ d. (g.dyn-1.0.entry d.vtable).1.meaning d.value) in
    from_start (λ (p : Program) (r : Rights) (bs : List (Option Meaning)) (cost : ℕ) (t : List DeviceOp). RunsTo p r c.args.budget bs (g.I.Source.faults c.args.input.now) (g.I.Source.faults c.run_on-outcome.new.input) (g.O.Sink.faults c.args.out.now) (g.O.Sink.faults c.run_on-outcome.new.out) c.run_on-outcome.result cost t) (program_of c.args.program.now) c.args.rights bus boxes m e.cost c.cost-cost.result e.bus.transcript.items c.into_transcript.result c.in-Ok.ensures (rw (c.new-bus.ensures.boxes) refl) c.cost-cost.ensures (rw (c.into_transcript.ensures, c.finish.ensures) refl) c.run_on-outcome.ensures.ran

pub returns-clause-output : goal.returns-clause-output
returns-clause-output g c =
    rw (c.into_transcript.ensures, c.finish.ensures) c.run_on-outcome.ensures.output

pub returns-clause-input : goal.returns-clause-input
returns-clause-input g c =
    rw (c.into_transcript.ensures, c.finish.ensures) c.run_on-outcome.ensures.input

pub returns-in-Err-clause-ran : goal.returns-in-Err-clause-ran
returns-in-Err-clause-ran g c =
    rw (c.unstarted.ensures.outcome)
    (nothing_ran (program_of c.args.program.now) c.args.rights c.args.budget (bus_with (plugged 15 c.args.devices.items) [] (λ d. (g.dyn-1.0.entry d.vtable).1.meaning d.value)).boxes (g.O.Sink.taken c.args.out.now) (g.I.Source.left c.args.input.now)
    (g.I.Source.faults c.args.input.now) (g.I.Source.faults c.args.input.now) (g.O.Sink.faults c.args.out.now) (g.O.Sink.faults c.args.out.now) c.unstarted.result.cost c.unstarted.result.transcript c.unstarted.ensures.cost c.unstarted.ensures.transcript).ran

pub returns-in-Err-clause-output : goal.returns-in-Err-clause-output
returns-in-Err-clause-output g c =
    rw (c.unstarted.ensures.outcome)
    (nothing_ran (program_of c.args.program.now) c.args.rights c.args.budget (bus_with (plugged 15 c.args.devices.items) [] (λ d. (g.dyn-1.0.entry d.vtable).1.meaning d.value)).boxes (g.O.Sink.taken c.args.out.now) (g.I.Source.left c.args.input.now)
    (g.I.Source.faults c.args.input.now) (g.I.Source.faults c.args.input.now) (g.O.Sink.faults c.args.out.now) (g.O.Sink.faults c.args.out.now) c.unstarted.result.cost c.unstarted.result.transcript c.unstarted.ensures.cost c.unstarted.ensures.transcript).output_is

pub returns-in-Err-clause-input : goal.returns-in-Err-clause-input
returns-in-Err-clause-input g c =
    rw (c.unstarted.ensures.outcome)
    (nothing_ran (program_of c.args.program.now) c.args.rights c.args.budget (bus_with (plugged 15 c.args.devices.items) [] (λ d. (g.dyn-1.0.entry d.vtable).1.meaning d.value)).boxes (g.O.Sink.taken c.args.out.now) (g.I.Source.left c.args.input.now)
    (g.I.Source.faults c.args.input.now) (g.I.Source.faults c.args.input.now) (g.O.Sink.faults c.args.out.now) (g.O.Sink.faults c.args.out.now) c.unstarted.result.cost c.unstarted.result.transcript c.unstarted.ensures.cost c.unstarted.ensures.transcript).input_is
