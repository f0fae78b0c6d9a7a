use Rattle.std.proofs.Common.{List, [], Option, refl}
use Rattle.fx_base.specs.Told.{Told}
use Rattle.fx_base.specs.declared.device_op.DeviceOp.{DeviceOp}
use Rattle.fx_device.specs.Bus.{plugged}
use Rattle.fx_device.specs.Rules.{Meaning}
use Rattle.fx_image.specs.declared.forms.Image.{Image}
use Rattle.fx_run_core.specs.Ran.{RunsTo, HasCause, Output, Input}
use Rattle.fx_run_core.proofs.States.{state_with, bus_with, boots, from_boot}
use Rattle.fx_run_core.proofs.Moments.{nothing_ran}
use Rattle.fx_run_core.proofs.run.run.Goals as goal

pub run_on-ended-requires : goal.run_on-ended-requires
run_on-ended-requires g c =
    let p = c.new-bus.result in
    let a = c.in-Ok.machine in
    boots c.args.image.now (bus_with p.boxes p.transcript.items (λ d. (g.dyn-1.0.entry d.vtable).1.meaning d.value)) (state_with a.image a.memory a.cpus.items a.bus.boxes a.bus.transcript.items a.stop (λ d. (g.dyn-1.0.entry d.vtable).1.meaning d.value)) c.in-Ok.ensures c.new-bus.ensures.transcript

pub returns-clause-ran : goal.returns-clause-ran
returns-clause-ran g c =
    let p = c.new-bus.result in
    let a = c.in-Ok.machine in
    let e = c.run_on-ended.new.machine in
    let bus = bus_with p.boxes p.transcript.items (λ d. (g.dyn-1.0.entry d.vtable).1.meaning d.value) in
    let boxes = (bus_with (plugged 15 c.args.devices.items) [] (λ d. (g.dyn-1.0.entry d.vtable).1.meaning d.value)).boxes in
    let m = state_with a.image a.memory a.cpus.items a.bus.boxes a.bus.transcript.items a.stop (λ d. (g.dyn-1.0.entry d.vtable).1.meaning d.value) in
    from_boot (λ (i : Image) (bs : List (Option Meaning)) (t : List DeviceOp). RunsTo i c.args.schedule.now c.args.budget c.args.unplug bs c.run_on-ended.result.0 c.run_on-ended.result.1 t) c.args.image.now bus boxes m e.bus.transcript.items c.into_transcript.result c.in-Ok.ensures (rw (c.new-bus.ensures.boxes) refl) (rw (c.into_transcript.ensures, c.finish.ensures) refl) c.run_on-ended.ensures.ran

pub returns-clause-output : goal.returns-clause-output
returns-clause-output g c =
    let p = c.new-bus.result in
    let a = c.in-Ok.machine in
    let e = c.run_on-ended.new.machine in
    let bus = bus_with p.boxes p.transcript.items (λ d. (g.dyn-1.0.entry d.vtable).1.meaning d.value) in
    let boxes = (bus_with (plugged 15 c.args.devices.items) [] (λ d. (g.dyn-1.0.entry d.vtable).1.meaning d.value)).boxes in
    let m = state_with a.image a.memory a.cpus.items a.bus.boxes a.bus.transcript.items a.stop (λ d. (g.dyn-1.0.entry d.vtable).1.meaning d.value) in
    from_boot (λ (i : Image) (bs : List (Option Meaning)) (t : List DeviceOp). Told (Output c.run_on-ended.result.0 t) (g.O.Sink.taken c.args.out.now) (g.O.Sink.taken c.run_on-ended.new.out)) c.args.image.now bus boxes m e.bus.transcript.items c.into_transcript.result c.in-Ok.ensures (rw (c.new-bus.ensures.boxes) refl) (rw (c.into_transcript.ensures, c.finish.ensures) refl) c.run_on-ended.ensures.output

pub returns-clause-input : goal.returns-clause-input
returns-clause-input g c =
    let p = c.new-bus.result in
    let a = c.in-Ok.machine in
    let e = c.run_on-ended.new.machine in
    let bus = bus_with p.boxes p.transcript.items (λ d. (g.dyn-1.0.entry d.vtable).1.meaning d.value) in
    let boxes = (bus_with (plugged 15 c.args.devices.items) [] (λ d. (g.dyn-1.0.entry d.vtable).1.meaning d.value)).boxes in
    let m = state_with a.image a.memory a.cpus.items a.bus.boxes a.bus.transcript.items a.stop (λ d. (g.dyn-1.0.entry d.vtable).1.meaning d.value) in
    from_boot (λ (i : Image) (bs : List (Option Meaning)) (t : List DeviceOp). Told (Input c.run_on-ended.result.0 t) (g.I.Source.left c.args.input.now) (g.I.Source.left c.run_on-ended.new.input)) c.args.image.now bus boxes m e.bus.transcript.items c.into_transcript.result c.in-Ok.ensures (rw (c.new-bus.ensures.boxes) refl) (rw (c.into_transcript.ensures, c.finish.ensures) refl) c.run_on-ended.ensures.input

pub returns-clause-cause : goal.returns-clause-cause
returns-clause-cause g c =
    let p = c.new-bus.result in
    let a = c.in-Ok.machine in
    let e = c.run_on-ended.new.machine in
    let bus = bus_with p.boxes p.transcript.items (λ d. (g.dyn-1.0.entry d.vtable).1.meaning d.value) in
    let boxes = (bus_with (plugged 15 c.args.devices.items) [] (λ d. (g.dyn-1.0.entry d.vtable).1.meaning d.value)).boxes in
    let m = state_with a.image a.memory a.cpus.items a.bus.boxes a.bus.transcript.items a.stop (λ d. (g.dyn-1.0.entry d.vtable).1.meaning d.value) in
    from_boot (λ (i : Image) (bs : List (Option Meaning)) (t : List DeviceOp). HasCause i c.args.schedule.now c.args.unplug bs c.run_on-ended.result.1 t (g.I.Source.faults c.args.input.now) (g.I.Source.faults c.run_on-ended.new.input) (g.O.Sink.faults c.args.out.now) (g.O.Sink.faults c.run_on-ended.new.out) c.run_on-ended.result.0) c.args.image.now bus boxes m e.bus.transcript.items c.into_transcript.result c.in-Ok.ensures (rw (c.new-bus.ensures.boxes) refl) (rw (c.into_transcript.ensures, c.finish.ensures) refl) c.run_on-ended.ensures.cause

pub returns-in-Err-clause-ran : goal.returns-in-Err-clause-ran
returns-in-Err-clause-ran g c =
    rw (c.unstarted.ensures.outcome, c.unstarted.ensures.turns)
    (nothing_ran c.args.image.now c.args.schedule.now c.args.budget c.args.unplug (bus_with (plugged 15 c.args.devices.items) [] (λ d. (g.dyn-1.0.entry d.vtable).1.meaning d.value)).boxes (g.O.Sink.taken c.args.out.now) (g.I.Source.left c.args.input.now)
    (g.I.Source.faults c.args.input.now) (g.I.Source.faults c.args.input.now) (g.O.Sink.faults c.args.out.now) (g.O.Sink.faults c.args.out.now) c.unstarted.result.transcript c.unstarted.ensures.transcript).ran

pub returns-in-Err-clause-output : goal.returns-in-Err-clause-output
returns-in-Err-clause-output g c =
    rw (c.unstarted.ensures.outcome)
    (nothing_ran c.args.image.now c.args.schedule.now c.args.budget c.args.unplug (bus_with (plugged 15 c.args.devices.items) [] (λ d. (g.dyn-1.0.entry d.vtable).1.meaning d.value)).boxes (g.O.Sink.taken c.args.out.now) (g.I.Source.left c.args.input.now)
    (g.I.Source.faults c.args.input.now) (g.I.Source.faults c.args.input.now) (g.O.Sink.faults c.args.out.now) (g.O.Sink.faults c.args.out.now) c.unstarted.result.transcript c.unstarted.ensures.transcript).output_is

pub returns-in-Err-clause-input : goal.returns-in-Err-clause-input
returns-in-Err-clause-input g c =
    rw (c.unstarted.ensures.outcome)
    (nothing_ran c.args.image.now c.args.schedule.now c.args.budget c.args.unplug (bus_with (plugged 15 c.args.devices.items) [] (λ d. (g.dyn-1.0.entry d.vtable).1.meaning d.value)).boxes (g.O.Sink.taken c.args.out.now) (g.I.Source.left c.args.input.now)
    (g.I.Source.faults c.args.input.now) (g.I.Source.faults c.args.input.now) (g.O.Sink.faults c.args.out.now) (g.O.Sink.faults c.args.out.now) c.unstarted.result.transcript c.unstarted.ensures.transcript).input_is

pub returns-in-Err-clause-cause : goal.returns-in-Err-clause-cause
returns-in-Err-clause-cause g c =
    rw (c.unstarted.ensures.outcome)
    (nothing_ran c.args.image.now c.args.schedule.now c.args.budget c.args.unplug (bus_with (plugged 15 c.args.devices.items) [] (λ d. (g.dyn-1.0.entry d.vtable).1.meaning d.value)).boxes (g.O.Sink.taken c.args.out.now) (g.I.Source.left c.args.input.now)
    (g.I.Source.faults c.args.input.now) (g.I.Source.faults c.args.input.now) (g.O.Sink.faults c.args.out.now) (g.O.Sink.faults c.args.out.now) c.unstarted.result.transcript c.unstarted.ensures.transcript).cause
