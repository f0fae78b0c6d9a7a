use Rattle.fx_run_core.proofs.States.{state_with}
use Rattle.fx_run_core.proofs.Turned.{by_went, by_output, by_unput, waits, by_given, by_ungiven}
use Rattle.fx_run_core.proofs.step.turn_once.Goals as goal

pub give-requires : goal.give-requires
give-requires g c =
    let a = c.args.machine.now in
    let b = c.turn.new.self in
    let m = state_with a.image a.memory a.cpus.items a.bus.boxes a.bus.transcript.items a.stop (λ d. (g.dyn-1.0.entry d.vtable).1.meaning d.value) in
    let n = state_with b.image b.memory b.cpus.items b.bus.boxes b.bus.transcript.items b.stop (λ d. (g.dyn-1.0.entry d.vtable).1.meaning d.value) in
    waits m n c.args.vcpu c.requires c.in-Input.ensures

pub returns-in-Went-clause-goes : goal.returns-in-Went-clause-goes
returns-in-Went-clause-goes g c =
    let a = c.args.machine.now in
    let b = c.turn.new.self in
    let m = state_with a.image a.memory a.cpus.items a.bus.boxes a.bus.transcript.items a.stop (λ d. (g.dyn-1.0.entry d.vtable).1.meaning d.value) in
    let n = state_with b.image b.memory b.cpus.items b.bus.boxes b.bus.transcript.items b.stop (λ d. (g.dyn-1.0.entry d.vtable).1.meaning d.value) in
    by_went m n c.args.vcpu c.requires (g.O.Sink.taken c.args.out.now) (g.I.Source.left c.args.input.now) c.in-Went.ensures

pub returns-in-Ok-clause-goes : goal.returns-in-Ok-clause-goes
returns-in-Ok-clause-goes g c =
    let a = c.args.machine.now in
    let b = c.turn.new.self in
    let m = state_with a.image a.memory a.cpus.items a.bus.boxes a.bus.transcript.items a.stop (λ d. (g.dyn-1.0.entry d.vtable).1.meaning d.value) in
    let n = state_with b.image b.memory b.cpus.items b.bus.boxes b.bus.transcript.items b.stop (λ d. (g.dyn-1.0.entry d.vtable).1.meaning d.value) in
    by_output m n c.args.vcpu c.requires c.in-Output.byte (g.O.Sink.taken c.args.out.now) (g.O.Sink.taken c.put_all.new.sink) (g.I.Source.left c.args.input.now) c.in-Output.ensures c.in-Ok.ensures.taken

pub returns-in-Err-clause-ends : goal.returns-in-Err-clause-ends
returns-in-Err-clause-ends g c =
    let a = c.args.machine.now in
    let b = c.turn.new.self in
    let m = state_with a.image a.memory a.cpus.items a.bus.boxes a.bus.transcript.items a.stop (λ d. (g.dyn-1.0.entry d.vtable).1.meaning d.value) in
    let n = state_with b.image b.memory b.cpus.items b.bus.boxes b.bus.transcript.items b.stop (λ d. (g.dyn-1.0.entry d.vtable).1.meaning d.value) in
    by_unput m n c.args.vcpu c.requires c.in-Output.byte c.in-Err.field-0.taken (g.I.Source.faults c.args.input.now) (g.I.Source.faults c.args.input.now) (g.O.Sink.faults c.args.out.now) (g.O.Sink.faults c.put_all.new.sink)
    (g.O.Sink.taken c.args.out.now) (g.O.Sink.taken c.put_all.new.sink) (g.I.Source.left c.args.input.now) c.in-Output.ensures c.in-Err.ensures.part c.in-Err.ensures.taken c.in-Err.ensures.fault

pub returns-in-Went-give-clause-goes : goal.returns-in-Went-give-clause-goes
returns-in-Went-give-clause-goes g c =
    let a = c.args.machine.now in
    let b = c.turn.new.self in
    let d = c.give.new.self in
    let m = state_with a.image a.memory a.cpus.items a.bus.boxes a.bus.transcript.items a.stop (λ d. (g.dyn-1.0.entry d.vtable).1.meaning d.value) in
    let n = state_with b.image b.memory b.cpus.items b.bus.boxes b.bus.transcript.items b.stop (λ d. (g.dyn-1.0.entry d.vtable).1.meaning d.value) in
    let k = state_with d.image d.memory d.cpus.items d.bus.boxes d.bus.transcript.items d.stop (λ d. (g.dyn-1.0.entry d.vtable).1.meaning d.value) in
    by_given m n c.args.vcpu c.requires k c.in-Some.answer c.in-Input.ensures (g.O.Sink.taken c.args.out.now) (g.I.Source.left c.args.input.now) (g.I.Source.left c.next_input.new.input) c.in-Went-give.ensures c.in-Some.ensures.given

pub returns-in-OutOfMemory-give-clause-ends : goal.returns-in-OutOfMemory-give-clause-ends
returns-in-OutOfMemory-give-clause-ends g c =
    let a = c.args.machine.now in
    let b = c.turn.new.self in
    let d = c.give.new.self in
    let m = state_with a.image a.memory a.cpus.items a.bus.boxes a.bus.transcript.items a.stop (λ d. (g.dyn-1.0.entry d.vtable).1.meaning d.value) in
    let n = state_with b.image b.memory b.cpus.items b.bus.boxes b.bus.transcript.items b.stop (λ d. (g.dyn-1.0.entry d.vtable).1.meaning d.value) in
    let k = state_with d.image d.memory d.cpus.items d.bus.boxes d.bus.transcript.items d.stop (λ d. (g.dyn-1.0.entry d.vtable).1.meaning d.value) in
    by_ungiven m n c.args.vcpu c.requires k c.in-Some.answer c.in-Input.ensures (g.O.Sink.taken c.args.out.now) (g.I.Source.left c.args.input.now) (g.I.Source.left c.next_input.new.input)
    (g.I.Source.faults c.args.input.now) (g.I.Source.faults c.next_input.new.input) (g.O.Sink.faults c.args.out.now) (g.O.Sink.faults c.args.out.now) c.in-OutOfMemory-give.ensures c.in-Some.ensures.given
