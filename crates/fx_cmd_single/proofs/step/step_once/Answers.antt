use Rattle.fx_c_mean.proofs.Waiting.{waits}
use Rattle.fx_cmd_single.proofs.Views.{run_with}
use Rattle.fx_cmd_single.proofs.Stepped.{by_went, by_output, by_unput, by_ended, by_fault, by_want, by_taken, by_not_taken, none_map, some_map}
use Rattle.fx_cmd_single.proofs.step.step_once.Goals as goal

pub take_input-requires : goal.take_input-requires
take_input-requires g c =
    let a = c.args.runner.now in
    let b = c.step.new.self in
    let m = run_with a.source a.core a.bus.boxes a.bus.transcript.items a.cost a.end (λ d. (g.dyn-1.0.entry d.vtable).1.meaning d.value) in
    let n = run_with b.source b.core b.bus.boxes b.bus.transcript.items b.cost b.end (λ d. (g.dyn-1.0.entry d.vtable).1.meaning d.value) in
    waits m n c.in-Input.ensures.walked

pub returns-in-Went-clause-goes : goal.returns-in-Went-clause-goes
returns-in-Went-clause-goes g c =
    let a = c.args.runner.now in
    let b = c.step.new.self in
    let m = run_with a.source a.core a.bus.boxes a.bus.transcript.items a.cost a.end (λ d. (g.dyn-1.0.entry d.vtable).1.meaning d.value) in
    let n = run_with b.source b.core b.bus.boxes b.bus.transcript.items b.cost b.end (λ d. (g.dyn-1.0.entry d.vtable).1.meaning d.value) in
    by_went m n c.requires (g.O.Sink.taken c.args.out.now) (g.I.Source.left c.args.input.now) c.in-Went.ensures.walked

pub returns-in-Output-clause-goes : goal.returns-in-Output-clause-goes
returns-in-Output-clause-goes g c =
    let a = c.args.runner.now in
    let b = c.step.new.self in
    let m = run_with a.source a.core a.bus.boxes a.bus.transcript.items a.cost a.end (λ d. (g.dyn-1.0.entry d.vtable).1.meaning d.value) in
    let n = run_with b.source b.core b.bus.boxes b.bus.transcript.items b.cost b.end (λ d. (g.dyn-1.0.entry d.vtable).1.meaning d.value) in
    none_map c.put_output.result _ _ (by_output m n c.requires c.in-Output.byte (g.O.Sink.taken c.args.out.now) (g.O.Sink.taken c.put_output.new.out) (g.I.Source.left c.args.input.now) c.in-Output.ensures.walked) c.put_output.ensures.goes

pub returns-in-Output-clause-ends : goal.returns-in-Output-clause-ends
returns-in-Output-clause-ends g c =
    let a = c.args.runner.now in
    let b = c.step.new.self in
    let m = run_with a.source a.core a.bus.boxes a.bus.transcript.items a.cost a.end (λ d. (g.dyn-1.0.entry d.vtable).1.meaning d.value) in
    let n = run_with b.source b.core b.bus.boxes b.bus.transcript.items b.cost b.end (λ d. (g.dyn-1.0.entry d.vtable).1.meaning d.value) in
    some_map c.put_output.result _ _ (λ outcome. by_unput m n c.requires c.in-Output.byte (g.I.Source.faults c.args.input.now) (g.I.Source.faults c.args.input.now) (g.O.Sink.faults c.args.out.now) (g.O.Sink.faults c.put_output.new.out) (g.O.Sink.taken c.args.out.now) (g.O.Sink.taken c.put_output.new.out) (g.I.Source.left c.args.input.now) outcome c.in-Output.ensures.walked) c.put_output.ensures.ends

pub returns-in-Input-clause-goes : goal.returns-in-Input-clause-goes
returns-in-Input-clause-goes g c =
    let a = c.args.runner.now in
    let b = c.step.new.self in
    let m = run_with a.source a.core a.bus.boxes a.bus.transcript.items a.cost a.end (λ d. (g.dyn-1.0.entry d.vtable).1.meaning d.value) in
    let n = run_with b.source b.core b.bus.boxes b.bus.transcript.items b.cost b.end (λ d. (g.dyn-1.0.entry d.vtable).1.meaning d.value) in
    let e = c.take_input.new.runner in
    let k = run_with e.source e.core e.bus.boxes e.bus.transcript.items e.cost e.end (λ d. (g.dyn-1.0.entry d.vtable).1.meaning d.value) in
    none_map c.take_input.result _ _ (by_taken m n c.requires k c.in-Input.ensures.walked (g.O.Sink.taken c.args.out.now) (g.I.Source.left c.args.input.now) (g.I.Source.left c.take_input.new.input)) c.take_input.ensures.goes

pub returns-in-Input-clause-ends : goal.returns-in-Input-clause-ends
returns-in-Input-clause-ends g c =
    let a = c.args.runner.now in
    let b = c.step.new.self in
    let m = run_with a.source a.core a.bus.boxes a.bus.transcript.items a.cost a.end (λ d. (g.dyn-1.0.entry d.vtable).1.meaning d.value) in
    let n = run_with b.source b.core b.bus.boxes b.bus.transcript.items b.cost b.end (λ d. (g.dyn-1.0.entry d.vtable).1.meaning d.value) in
    let e = c.take_input.new.runner in
    let k = run_with e.source e.core e.bus.boxes e.bus.transcript.items e.cost e.end (λ d. (g.dyn-1.0.entry d.vtable).1.meaning d.value) in
    some_map c.take_input.result _ _ (λ outcome. by_not_taken m n c.requires k c.in-Input.ensures.walked (g.O.Sink.taken c.args.out.now) (g.I.Source.left c.args.input.now) (g.I.Source.left c.take_input.new.input) (g.I.Source.faults c.args.input.now) (g.I.Source.faults c.take_input.new.input) (g.O.Sink.faults c.args.out.now) (g.O.Sink.faults c.args.out.now) outcome) c.take_input.ensures.ends

pub returns-in-DeviceFault-clause-ends : goal.returns-in-DeviceFault-clause-ends
returns-in-DeviceFault-clause-ends g c =
    let a = c.args.runner.now in
    let b = c.step.new.self in
    let m = run_with a.source a.core a.bus.boxes a.bus.transcript.items a.cost a.end (λ d. (g.dyn-1.0.entry d.vtable).1.meaning d.value) in
    let n = run_with b.source b.core b.bus.boxes b.bus.transcript.items b.cost b.end (λ d. (g.dyn-1.0.entry d.vtable).1.meaning d.value) in
    by_fault m n c.requires c.in-DeviceFault.device (g.O.Sink.taken c.args.out.now) (g.I.Source.left c.args.input.now) (g.I.Source.faults c.args.input.now) (g.I.Source.faults c.args.input.now) (g.O.Sink.faults c.args.out.now) (g.O.Sink.faults c.args.out.now) c.in-DeviceFault.ensures.walked

pub returns-in-OutOfMemory-clause-ends : goal.returns-in-OutOfMemory-clause-ends
returns-in-OutOfMemory-clause-ends g c =
    let a = c.args.runner.now in
    let b = c.step.new.self in
    let m = run_with a.source a.core a.bus.boxes a.bus.transcript.items a.cost a.end (λ d. (g.dyn-1.0.entry d.vtable).1.meaning d.value) in
    let n = run_with b.source b.core b.bus.boxes b.bus.transcript.items b.cost b.end (λ d. (g.dyn-1.0.entry d.vtable).1.meaning d.value) in
    by_want m n c.requires (g.O.Sink.taken c.args.out.now) (g.I.Source.left c.args.input.now) (g.I.Source.faults c.args.input.now) (g.I.Source.faults c.args.input.now) (g.O.Sink.faults c.args.out.now) (g.O.Sink.faults c.args.out.now) c.in-OutOfMemory.ensures.walked

pub returns-in-Exit-clause-ends : goal.returns-in-Exit-clause-ends
returns-in-Exit-clause-ends g c =
    let a = c.args.runner.now in
    let b = c.step.new.self in
    let m = run_with a.source a.core a.bus.boxes a.bus.transcript.items a.cost a.end (λ d. (g.dyn-1.0.entry d.vtable).1.meaning d.value) in
    let n = run_with b.source b.core b.bus.boxes b.bus.transcript.items b.cost b.end (λ d. (g.dyn-1.0.entry d.vtable).1.meaning d.value) in
    by_ended m n c.requires c.step.result (g.O.Sink.taken c.args.out.now) (g.I.Source.left c.args.input.now) (g.I.Source.faults c.args.input.now) (g.I.Source.faults c.args.input.now) (g.O.Sink.faults c.args.out.now) (g.O.Sink.faults c.args.out.now) c.ended.result c.step.ensures.walked c.ended.ensures
