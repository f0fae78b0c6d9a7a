use Rattle.std.specs.Prelude.{slice_set}
use Rattle.fx_machine_model.specs.declared.stop.Turn.TheVariants as turns
use Rattle.fx_machine.proofs.Ends.{bus_with, done_turn, ok_at, err_turn, turned_by}
use Rattle.fx_machine.proofs.machine.Machine.turn_any.Goals as goal

pub returns-in-Done : goal.returns-in-Done
returns-in-Done g c =
    let m = c.args.self.now in
    let n = c.step.new.self in
    let bus = bus_with m.bus.boxes m.bus.transcript.items (λ d. (g.dyn-1.0.entry d.vtable).1.meaning d.value) in
    rw c.step.ensures.bus
    (turned_by m.image n.image m.memory n.memory m.cpus.items n.cpus.items bus bus m.stop n.stop c.args.v c.vcpu-c.result turns.Went c.in-None.is c.vcpu-c.ensures.value c.step.ensures.image c.step.ensures.stop
    (done_turn m.image m.memory n.memory m.cpus.items n.cpus.items c.vcpu-c.result c.vcpu-c.ensures.there c.step.ensures.cpus bus c.in-Done.ensures.acts))

pub returns-in-Ok : goal.returns-in-Ok
returns-in-Ok g c =
    let m = c.args.self.now in
    let n = c.step.new.self in
    let o = c.in-Operation in
    let h = rw c.step.ensures.bus at c.in-Ok.ensures in
    turned_by m.image n.image m.memory n.memory m.cpus.items (slice_set n.cpus.items c.from.result c.finish.new.r) _ _ m.stop n.stop c.args.v c.vcpu-c.result c.answer_to.result c.in-None.is c.vcpu-c.ensures.value c.step.ensures.image c.step.ensures.stop
    (ok_at m.image m.memory n.memory m.cpus.items n.cpus.items c.vcpu-c.result c.vcpu-c.ensures.there o.ensures.cpus o.inst o.length o.op o.ensures.acts _ _ c.answer_to.result c.in-Ok.value c.from.result c.index_mut.result.now c.finish.new.r
    c.from.ensures c.index_mut.ensures.value c.finish.ensures c.answer_to.ensures h)

pub returns-in-Err : goal.returns-in-Err
returns-in-Err g c =
    let m = c.args.self.now in
    let n = c.step.new.self in
    let o = c.in-Operation in
    let h = rw c.step.ensures.bus at c.in-Err.ensures in
    turned_by m.image n.image m.memory n.memory m.cpus.items n.cpus.items _ _ m.stop n.stop c.args.v c.vcpu-c.result c.in-Err.turn c.in-None.is c.vcpu-c.ensures.value c.step.ensures.image c.step.ensures.stop
    (err_turn m.image m.memory n.memory m.cpus.items n.cpus.items c.vcpu-c.result c.vcpu-c.ensures.there o.ensures.cpus o.inst o.length o.op o.ensures.acts _ _ c.in-Err.turn h)
