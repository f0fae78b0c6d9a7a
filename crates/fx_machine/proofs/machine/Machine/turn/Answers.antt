use Rattle.std.proofs.Common.{refl}
use Rattle.fx_machine_model.specs.declared.stop.Turn.TheVariants as turns
use Rattle.fx_machine.proofs.Ends.{bus_with, done_turn, turned_by, turned_from}
use Rattle.fx_machine.proofs.machine.Machine.turn.Goals as goal

pub returns-then-went : goal.returns-then-went
returns-then-went g c =
    let m = c.args.self.now in
    let n = c.went.new.self in
    let bus = bus_with m.bus.boxes m.bus.transcript.items (λ d. (g.dyn-1.0.entry d.vtable).1.meaning d.value) in
    rw c.went.ensures.bus
    (turned_by m.image n.image m.memory n.memory m.cpus.items n.cpus.items bus bus m.stop n.stop c.args.v c.vcpu-c.result turns.Went c.in-None.is c.vcpu-c.ensures.value c.went.ensures.image c.went.ensures.stop
    (done_turn m.image m.memory n.memory m.cpus.items n.cpus.items c.vcpu-c.result c.vcpu-c.ensures.there c.went.ensures.cpus bus (c.if-went.ensures.done refl)))

pub returns-else-went : goal.returns-else-went
returns-else-went g c =
    let m = c.args.self.now in
    let n = c.went.new.self in
    let h = rw c.went.ensures.bus at c.turn_any.ensures in
    turned_from m.image n.image m.memory n.memory m.cpus.items n.cpus.items _ m.stop n.stop c.args.v c.turn_any.result _ c.went.ensures.image (c.if-went.ensures.memory refl) (c.if-went.ensures.registers refl) c.went.ensures.stop h
