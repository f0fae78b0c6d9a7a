use Rattle.std.proofs.Common.{inl, inr, subst, refl}
use Rattle.std.specs.Prelude.{slice_set}
use Rattle.fx_machine.proofs.Ends.{Acts, not_done, not_halts, given_at, gave_by, asks_at}
use Rattle.fx_machine.proofs.machine.Machine.give.Goals as goal

pub unreachable-requires : goal.unreachable-requires
unreachable-requires g c =
    let m = c.args.self.now in
    let n = c.step.new.self in
    let k = c.vcpu-c.result in
    let lt = c.vcpu-c.ensures.there in
    let e = c.step.ensures.cpus in
    let asks = asks_at m.image m.memory m.cpus.items _ m.stop c.args.v k c.vcpu-c.ensures.value c.requires in
    elim c.in-Done.is [
      | inl q ↦ not_done m.image m.memory n.memory m.cpus.items n.cpus.items k lt e asks (subst (Acts m.image m.memory n.memory m.cpus.items n.cpus.items k lt e) q c.step.ensures.acts)
      | inr q ↦ not_halts m.image m.memory n.memory m.cpus.items n.cpus.items k lt e q.0 asks (subst (Acts m.image m.memory n.memory m.cpus.items n.cpus.items k lt e) q.1 c.step.ensures.acts)
    ]

pub returns-in-Ok : goal.returns-in-Ok
returns-in-Ok g c =
    let m = c.args.self.now in
    let n = c.step.new.self in
    let o = c.in-Operation in
    let k = c.vcpu-c.result in
    let asks = asks_at m.image m.memory m.cpus.items _ m.stop c.args.v k c.vcpu-c.ensures.value c.requires in (
      gave_by m.image n.image m.memory n.memory m.cpus.items (slice_set n.cpus.items c.from.result c.finish.new.r) _ _ m.stop n.stop c.args.v k c.args.answer c.requires.going c.vcpu-c.ensures.value c.step.ensures.image c.step.ensures.stop
          (given_at m.image m.memory n.memory m.cpus.items n.cpus.items k c.vcpu-c.ensures.there o.ensures.cpus o.inst o.length o.op o.ensures.acts asks _ _ c.args.answer c.from.result c.index_mut.result.now c.finish.new.r
          c.from.ensures c.index_mut.ensures.value c.finish.ensures),
      rw (c.in-Ok.ensures.boxes, c.in-Ok.ensures.transcript, c.console_load.ensures, c.step.ensures.bus) refl,
    )
