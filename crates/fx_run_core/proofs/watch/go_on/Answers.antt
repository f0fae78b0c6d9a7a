use Rattle.std.proofs.Common.{◌≡◌, Some, None, refl, ap, sym, ◌∙◌, arith}
use Rattle.std.specs.Prelude.{slice_get}
use Rattle.fx_run_core.proofs.States.{bus_with}
use Rattle.fx_run_core.proofs.Watched.{got_some, got_none, watched_none, watched_past, watched_other, watched_more, watched_last}
use Rattle.fx_run_core.proofs.watch.go_on.Goals as goal

pub returns-in_default-clause-watching : goal.returns-in_default-clause-watching
returns-in_default-clause-watching g c =
    let m = c.args.machine.now in
    rw (c.in_default.is) (watched_none c.args.count (bus_with m.bus.boxes m.bus.transcript.items (λ d. (g.dyn-1.0.entry d.vtable).1.meaning d.value)))

pub returns-in-None-clause-watching : goal.returns-in-None-clause-watching
returns-in-None-clause-watching g c =
    let m = c.args.machine.now in
    let got : slice_get m.bus.transcript.items c.args.count ≡ None =
    ap (λ l. slice_get l c.args.count) (sym c.transcript.ensures) ∙ got_none c.transcript.result.now c.args.count c.in-None.ensures.lookup.3 in
    rw (c.in-Some.is) (watched_past c.args.count c.in-Some.watch (bus_with m.bus.boxes m.bus.transcript.items (λ d. (g.dyn-1.0.entry d.vtable).1.meaning d.value)) got)

pub returns-then-made-watch-clause-watching : goal.returns-then-made-watch-clause-watching
returns-then-made-watch-clause-watching g c =
    let m = c.args.machine.now in
    let op = c.in-Some-get.op in
    let got : slice_get m.bus.transcript.items c.args.count ≡ Some op.now =
    ap (λ l. slice_get l c.args.count) (sym c.transcript.ensures) ∙ got_some c.transcript.result.now c.args.count op.now c.in-Some-get.ensures.lookup.3.0 (c.in-Some-get.ensures.lookup.4 (omega arith)) in
    rw (c.in-Some.is) (watched_other c.args.count c.in-Some.watch op.now (bus_with m.bus.boxes m.bus.transcript.items (λ d. (g.dyn-1.0.entry d.vtable).1.meaning d.value)) got c.if-made-watch.true)

pub returns-then-watch-gt1-clause-watching : goal.returns-then-watch-gt1-clause-watching
returns-then-watch-gt1-clause-watching g c =
    let m = c.args.machine.now in
    let op = c.in-Some-get.op in
    let got : slice_get m.bus.transcript.items c.args.count ≡ Some op.now =
    ap (λ l. slice_get l c.args.count) (sym c.transcript.ensures) ∙ got_some c.transcript.result.now c.args.count op.now c.in-Some-get.ensures.lookup.3.0 (c.in-Some-get.ensures.lookup.4 (omega arith)) in
    rw (c.in-Some.is) (watched_more c.args.count c.in-Some.watch op.now (bus_with m.bus.boxes m.bus.transcript.items (λ d. (g.dyn-1.0.entry d.vtable).1.meaning d.value)) got c.if-made-watch.false c.if-watch-gt1.true)

pub returns-clause-watching : goal.returns-clause-watching
returns-clause-watching g c =
    let m = c.args.machine.now in
    let n = c.unplug.new.self in
    let op = c.in-Some-get.op in
    let old = bus_with m.bus.boxes m.bus.transcript.items (λ d. (g.dyn-1.0.entry d.vtable).1.meaning d.value) in
    let new = bus_with n.bus.boxes n.bus.transcript.items (λ d. (g.dyn-1.0.entry d.vtable).1.meaning d.value) in
    let got : slice_get m.bus.transcript.items c.args.count ≡ Some op.now =
    ap (λ l. slice_get l c.args.count) (sym c.transcript.ensures) ∙ got_some c.transcript.result.now c.args.count op.now c.in-Some-get.ensures.lookup.3.0 (c.in-Some-get.ensures.lookup.4 (omega arith)) in
    rw (c.in-Some.is) (watched_last c.args.count c.in-Some.watch op.now old new got c.if-made-watch.false c.if-watch-gt1.false (rw (c.unplug.ensures.boxes, c.unplug.ensures.transcript) refl))
