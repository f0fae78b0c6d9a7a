use Rattle.std.proofs.Common.{◌≡◌, ◌⊎◌, inl, refl, subst}
use Rattle.fx_cmd_base.specs.Ends.{ErrorStream, TookLine, Failed}
use Rattle.fx_cmd_base.proofs.Ends.{took, failed, tried, again, once}
use Rattle.fx_cmd_base.proofs.ending.conclude.Goals as goal

pub returns-in-Ok : goal.returns-in-Ok
returns-in-Ok g c =
    let told = g.E.Sink.taken c.args.err.now in
    let printed = g.E.Sink.taken c.put_all.new.sink in
    let stream : ErrorStream = record { told = told; printed = printed; quiet = g.E.Sink.faults c.args.err.now; loud = g.E.Sink.faults c.put_all.new.sink } in
    inl (refl, took c.args.line.now stream c.in-Ok.ensures.taken)

pub returns-then-status-ne-WRITE_FAULT : goal.returns-then-status-ne-WRITE_FAULT
returns-then-status-ne-WRITE_FAULT g c =
    let told = g.E.Sink.taken c.args.err.now in
    let cut = g.E.Sink.taken c.put_all.new.sink in
    let printed = g.E.Sink.taken c.put_all-then-status-ne-WRITE_FAULT.new.sink in
    let quiet = g.E.Sink.faults c.args.err.now in
    let count = g.E.Sink.faults c.put_all.new.sink in
    let loud = g.E.Sink.faults c.put_all-then-status-ne-WRITE_FAULT.new.sink in
    let first : ErrorStream = record { told = told; printed = cut; quiet = quiet; loud = count } in
    let second : ErrorStream = record { told = cut; printed = printed; quiet = count; loud = loud } in
    let own = c.put_all-then-status-ne-WRITE_FAULT.ensures in
    again c.args.status c.args.line.now told cut printed quiet count loud c.if-status-ne-WRITE_FAULT.true
    (failed c.args.line.now c.in-Err.field-0.taken first c.in-Err.ensures.part c.in-Err.ensures.taken c.in-Err.ensures.fault)
    (subst (λ l. TookLine l second ⊎ Failed l second) c.as_bytes.ensures.value (tried c.as_bytes.result.now c.put_all-then-status-ne-WRITE_FAULT.result second own.taken own.part own.fault))

pub returns-else-status-ne-WRITE_FAULT : goal.returns-else-status-ne-WRITE_FAULT
returns-else-status-ne-WRITE_FAULT g c =
    let told = g.E.Sink.taken c.args.err.now in
    let printed = g.E.Sink.taken c.put_all.new.sink in
    let quiet = g.E.Sink.faults c.args.err.now in
    let loud = g.E.Sink.faults c.put_all.new.sink in
    let first : ErrorStream = record { told = told; printed = printed; quiet = quiet; loud = loud } in
    once c.args.status c.args.line.now told printed quiet loud c.if-status-ne-WRITE_FAULT.false
    (failed c.args.line.now c.in-Err.field-0.taken first c.in-Err.ensures.part c.in-Err.ensures.taken c.in-Err.ensures.fault)
