use Rattle.fx_cmd_base.specs.Ends.{ErrorStream}
use Rattle.fx_cmd_show.proofs.Ways.{done}
use Rattle.fx_cmd_show.proofs.command.show_command.Goals as goal

pub returns-clause-done : goal.returns-clause-done
returns-clause-done g c =
    let stream : ErrorStream =
    record { told = g.E.Sink.taken c.args.err.now; printed = g.E.Sink.taken c.report.new.err; quiet = g.E.Sink.faults c.args.err.now; loud = g.E.Sink.faults c.report.new.err } in
    done c.args.name.now (g.F.Files.held c.args.files.now) (g.F.Files.faults c.args.files.now) (g.F.Files.faults c.perform-came.new.files) (g.O.Sink.taken c.args.out.now) (g.O.Sink.taken c.perform-came.new.out)
    (g.O.Sink.faults c.args.out.now) (g.O.Sink.faults c.perform-came.new.out) c.perform-came.result c.report.result stream
    c.perform-came.ensures.comes c.report.ensures
