use Rattle.fx_cmd_base.specs.Ends.{ErrorStream}
use Rattle.fx_cmd_migrate.proofs.Ways.{done}
use Rattle.fx_cmd_migrate.proofs.command.migrate_command.Goals as goal

pub returns-clause-done : goal.returns-clause-done
returns-clause-done g c =
    let stream : ErrorStream =
    record { told = g.E.Sink.taken c.args.err.now; printed = g.E.Sink.taken c.report.new.err; quiet = g.E.Sink.faults c.args.err.now; loud = g.E.Sink.faults c.report.new.err } in
    done c.args.old.now c.args.new.now (g.F.Files.held c.args.files.now) (g.F.Files.held c.perform-came.new.files) (g.F.Files.faults c.args.files.now) (g.F.Files.faults c.perform-came.new.files)
    c.perform-came.result c.report.result stream c.perform-came.ensures c.report.ensures
