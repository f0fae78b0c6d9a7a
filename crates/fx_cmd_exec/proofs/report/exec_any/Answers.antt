use Rattle.std.proofs.Common.{inl, inr, refl}
use Rattle.fx_cmd_base.specs.Views.{exec_given}
use Rattle.fx_cmd_base.specs.Streams.{Streams}
use Rattle.fx_cmd_base.specs.Ends.{ErrorStream}
use Rattle.fx_cmd_exec.proofs.AnyComing.{executes_any}
use Rattle.fx_cmd_exec.proofs.report.exec_any.Goals as goal

pub returns-in-Ok : goal.returns-in-Ok
returns-in-Ok g c =
    let before : Streams =
    record { held = g.F.Files.held c.args.files.now; file_faults = g.F.Files.faults c.args.files.now; left = g.I.Source.left c.args.input.now; input_faults = g.I.Source.faults c.args.input.now; taken = g.O.Sink.taken c.args.out.now; output_faults = g.O.Sink.faults c.args.out.now } in
    let after : Streams =
    record { held = g.F.Files.held c.run_image-came.new.files; file_faults = g.F.Files.faults c.run_image-came.new.files; left = g.I.Source.left c.run_image-came.new.input; input_faults = g.I.Source.faults c.run_image-came.new.input; taken = g.O.Sink.taken c.run_image-came.new.out; output_faults = g.O.Sink.faults c.run_image-came.new.out } in
    let stream : ErrorStream =
    record { told = g.E.Sink.taken c.args.err.now; printed = g.E.Sink.taken c.report.new.err; quiet = g.E.Sink.faults c.args.err.now; loud = g.E.Sink.faults c.report.new.err } in
    inl (executes_any (exec_given c.args.words.now) _ before after (g.F.Files.held c.args.files.now) (g.F.Files.held c.perform.new.files) (g.F.Files.faults c.perform.new.files) c.report.result
    stream c.in-Ok.image c.run_image-came.result
    c.in-Ok.ensures.builds c.in-Ok.ensures.later c.run_image-came.ensures.keeps c.run_image-came.ensures.comes c.report.ensures)

pub returns-in-Err : goal.returns-in-Err
returns-in-Err g c = inr (record { why = c.in-Err.why; cause = c.in-Err.ensures.cause; untouched = record { input = refl; input_faults = refl; output = refl; output_faults = refl }; reports = c.report_failure.ensures })
