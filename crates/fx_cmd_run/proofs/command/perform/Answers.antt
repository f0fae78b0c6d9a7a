use Rattle.fx_cmd_base.specs.Views.{run_given}
use Rattle.fx_cmd_base.specs.Streams.{Streams}
use Rattle.fx_cmd_run.proofs.Late.{came_late, came_leaves}
use Rattle.fx_cmd_run.proofs.command.perform.Goals as goal

pub returns-clause-comes : goal.returns-clause-comes
returns-clause-comes g c =
    let before : Streams =
    record { held = g.F.Files.held c.args.files.now; file_faults = g.F.Files.faults c.args.files.now; left = g.I.Source.left c.args.input.now; input_faults = g.I.Source.faults c.args.input.now; taken = g.O.Sink.taken c.args.out.now; output_faults = g.O.Sink.faults c.args.out.now } in
    let after : Streams =
    record { held = g.F.Files.held c.run_image.new.files; file_faults = g.F.Files.faults c.run_image.new.files; left = g.I.Source.left c.run_image.new.input; input_faults = g.I.Source.faults c.run_image.new.input; taken = g.O.Sink.taken c.run_image.new.out; output_faults = g.O.Sink.faults c.run_image.new.out } in
    came_late (run_given c.args.words.now) _ before after (g.F.Files.held c.take_image.new.files) (g.F.Files.faults c.take_image.new.files) c.in_ok-image.image c.run_image.result
    c.in_ok-image.ensures.later c.in_ok-image.ensures.keeps c.in_ok-image.ensures.image c.run_image.ensures.comes

pub returns-clause-counted : goal.returns-clause-counted
returns-clause-counted g c =
    came_leaves (g.F.Files.held c.args.files.now) (g.F.Files.held c.take_image.new.files) (g.F.Files.faults c.args.files.now) (g.F.Files.faults c.take_image.new.files) (g.F.Files.faults c.run_image.new.files) c.run_image.result
    c.in_ok-image.ensures.keeps c.in_ok-image.ensures.counted c.run_image.ensures.counted
