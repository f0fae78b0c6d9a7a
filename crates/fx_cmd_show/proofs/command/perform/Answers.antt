use Rattle.fx_cmd_show.proofs.Ways.{came_of}
use Rattle.fx_cmd_show.proofs.command.perform.Goals as goal

pub returns-in-Ok-clause-comes : goal.returns-in-Ok-clause-comes
returns-in-Ok-clause-comes g c =
    came_of c.args.name.now (g.F.Files.held c.args.files.now) (g.F.Files.faults c.args.files.now) (g.F.Files.faults c.take_image.new.files) (g.O.Sink.taken c.args.out.now) (g.O.Sink.taken c.put_text.new.out)
    (g.O.Sink.faults c.args.out.now) (g.O.Sink.faults c.put_text.new.out) c.in-Ok.image c.put_text.result
    c.in-Ok.ensures.image c.in-Ok.ensures.counted c.put_text.ensures.put c.put_text.ensures.cause
