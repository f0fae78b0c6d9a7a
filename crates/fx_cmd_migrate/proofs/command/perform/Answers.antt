use Rattle.fx_cmd_migrate.proofs.Ways.{came_of}
use Rattle.fx_cmd_migrate.proofs.command.perform.Goals as goal

pub returns-in-Ok : goal.returns-in-Ok
returns-in-Ok g c =
    came_of c.args.old.now c.args.new.now (g.F.Files.held c.args.files.now) (g.F.Files.held c.take_image.new.files) (g.F.Files.held c.write_current.new.files)
    (g.F.Files.faults c.args.files.now) (g.F.Files.faults c.take_image.new.files) (g.F.Files.faults c.write_current.new.files) c.in-Ok.image c.write_current.result
    c.in-Ok.ensures.keeps c.in-Ok.ensures.later c.in-Ok.ensures.image c.write_current.ensures.written c.write_current.ensures.others c.write_current.ensures.cause
