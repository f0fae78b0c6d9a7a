use Rattle.fx_cmd_build.proofs.Ways.{built_and_written, unwritten}
use Rattle.fx_cmd_build.proofs.command.perform.Goals as goal

pub returns-in-Ok-write_image-clause-builds : goal.returns-in-Ok-write_image-clause-builds
returns-in-Ok-write_image-clause-builds g c =
    let x = c.in_ok-program.program in
    built_and_written c.args.config.now c.args.image.now (g.F.Files.held c.args.files.now)
    (g.F.Files.held c.load_plain.new.files) (g.F.Files.held c.write_image.new.files) x.config
    x.program c.in-Ok.made c.in_ok-program.ensures.program c.in_ok-program.ensures.plain
    c.in-Ok.ensures.image c.in-Ok.ensures.rules c.in_ok-program.ensures.keeps
    c.in-Ok-write_image.ensures.written c.in-Ok-write_image.ensures.others

pub returns-in-Ok-clause-cause : goal.returns-in-Ok-clause-cause
returns-in-Ok-clause-cause g c =
    let x = c.in_ok-program.program in
    unwritten c.args.config.now c.args.image.now (g.F.Files.held c.args.files.now)
    (g.F.Files.held c.load_plain.new.files) (g.F.Files.held c.write_image.new.files)
    (g.F.Files.faults c.args.files.now) (g.F.Files.faults c.load_plain.new.files)
    (g.F.Files.faults c.write_image.new.files) x.config x.program c.in-Ok.made
    c.in-Err-write_image.why c.in_ok-program.ensures.program c.in-Ok.ensures.image
    c.in_ok-program.ensures.keeps c.in_ok-program.ensures.later
    c.in-Err-write_image.ensures.others c.in-Err-write_image.ensures.cause
