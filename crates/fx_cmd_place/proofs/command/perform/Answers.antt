use Rattle.fx_cmd_place.proofs.Ready.{ready}
use Rattle.fx_cmd_place.proofs.command.perform.Goals as goal

pub put-requires : goal.put-requires
put-requires g c = ready c.args.name.now (g.F.Files.held c.args.files.now) c.in_ok-program.program.config c.in_ok-program.program.program c.in_ok-program.ensures.program c.in_ok-program.ensures.few
