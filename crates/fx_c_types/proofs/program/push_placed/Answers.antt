use Rattle.fx_c_types.proofs.Lists.{push_placed}
use Rattle.fx_c_types.proofs.program.push_placed.Goals as goal

pub returns : goal.returns
returns c = rw c.in_ok-push.ensures.items (push_placed c.args.all.now.items (record { library = c.args.library; decl = c.args.decl }))
