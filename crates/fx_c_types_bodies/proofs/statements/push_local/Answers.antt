use Rattle.std.proofs.Common.{ap, sym, List, Ok}
use Rattle.fx_c_types_rules.specs.Locals.{LocalTree}
use Rattle.fx_c_types_bodies.proofs.Items.{push_local}
use Rattle.fx_c_types_bodies.proofs.statements.push_local.Goals as goal

pub returns : goal.returns
returns c = rw c.in_ok-push.ensures.items (ap (λ (ls : List LocalTree). Ok ls) (sym (push_local c.args.locals.now.items (record { shared = c.args.shared; ty = c.args.ty }))))
