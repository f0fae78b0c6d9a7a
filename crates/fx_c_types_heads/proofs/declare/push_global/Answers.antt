use Rattle.std.proofs.Common.{ap, sym, List, Ok}
use Rattle.fx_c_types_heads.specs.Heads.{GlobalHead}
use Rattle.fx_c_types_heads.proofs.Lists.{push_global}
use Rattle.fx_c_types_heads.proofs.declare.push_global.Goals as goal

pub returns : goal.returns
returns c = rw c.in_ok-push.ensures.items (ap (λ (ls : List GlobalHead). Ok ls) (sym (push_global c.args.globals.now.items c.args.global)))
