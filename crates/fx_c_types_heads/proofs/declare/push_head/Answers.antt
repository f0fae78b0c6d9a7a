use Rattle.std.proofs.Common.{ap, sym, List, Ok}
use Rattle.fx_c_types_heads.specs.Heads.{FunctionHead}
use Rattle.fx_c_types_heads.proofs.Lists.{push_head}
use Rattle.fx_c_types_heads.proofs.declare.push_head.Goals as goal

pub returns : goal.returns
returns c = rw c.in_ok-push.ensures.items (ap (λ (ls : List FunctionHead). Ok ls) (sym (push_head c.args.functions.now.items c.args.head)))
