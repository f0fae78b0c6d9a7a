use Rattle.std.proofs.Common.{ap, sym, List, Ok}
use Rattle.fx_c_types.specs.Programs.{FunctionTree}
use Rattle.fx_c_types.proofs.Lists.{push_function}
use Rattle.fx_c_types.proofs.program.push_function.Goals as goal

pub returns : goal.returns
returns c = rw c.in_ok-push.ensures.items (ap (λ (ls : List FunctionTree). Ok ls) (sym (push_function c.args.functions.now.items c.args.f)))
