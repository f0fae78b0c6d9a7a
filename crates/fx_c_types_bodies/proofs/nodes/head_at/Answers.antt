use Rattle.std.proofs.Common.{sym, arith}
use Rattle.fx_c_types_bodies.proofs.Items.{function_at, function_beyond}
use Rattle.fx_c_types_bodies.proofs.nodes.head_at.Goals as goal

pub returns-then-number-functions : goal.returns-then-number-functions
returns-then-number-functions c = sym (function_beyond c.args.functions.now c.args.number c.if-number-functions.true)

pub returns : goal.returns
returns c = sym (function_at c.args.functions.now c.args.number c.index-functions-number.result (omega arith) c.index-functions-number.is)
