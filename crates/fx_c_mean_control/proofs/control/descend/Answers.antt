use Rattle.fx_c_ast.specs.CheckedTrees.{ty_tree}
use Rattle.fx_c_ast.proofs.Rows.{tcall_is, tgate_is}
use Rattle.fx_c_mean_control.proofs.Calls.{calls, gates}
use Rattle.fx_c_mean_control.proofs.control.descend.Goals as goal

pub returns-in-Call : goal.returns-in-Call
returns-in-Call c = rw (tcall_is (ty_tree c.args.e.now.ty) c.args.e.now.kind _ _ c.deref-in-Call.result.now c.in-Call.is c.deref-in-Call.ensures.value, calls) c.arguments.ensures

pub returns-in-Gate : goal.returns-in-Gate
returns-in-Gate c = rw (tgate_is (ty_tree c.args.e.now.ty) c.args.e.now.kind _ _ c.deref-in-Gate.result.now c.in-Gate.is c.deref-in-Gate.ensures.value, gates) c.arguments-in-Gate.ensures
