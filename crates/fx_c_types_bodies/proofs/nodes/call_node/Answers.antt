use Rattle.std.proofs.Common.{refl}
use Rattle.fx_c_ast.proofs.Rows.{tcall_is}
use Rattle.fx_c_types_bodies.proofs.nodes.call_node.Goals as goal

pub returns : goal.returns
returns c = tcall_is _ _ _ _ _ refl refl
