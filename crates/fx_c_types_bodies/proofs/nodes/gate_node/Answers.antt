use Rattle.std.proofs.Common.{refl}
use Rattle.fx_c_ast.proofs.Rows.{tgate_is}
use Rattle.fx_c_types_bodies.proofs.nodes.gate_node.Goals as goal

pub returns : goal.returns
returns c = tgate_is _ _ _ _ _ refl refl
