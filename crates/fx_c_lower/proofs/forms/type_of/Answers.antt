use Rattle.std.proofs.Common.{sym}
use Rattle.fx_c_ast.specs.CheckedTrees.{ty_tree}
use Rattle.fx_c_mean_control.proofs.Types.{type_is}
use Rattle.fx_c_lower.proofs.forms.type_of.Goals as goal

pub returns : goal.returns
returns c = sym (type_is (ty_tree c.args.e.now.ty) c.args.e.now.kind)
