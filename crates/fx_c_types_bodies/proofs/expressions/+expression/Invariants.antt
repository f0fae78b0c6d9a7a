use Rattle.std.proofs.Common.{◌≡◌, drop}
use Rattle.fx_c_ast.specs.ParsedTrees.{expr_trees}
use Rattle.fx_c_ast.specs.CheckedTrees.{NoTExprs, texpr_trees}
use Rattle.fx_c_types_bodies.specs.Bodies.{typed_all}
use Rattle.fx_c_types_bodies.specs.Views.{scope_tree, body_tree}
use Rattle.fx_c_types_bodies.proofs.expressions.+expression.Given as goal

abbrev pub invariant-values-loop-e : goal.invariant-values-loop-e
invariant-values-loop-e l = typed_all (scope_tree l.scope) (body_tree l.body) (texpr_trees l.values.items) (expr_trees (drop l.e-index l.all)) ≡ typed_all (scope_tree l.scope) (body_tree l.initial.body) NoTExprs (expr_trees l.all)
