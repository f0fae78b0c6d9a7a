use Rattle.std.proofs.Common.{◌≡◌, drop}
use Rattle.fx_c_ast.specs.ParsedTrees.{stmt_trees}
use Rattle.fx_c_ast.specs.CheckedTrees.{NoTStmts, tstmt_trees}
use Rattle.fx_c_types_bodies.specs.Bodies.{checked_all}
use Rattle.fx_c_types_bodies.specs.Views.{scope_tree, body_tree}
use Rattle.fx_c_types_bodies.proofs.statements.+statement.Given as goal

abbrev pub invariant-statements-loop-s : goal.invariant-statements-loop-s
invariant-statements-loop-s l = checked_all (scope_tree l.scope) l.looped (body_tree l.body) (tstmt_trees l.checked.items) (stmt_trees (drop l.s-index l.all)) ≡ checked_all (scope_tree l.scope) l.looped (body_tree l.initial.body) NoTStmts (stmt_trees l.all)
