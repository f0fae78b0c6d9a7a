use Rattle.std.proofs.Common.{◌≡◌, ◌++◌, drop}
use Rattle.fx_c_ast.specs.CheckedTrees.{tstmt_trees}
use Rattle.fx_grants.specs.Uses.{stmts_uses}
use Rattle.fx_grants.proofs.uses.+statements.Given as goal

abbrev pub invariant-statements_uses-loop-s : goal.invariant-statements_uses-loop-s
invariant-statements_uses-loop-s l = l.out.items ++ stmts_uses (tstmt_trees (drop l.s-index l.all)) ≡ l.fn.out.items ++ stmts_uses (tstmt_trees l.all)
