use Rattle.std.proofs.Common.{◌≡◌, ◌++◌, drop}
use Rattle.fx_c_ast.specs.ParsedTrees.{param_trees}
use Rattle.fx_c_types_rules.specs.Locals.{local_trees}
use Rattle.fx_c_types_heads.specs.Heads.{params_of}
use Rattle.fx_c_types_heads.proofs.heads.params_of.Given as goal

abbrev pub invariant-loop-param : goal.invariant-loop-param
invariant-loop-param l = local_trees l.all.items ++ params_of l.tags (param_trees (drop l.param-index l.params)) ≡ params_of l.tags (param_trees l.params)
