use Rattle.std.proofs.Common.{◌≡◌, drop}
use Rattle.fx_c_ast.specs.ParsedTrees.{param_trees}
use Rattle.fx_c_types_heads.specs.Heads.{are_params}
use Rattle.fx_c_types_heads.proofs.heads.are_params.Given as goal

abbrev pub invariant-loop-param : goal.invariant-loop-param
invariant-loop-param l = are_params l.tags (param_trees (drop l.param-index l.params)) ≡ are_params l.tags (param_trees l.params)
