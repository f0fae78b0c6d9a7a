use Rattle.std.proofs.Common.{◌≡◌, drop, []}
use Rattle.fx_c_ast.specs.ParsedTrees.{param_trees}
use Rattle.fx_c_types_heads.specs.Heads.{repeats, param_names}
use Rattle.fx_c_types_heads.proofs.heads.params_repeat.Given as goal

abbrev pub invariant-loop-param : goal.invariant-loop-param
invariant-loop-param l = repeats l.seen (param_names (param_trees (drop l.param-index l.params))) ≡ repeats [] (param_names (param_trees l.params))
