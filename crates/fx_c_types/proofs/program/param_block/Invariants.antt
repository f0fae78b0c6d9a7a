use Rattle.std.proofs.Common.{◌≡◌, drop, []}
use Rattle.fx_c_ast.specs.ParsedTrees.{param_trees}
use Rattle.fx_c_types.specs.Programs.{param_block}
use Rattle.fx_c_types.proofs.program.param_block.Given as goal

abbrev pub invariant-loop-param : goal.invariant-loop-param
invariant-loop-param l = param_block l.names (param_trees (drop l.param-index l.params)) ≡ param_block [] (param_trees l.params)
