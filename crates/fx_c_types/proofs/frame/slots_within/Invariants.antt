use Rattle.std.proofs.Common.{◌≡◌, ◌≤◌, ◌+◌, drop}
use Rattle.fx_c_ast.specs.StackUse.{slots_size}
use Rattle.fx_c_types_rules.specs.Locals.{local_trees, types_of_locals}
use Rattle.fx_c_types_heads.specs.Sizes.{known}
use Rattle.fx_c_types.proofs.frame.slots_within.Given as goal

abbrev pub invariant-loop-local : goal.invariant-loop-local
invariant-loop-local l = record {
  rest : l.total + slots_size (known l.layouts) (types_of_locals (local_trees (drop l.local-index l.locals))) ≡ slots_size (known l.layouts) (types_of_locals (local_trees l.locals));
  small : l.total ≤ 65536;
}
