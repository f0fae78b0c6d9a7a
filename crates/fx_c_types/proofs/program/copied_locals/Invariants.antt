use Rattle.std.proofs.Common.{◌≡◌, ◌++◌, drop}
use Rattle.fx_c_types_rules.specs.Locals.{local_trees}
use Rattle.fx_c_types.proofs.program.copied_locals.Given as goal

abbrev pub invariant-loop-local : goal.invariant-loop-local
invariant-loop-local l = local_trees l.all.items ++ local_trees (drop l.local-index l.locals) ≡ local_trees l.locals
