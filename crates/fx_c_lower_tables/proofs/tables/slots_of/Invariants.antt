use Rattle.std.proofs.Common.{◌≡◌, ◌+◌, drop}
use Rattle.fx_c_mean_control.specs.Tables.{looked_up}
use Rattle.fx_c_ast.specs.CheckedTrees.{local_types}
use Rattle.fx_c_ast.specs.StackUse.{slots_size}
use Rattle.fx_c_lower_tables.proofs.tables.slots_of.Given as goal

abbrev pub invariant-loop-local : goal.invariant-loop-local
invariant-loop-local l = l.bytes + slots_size (looked_up l.table) (local_types (drop l.local-index l.locals)) ≡ slots_size (looked_up l.table) (local_types l.locals)
