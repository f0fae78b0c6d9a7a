use Rattle.std.proofs.Common.{◌≡◌, map, take}
use Rattle.fx_c_ast.specs.CheckedTrees.{struct_types}
use Rattle.fx_c_ast.specs.Layout.{members_layout}
use Rattle.fx_c_mean_control.specs.Tables.{looked_up}
use Rattle.fx_c_lower_tables.proofs.tables.next_layer.Given as goal

abbrev pub invariant-loop-of : goal.invariant-loop-of
invariant-loop-of l = l.next.items ≡ map (members_layout (looked_up l.table)) (struct_types (take l.of-index l.structs))
