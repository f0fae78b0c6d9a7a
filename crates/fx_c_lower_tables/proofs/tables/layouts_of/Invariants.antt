use Rattle.std.proofs.Common.{◌≡◌}
use Rattle.fx_c_ast.specs.CheckedTrees.{struct_types}
use Rattle.fx_c_lower_tables.specs.Layers.{layers}
use Rattle.fx_c_lower_tables.proofs.tables.layouts_of.Given as goal

abbrev pub invariant-loop-done : goal.invariant-loop-done
invariant-loop-done l = l.table.items ≡ layers (struct_types l.structs) l._done
