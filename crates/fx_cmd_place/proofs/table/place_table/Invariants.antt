use Rattle.std.proofs.Common.{◌≡◌, ◌++◌, drop}
use Rattle.fx_c_ast.specs.CheckedTrees.{struct_types}
use Rattle.fx_cmd_place.specs.Table.{section_lines}
use Rattle.fx_cmd_place.proofs.table.place_table.Given as goal

abbrev pub invariant-loop-number : goal.invariant-loop-number
invariant-loop-number l = l.out.items ++ section_lines (struct_types l.p.structs) l.compartments l.p.globals l.sections.items l.at.globals l.number (drop l.number l.section-items) ≡ section_lines (struct_types l.p.structs) l.compartments l.p.globals l.sections.items l.at.globals 0 l.section-items
