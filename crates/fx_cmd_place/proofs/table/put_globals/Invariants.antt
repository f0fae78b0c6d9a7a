use Rattle.std.proofs.Common.{◌≡◌, ◌++◌, drop}
use Rattle.fx_c_ast.specs.CheckedTrees.{struct_types}
use Rattle.fx_cmd_place.specs.Table.{global_lines}
use Rattle.fx_cmd_place.proofs.table.put_globals.Given as goal

abbrev pub invariant-loop-i : goal.invariant-loop-i
invariant-loop-i l = l.out.items ++ global_lines (struct_types l.p.structs) l.number l.key (drop l.i l.global-items) (drop l.i l.sections) (drop l.i l.addresses) ≡ l.fn.out.items ++ global_lines (struct_types l.p.structs) l.number l.key l.global-items l.sections l.addresses
