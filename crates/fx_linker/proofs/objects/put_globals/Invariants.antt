use Rattle.std.proofs.Common.{◌≡◌, ◌++◌, drop}
use Rattle.fx_c_ast.specs.CheckedTrees.{struct_types}
use Rattle.fx_linker.specs.Data.{global_objects}
use Rattle.fx_linker.proofs.objects.put_globals.Given as goal

abbrev pub invariant-loop-i : goal.invariant-loop-i
invariant-loop-i l = l.objects.items ++ global_objects (struct_types l.p.structs) l.number l.section l.addresses l.i (drop l.i l.global-items) ≡ l.fn.objects.items ++ global_objects (struct_types l.p.structs) l.number l.section l.addresses 0 l.global-items
