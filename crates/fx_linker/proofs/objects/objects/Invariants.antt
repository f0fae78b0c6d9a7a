use Rattle.std.proofs.Common.{◌≡◌, ◌++◌, drop}
use Rattle.fx_c_ast.specs.CheckedTrees.{struct_types}
use Rattle.fx_linker.specs.Data.{objects_from}
use Rattle.fx_linker.proofs.objects.objects.Given as goal

abbrev pub invariant-loop-number : goal.invariant-loop-number
invariant-loop-number l = l.found.items ++ objects_from (struct_types l.p.structs) l.compartments l.initials l.p.globals l.addresses l.number (drop l.number l.section-items) ≡ objects_from (struct_types l.p.structs) l.compartments l.initials l.p.globals l.addresses 0 l.section-items
