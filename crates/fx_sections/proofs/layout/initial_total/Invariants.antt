use Rattle.std.proofs.Common.{◌≡◌, ◌+◌, drop}
use Rattle.fx_c_ast.specs.CheckedTrees.{struct_types}
use Rattle.fx_sections.specs.Placement.{initial_total}
use Rattle.fx_sections.proofs.layout.initial_total.Given as goal

abbrev pub invariant-loop-global : goal.invariant-loop-global
invariant-loop-global l = l.bytes + initial_total (struct_types l.p.structs) (drop l.global-index l.global-items) ≡ initial_total (struct_types l.p.structs) l.global-items
