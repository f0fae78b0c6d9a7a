use Rattle.std.proofs.Common.{◌≡◌, ◌≤◌, ◌<◌, ◌++◌, All, length, drop}
use Rattle.fx_c_ast.specs.CheckedTrees.{struct_types}
use Rattle.fx_sections.specs.declared.regions.GlobalSize.{GlobalSize}
use Rattle.fx_sections.specs.Placement.{sized}
use Rattle.fx_sections.proofs.layout.global_sizes.Given as goal

abbrev pub invariant-loop-i : goal.invariant-loop-i
invariant-loop-i l = record {
  sized : l.found.items ++ sized (struct_types l.p.structs) l.pairs.keys (drop l.i l.global-items) (drop l.i l.of) ≡ sized (struct_types l.p.structs) l.pairs.keys l.global-items l.of;
  small : All (λ (o : GlobalSize). o.size ≤ 67108864) l.found.items;
  there : All (λ (o : GlobalSize). o.section < length l.pairs.keys) l.found.items;
  count : length l.found.items ≡ l.i;
}
