use Rattle.std.proofs.Common.{◌≡◌, ◌++◌, length, drop, map, List}
use Rattle.fx_x64_forms.specs.declared.piece.Piece.{Piece}
use Rattle.fx_c_lin.specs.Ops.{step_of}
use Rattle.fx_build_parts.specs.Functions.{places_from}
use Rattle.fx_build_parts.proofs.functions.places_of.Given as goal

abbrev pub invariant-loop-k : goal.invariant-loop-k
invariant-loop-k l = record {
  kept : (more : List Piece) × (l.out.items ≡ l.fn.out.items ++ more);
  places : l.places.items ++ places_from l.s.plan.now l.s.compartment l.s.function l.counts l.k
      (length l.out.items) (map step_of (drop l.k l.steps))
      ≡ places_from l.s.plan.now l.s.compartment l.s.function l.counts 0 (length l.fn.out.items)
      (map step_of l.steps);
}
