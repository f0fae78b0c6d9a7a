use Rattle.std.proofs.Common.{◌≡◌, ◌++◌, length, drop, map, List}
use Rattle.fx_c_lin.specs.declared.op.Step.{Step}
use Rattle.fx_c_lin.specs.Ops.{step_of}
use Rattle.fx_build_parts.specs.Ranges.{functions_from, begins_from, range_of, begins_of}
use Rattle.fx_build_parts.proofs.ranges.make_range.Given as goal

abbrev pub invariant-loop-f : goal.invariant-loop-f
invariant-loop-f l = record {
  pieces : l.pieces.items ++ functions_from l.plan l.compartment l.f (length l.pieces.items)
      (map (λ (all : List Step). map step_of all) (drop l.f l.code))
      ≡ range_of l.p l.plan (map (λ (all : List Step). map step_of all) l.code) l.compartment;
  begins : l.begins.items ++ begins_from l.plan l.compartment l.f (length l.pieces.items)
      (map (λ (all : List Step). map step_of all) (drop l.f l.code))
      ≡ begins_of l.p l.plan (map (λ (all : List Step). map step_of all) l.code) l.compartment;
}
