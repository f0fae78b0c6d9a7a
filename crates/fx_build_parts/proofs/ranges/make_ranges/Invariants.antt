use Rattle.std.proofs.Common.{◌≡◌, ◌++◌, drop, map, List}
use Rattle.fx_c_lin.specs.declared.op.Step.{Step}
use Rattle.fx_c_lin.specs.Ops.{step_of}
use Rattle.fx_build_parts.specs.Ranges.{ranges_from, all_begins_from, all_records_from}
use Rattle.fx_build_parts.proofs.ranges.make_ranges.Given as goal

abbrev pub invariant-loop-c : goal.invariant-loop-c
invariant-loop-c l = record {
  ranges : l.ranges.items ++ ranges_from l.p l.plan
      (map (λ (all : List Step). map step_of all) l.code) l.c (drop l.c l.k.compartments)
      ≡ ranges_from l.p l.plan (map (λ (all : List Step). map step_of all) l.code) 0
      l.k.compartments;
  begins : l.begins.items ++ all_begins_from l.p l.plan
      (map (λ (all : List Step). map step_of all) l.code) l.c (drop l.c l.k.compartments)
      ≡ all_begins_from l.p l.plan (map (λ (all : List Step). map step_of all) l.code) 0
      l.k.compartments;
  records : l.records.items ++ all_records_from l.p l.plan l.k l.c (drop l.c l.k.compartments)
      ≡ all_records_from l.p l.plan l.k 0 l.k.compartments;
}
