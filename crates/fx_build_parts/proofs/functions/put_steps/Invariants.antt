use Rattle.std.proofs.Common.{◌≡◌, ◌++◌, length, drop, map}
use Rattle.fx_c_lin.specs.Ops.{step_of}
use Rattle.fx_build_parts.specs.Functions.{body_from}
use Rattle.fx_build_parts.proofs.functions.put_steps.Given as goal

abbrev pub invariant-loop-k : goal.invariant-loop-k
invariant-loop-k l =
    l.out.items ++ body_from l.s.plan.now l.s.compartment l.s.function l.counts l.places l.k
    (length l.out.items) (map step_of (drop l.k l.steps))
    ≡ l.fn.out.items ++ body_from l.s.plan.now l.s.compartment l.s.function l.counts l.places 0
    (length l.fn.out.items) (map step_of l.steps)
