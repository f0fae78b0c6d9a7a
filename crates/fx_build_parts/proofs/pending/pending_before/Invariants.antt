use Rattle.std.proofs.Common.{◌≡◌, ◌++◌, drop, map}
use Rattle.fx_c_lin.specs.Ops.{step_of}
use Rattle.fx_build_parts.specs.Pending.{pending_from, pending_before}
use Rattle.fx_build_parts.proofs.pending.pending_before.Given as goal

abbrev pub invariant-loop-k : goal.invariant-loop-k
invariant-loop-k l =
    l.counts.items ++ pending_from l.a l.marks.items l.k l.count (map step_of (drop l.k l.steps))
    ≡ pending_before l.a (map step_of l.steps)
