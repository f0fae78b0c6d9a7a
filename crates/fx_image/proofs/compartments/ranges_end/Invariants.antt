use Rattle.std.proofs.Common.{◌≡◌, ◌*◌, ◌^◌, ◌≤◌, take}
use Rattle.std.specs.Prelude.{sum_by}
use Rattle.fx_image.proofs.compartments.ranges_end.Given as goal

abbrev pub invariant-loop-c : goal.invariant-loop-c
invariant-loop-c l = record {
  sum : l.end ≡ sum_by (λ c. c.len) (take l.c-index l.comps);
  small : l.end ≤ l.c-index * 2 ^ 32;
}
