use Rattle.std.proofs.Common.{◌≡◌, ◌≤◌, ◌+◌, ◌*◌, ◌++◌, ℕ, List, length, map, sum, take, drop}
use Rattle.fx_sections.specs.Regions.{empty, with_objects, starts}
use Rattle.fx_sections.proofs.layout.literals.Given as goal

abbrev pub invariant-loop-literal : goal.invariant-loop-literal
invariant-loop-literal l = record {
  addresses : l.addresses.items ++ starts l.room (map (λ (b : List ℕ). length b) (drop l.literal-index l.literals)) ≡ starts (empty 6291456) (map (λ (b : List ℕ). length b) l.literals);
  room : with_objects l.room (map (λ (b : List ℕ). length b) (drop l.literal-index l.literals)) ≡ with_objects (empty 6291456) (map (λ (b : List ℕ). length b) l.literals);
  low : 6291456 ≤ l.room.end;
  ordered : l.room.end ≤ l.room.next;
  small : l.room.next + sum (map (λ (b : List ℕ). length b) (drop l.literal-index l.literals)) ≤ 6291456 + sum (map (λ (b : List ℕ). length b) l.literals) + 32 * l.literal-index;
}
