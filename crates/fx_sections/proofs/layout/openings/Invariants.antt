use Rattle.std.proofs.Common.{◌≡◌, ◌≤◌, [], All}
use Rattle.fx_sections.specs.declared.regions.Room.{Room}
use Rattle.fx_sections.specs.Placement.{rooms_from}
use Rattle.fx_sections.proofs.layout.openings.Given as goal

abbrev pub invariant-loop-k : goal.invariant-loop-k
invariant-loop-k l = record {
  rooms : l.rooms.items ≡ rooms_from l.n [] 0 l.k;
  small : All (λ (r : Room). r.next ≤ 4128) l.rooms.items;
  ordered : All (λ (r : Room). r.end ≤ r.next) l.rooms.items;
}
