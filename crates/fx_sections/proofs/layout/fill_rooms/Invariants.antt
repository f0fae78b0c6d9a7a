use Rattle.std.proofs.Common.{◌≡◌, ◌≤◌, ◌<◌, ◌+◌, ◌*◌, ◌^◌, ◌++◌, [], All, take, drop}
use Rattle.fx_sections.specs.declared.regions.Room.{Room}
use Rattle.fx_sections.specs.Placement.{rooms_from, offsets}
use Rattle.fx_sections.proofs.layout.fill_rooms.Given as goal

abbrev pub invariant-loop-object : goal.invariant-loop-object
invariant-loop-object l = record {
  rooms : l.rooms ≡ rooms_from l.n (take l.object-index l.objects) 0 l.count;
  offsets : l.offsets.items ++ offsets l.n (take l.object-index l.objects) (drop l.object-index l.objects) ≡ offsets l.n [] l.objects;
  small : All (λ (r : Room). r.next ≤ 4128 + 67108896 * l.object-index) l.rooms;
  ordered : All (λ (r : Room). r.end ≤ r.next) l.rooms;
  starts : All (λ o. o < 2 ^ 42) l.offsets.items;
}
