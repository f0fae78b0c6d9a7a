use Rattle.std.proofs.Common.{◌≡◌, ◌≤◌, ◌+◌, ◌*◌, ◌^◌, drop}
use Rattle.fx_sections.specs.Placement.{total_pages}
use Rattle.fx_sections.proofs.layout.total_pages.Given as goal

abbrev pub invariant-loop-room : goal.invariant-loop-room
invariant-loop-room l = record {
  pages : l.pages + total_pages (drop l.room-index l.rooms) ≡ total_pages l.rooms;
  small : l.pages ≤ 2 ^ 31 * l.room-index;
}
