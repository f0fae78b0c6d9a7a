use Rattle.std.proofs.Common.{◌≡◌, ◌≤◌, ◌+◌, ◌++◌, length, drop}
use Rattle.fx_sections.specs.Placement.{sections_from, total_pages}
use Rattle.fx_sections.proofs.layout.laid_out.Given as goal

abbrev pub invariant-loop-k : goal.invariant-loop-k
invariant-loop-k l = record {
  sections : l.sections.items ++ sections_from l.fn.mechanism l.k l.page (drop l.k l.pairs) (drop l.k l.rooms) ≡ sections_from l.fn.mechanism 0 65536 l.pairs l.rooms;
  count : length l.sections.items ≡ l.k;
  pages : l.page + total_pages (drop l.k l.rooms) ≤ 65536 + 16384 + l.k;
}
