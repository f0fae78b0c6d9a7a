use Rattle.std.proofs.Common.{◌≡◌, ◌+◌, ◌≤◌, drop}
use Rattle.std.specs.Prelude.{sum_by}
use Rattle.fx_image.proofs.sections.have_few_pages.Given as goal

abbrev pub invariant-loop-s : goal.invariant-loop-s
invariant-loop-s l = record {
  sum : l.pages + sum_by (λ s. s.pages) (drop l.s-index l.sections) ≡ sum_by (λ s. s.pages) l.sections;
  few : l.pages ≤ 16384;
}
