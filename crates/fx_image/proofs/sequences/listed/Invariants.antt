use Rattle.std.proofs.Common.{◌≡◌, ℕ, ◌<◌, false, length, get_or, take}
use Rattle.fx_image.specs.Rules.{is_listed}
use Rattle.fx_image.proofs.sequences.listed.Given as goal

abbrev pub invariant-loop-s : goal.invariant-loop-s
invariant-loop-s l = record {
  len : length l.marks.items ≡ l.len;
  marks : (k : ℕ) → k < l.len → get_or l.marks.items k false ≡ is_listed (take l.s-index l.stubs) k;
}
