use Rattle.std.proofs.Common.{◌≡◌, ◌+◌, drop}
use Rattle.std.specs.Prelude.{map}
use Rattle.std.specs.Str.{bytes_eq}
use Rattle.std.specs.List.{position_or_len}
use Rattle.fx_c_lex.proofs.words.place_of.Given as goal

abbrev pub invariant-loop-i : goal.invariant-loop-i
invariant-loop-i l = l.i + position_or_len (λ s. bytes_eq s l.bytes) (drop l.i (map (λ s. s.now) l.spellings)) ≡ position_or_len (λ s. bytes_eq s l.bytes) (map (λ s. s.now) l.spellings)
