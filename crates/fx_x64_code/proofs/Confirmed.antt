use Rattle.std.proofs.Common.{◌≡◌, ℕ, refl, Bool, true, false, ap, ◌∙◌, List, length, Some, None}
use Rattle.std.specs.Prelude.{◌&&◌, cond, nat_eq}
use Rattle.std.specs.List.{starts_with}
use Rattle.fx_x64_forms.specs.declared.inst.Inst.{Inst}
use Rattle.fx_x64_code.specs.Spelling.{spelling, has_row}
use Rattle.fx_x64_code.specs.Guess.{guess}
use Rattle.fx_x64_code.specs.Decoded.{decoded, confirmed}

-- ---- what is decoded, by what was guessed

both_true : (p q : Bool) → p ≡ true → q ≡ true → (p && q) ≡ true
both_true p q e f = rw (e, f) refl

second_false : (p q : Bool) → q ≡ false → (p && q) ≡ false
second_false true q f = f
second_false false q f = refl

first_false : (p q : Bool) → p ≡ false → (p && q) ≡ false
first_false p q e = rw e refl

pub decoded-unguessed : (b : List ℕ) → guess b ≡ None → decoded b ≡ None
unfolding decoded
decoded-unguessed b g = ap (confirmed b) g

pub decoded-no_row : (b : List ℕ) (i : Inst) → guess b ≡ Some i → has_row i ≡ false → decoded b ≡ None
unfolding decoded
decoded-no_row b i g r = ap (confirmed b) g ∙ ap (λ t. cond t (Some (i, length (spelling i))) None) (first_false (has_row i) (starts_with nat_eq b (spelling i)) r)

pub decoded-other : (b : List ℕ) (i : Inst) → guess b ≡ Some i → starts_with nat_eq b (spelling i) ≡ false → decoded b ≡ None
unfolding decoded
decoded-other b i g s = ap (confirmed b) g ∙ ap (λ t. cond t (Some (i, length (spelling i))) None) (second_false (has_row i) (starts_with nat_eq b (spelling i)) s)

pub decoded-guessed : (b : List ℕ) (i : Inst) → guess b ≡ Some i → has_row i ≡ true → starts_with nat_eq b (spelling i) ≡ true → decoded b ≡ Some (i, length (spelling i))
unfolding decoded
decoded-guessed b i g r s = ap (confirmed b) g ∙ ap (λ t. cond t (Some (i, length (spelling i))) None) (both_true (has_row i) (starts_with nat_eq b (spelling i)) r s)
