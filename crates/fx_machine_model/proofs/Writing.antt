-- A store, byte by byte.
use Rattle.std.proofs.Common.{◌≡◌, ◌≢◌, ℕ, ◌+◌, ◌^◌, ◌<◌, ◌≤◌, inl, inr, Bool, true, false, refl, sym, ap, ◌∙◌, arith, cond}
use Rattle.std.specs.Prelude.{nat_lt, ◌==◌, ◌&&◌, if◌then◌else◌}
use Rattle.std.proofs.Math.Path.{fun_ext}
use Rattle.std.proofs.lemmas.Bool.Decides.{nat_tests, eqb_tells}
use Rattle.fx_outcomes.proofs.Follows.{nat_split}
use Rattle.fx_x64_forms.specs.Numbers.{width_bytes}
use Rattle.fx_x64_forms.specs.declared.operand.Width.{Width}
use Rattle.fx_cpu.specs.Memory.{on, stored, behind, byte_of, is_among}

lt_if : (a b : ℕ) → nat_lt a b ≡ true → a < b
lt_if a b e = grind (arith, nat_tests)

abbrev pub partly : (ℕ → ℕ) → ℕ → ℕ → ℕ → ℕ → ℕ
partly m a v n k = if is_among a n k then byte_of v (behind a k) else m k

lt_yes : (a b : ℕ) → a < b → nat_lt a b ≡ true
lt_yes a b h = grind (arith, nat_tests)

lt_no : (a b : ℕ) → b ≤ a → nat_lt a b ≡ false
lt_no a b h = grind (arith, nat_tests)

lt_next : (x i : ℕ) → x ≢ i → nat_lt x (i + 1) ≡ nat_lt x i
lt_next x i ne = elim (nat_split i x) [
  | inl past ↦ lt_no x (i + 1) (omega arith) ∙ sym (lt_no x i past)
  | inr (k, e) ↦ lt_yes x (i + 1) (omega arith) ∙ sym (lt_yes x i (omega arith))
]

behind_other : (a i k : ℕ) → a < 2 ^ 64 → i < 8 → k ≢ on a i → k < 2 ^ 64 → behind a k ≢ i
behind_other a i k low small ne top q = ne (omega arith)

among_next : (a i k : ℕ) → a < 2 ^ 64 → i < 8 → k ≢ on a i → is_among a (i + 1) k ≡ is_among a i k
among_next a i k low small ne = whole (nat_lt k (2 ^ 64)) refl
  where
    whole : (t : Bool) → nat_lt k (2 ^ 64) ≡ t → is_among a (i + 1) k ≡ is_among a i k
    whole true e = ap (λ t. t && nat_lt (behind a k) (i + 1)) e ∙ lt_next (behind a k) i (behind_other a i k low small ne (lt_if k (2 ^ 64) e)) ∙ sym (ap (λ t. t && nat_lt (behind a k) i) e)
    whole false e = ap (λ t. t && nat_lt (behind a k) (i + 1)) e ∙ sym (ap (λ t. t && nat_lt (behind a k) i) e)

behind_here : (a i : ℕ) → a < 2 ^ 64 → i < 8 → behind a (on a i) ≡ i
behind_here a i low small = omega arith

among_here : (a i : ℕ) → a < 2 ^ 64 → i < 8 → is_among a (i + 1) (on a i) ≡ true
among_here a i low small =
    let b = behind_here a i low small in
    let top : on a i < 2 ^ 64 = omega arith in
    ap (λ t. t && nat_lt (behind a (on a i)) (i + 1)) (lt_yes (on a i) (2 ^ 64) top) ∙ lt_yes (behind a (on a i)) (i + 1) (omega arith)

pub stored_more : (m old new : ℕ → ℕ) (a v i : ℕ) → a < 2 ^ 64 → i < 8 → ((k : ℕ) → old k ≡ partly m a v i k) → ((k : ℕ) → new k ≡ (if k == on a i then byte_of v i else old k)) → (k : ℕ) → new k ≡ partly m a v (i + 1) k
stored_more m old new a v i low small h step k = elim (eqb_tells k (on a i)) [
  | inl (t, same) ↦
      step k ∙ ap (λ b. cond b (byte_of v i) (old k)) t
      ∙ sym (ap (partly m a v (i + 1)) same ∙ ap (λ b. cond b (byte_of v (behind a (on a i))) (m (on a i))) (among_here a i low small) ∙ ap (byte_of v) (behind_here a i low small))
  | inr (t, other) ↦
      step k ∙ ap (λ b. cond b (byte_of v i) (old k)) t ∙ h k
      ∙ sym (ap (λ b. cond b (byte_of v (behind a k)) (m k)) (among_next a i k low small other))
]

pub stored_all : (m new : ℕ → ℕ) (width : Width) (a v : ℕ) → ((k : ℕ) → new k ≡ partly m a v (width_bytes width) k) → new ≡ stored m width a v
unfolding stored
stored_all m new width a v h = fun_ext h
