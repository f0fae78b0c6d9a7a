-- Membership in sets that are numbers.
use Rattle.std.proofs.Common.{◌≡◌, ℕ, zero, suc, ◌<◌, ◌^◌, Bool, true, false, ◌||◌, nat_eq, nat_lt, max, List, [], ◌∷◌, map, refl, sym, ap, ◌∙◌, inl, inr, bit_or, arith}
use Rattle.std.proofs.lemmas.Nat.Bits.{bit_at_or, bit_at-zero, bit_at-pow_same, bit_at-pow_other, bit_at_ones, bit_at-lt}
use Rattle.std.proofs.lemmas.Bool.{cases_eq, eq-eqb, ne_eqb}
use Rattle.std.specs.Int.{bit_at}
use Rattle.std.specs.List.{list_any}
use Rattle.fx_grants.specs.Sets.{has_member, with_member, with_members, only, all_of}

-- of two bits, whether the greater is 1
either : (a b : ℕ) → a < 2 → b < 2 → nat_eq (max a b) 1 ≡ (nat_eq a 1 || nat_eq b 1)
either zero zero la lb = refl
either zero (suc zero) la lb = refl
either (suc zero) zero la lb = refl
either (suc zero) (suc zero) la lb = refl
either zero (suc (suc b)) la lb = absurd (omega arith)
either (suc zero) (suc (suc b)) la lb = absurd (omega arith)
either (suc (suc a)) b la lb = absurd (omega arith)

pub has_member-or : (s t c : ℕ) → has_member (bit_or s t) c ≡ (has_member s c || has_member t c)
has_member-or s t c = ap (λ n. nat_eq n 1) (bit_at_or s t c) ∙ either (bit_at s c) (bit_at t c) (bit_at-lt s c) (bit_at-lt t c)

pub has_member-one : (c d : ℕ) → has_member (2 ^ c) d ≡ nat_eq c d
has_member-one c d =
    elim (cases_eq c d) [
      | inl same ↦ ap (λ n. has_member (2 ^ c) n) (sym same) ∙ ap (λ n. nat_eq n 1) (bit_at-pow_same c) ∙ sym (eq-eqb c d same)
      | inr other ↦ ap (λ n. nat_eq n 1) (bit_at-pow_other c d (λ e. other (sym e))) ∙ sym (ne_eqb c d other)
    ]

-- a set with one more member has that one and those that it had
pub has_member-with_member : (s c d : ℕ) → has_member (with_member s c) d ≡ (has_member s d || nat_eq c d)
has_member-with_member s c d = has_member-or s (2 ^ c) d ∙ ap (λ b. has_member s d || b) (has_member-one c d)

or_assoc : (a b c : Bool) → ((a || b) || c) ≡ (a || (b || c))
or_assoc true b c = refl
or_assoc false b c = refl

pub or_false : (a : Bool) → (a || false) ≡ a
or_false true = refl
or_false false = refl

pub or_true : (a : Bool) → (a || true) ≡ true
or_true true = refl
or_true false = refl

pub has_member-with_members : (s : ℕ) (cs : List ℕ) (d : ℕ) → has_member (with_members s cs) d ≡ (has_member s d || list_any (λ c. nat_eq c d) cs)
has_member-with_members s [] d = sym (or_false (has_member s d))
has_member-with_members s (c ∷ cs) d =
    has_member-with_members (with_member s c) cs d
    ∙ ap (λ b. b || list_any (λ c. nat_eq c d) cs) (has_member-with_member s c d)
    ∙ or_assoc (has_member s d) (nat_eq c d) (list_any (λ c. nat_eq c d) cs)

pub has_member-only : (c d : ℕ) → has_member (only c) d ≡ nat_eq c d
has_member-only c d = has_member-with_member 0 c d ∙ ap (λ n. nat_eq n 1 || nat_eq c d) (bit_at-zero d)

pub has_member-all_of : (n d : ℕ) → d < n → has_member (all_of n) d ≡ true
has_member-all_of n d less = ap (λ b. nat_eq b 1) (bit_at_ones n d less)
