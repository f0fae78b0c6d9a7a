-- Items of mapped lists, and sets of compartments.
use Rattle.std.proofs.Common.{◌≡◌, ℕ, zero, suc, ◌/◌, ◌%◌, ◌^◌, ◌<◌, ◌≤◌, false, nat_eq, List, [], ◌∷◌, map, Some, None, refl, ap, pow_mono, lt_of_lt_of_le}
use native.Mathlib.Nat.{div-eq_of_lt}
use Rattle.std.specs.Prelude.{slice_get, slice_index_or}

pub found : {A B : Type 0} (h : A → B) (xs : List A) (i : ℕ) (d : B) (x : A) → slice_get xs i ≡ Some x → slice_index_or (map h xs) i d ≡ h x
found h [] i d x e = cc
found h (y ∷ ys) zero d x e = let q : y ≡ x = cc in ap h q
found h (y ∷ ys) (suc i) d x e = found h ys i d x e

pub missing : {A B : Type 0} (h : A → B) (xs : List A) (i : ℕ) (d : B) → slice_get xs i ≡ None → slice_index_or (map h xs) i d ≡ d
missing h [] i d e = refl
missing h (y ∷ ys) zero d e = cc
missing h (y ∷ ys) (suc i) d e = missing h ys i d e

-- a set has no compartment from 16 on
pub none_past : (c set : ℕ) → set < 2 ^ 16 → 16 ≤ c → false ≡ nat_eq (set / 2 ^ c % 2) 1
none_past c set small past =
    let big : 2 ^ 16 ≤ 2 ^ c = pow_mono past in
    let none : set / 2 ^ c ≡ 0 = div-eq_of_lt (lt_of_lt_of_le small big) in
    rw none refl
