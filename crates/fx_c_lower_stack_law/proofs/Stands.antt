-- What stands in a list at a place.
use Rattle.std.proofs.Common.{◌≡◌, ℕ, zero, suc, ◌+◌, ◌<◌, List, [], ◌∷◌, ◌++◌, length, Some, refl, ap, ◌∙◌, subst, arith, append_assoc, length-append}
use Rattle.std.specs.Prelude.{slice_get}

-- these elements stand there one behind the other
abbrev pub Stands : {A : Type 0} → List A → ℕ → List A → Type 0
Stands all at [] = Unit {0}
Stands all at (x ∷ xs) = (slice_get all at ≡ Some x) × Stands all (at + 1) xs

pub front : {A : Type 0} (all : List A) (at : ℕ) (xs ys : List A) → Stands all at (xs ++ ys) → Stands all at xs
front all at [] ys h = tt
front all at (x ∷ xs) ys h = (h.0, front all (at + 1) xs ys h.1)

-- what stands behind so many
pub rest : {A : Type 0} (all : List A) (at : ℕ) (xs ys : List A) (l : ℕ) → length xs ≡ l → Stands all at (xs ++ ys) → Stands all (at + l) ys
rest all at [] ys l e h = let z : at ≡ at + l = omega arith in subst (λ n. Stands all n ys) z h
rest all at (x ∷ xs) ys l e h =
    let z : at + 1 + length xs ≡ at + l = omega arith in
    subst (λ n. Stands all n ys) z (rest all (at + 1) xs ys (length xs) refl h.1)

pub got_behind : {A : Type 0} (xs ys : List A) (i : ℕ) → slice_get (xs ++ ys) (length xs + i) ≡ slice_get ys i
got_behind [] ys i = let e : 0 + i ≡ i = omega arith in ap (slice_get ys) e
got_behind (x ∷ xs) ys i = let e : length (x ∷ xs) + i ≡ suc (length xs + i) = omega arith in ap (slice_get (x ∷ (xs ++ ys))) e ∙ got_behind xs ys i

-- a list stands in itself, behind what stands before it
pub stands_behind : {A : Type 0} (pre xs : List A) → Stands (pre ++ xs) (length pre) xs
stands_behind pre [] = tt
stands_behind pre (x ∷ xs) =
    let z : length pre + 0 ≡ length pre = omega arith in
    let here = subst (λ n. slice_get (pre ++ x ∷ xs) n ≡ Some x) z (got_behind pre (x ∷ xs) 0) in
    let n : length (pre ++ x ∷ []) ≡ length pre + 1 = omega (arith, length-append pre (x ∷ [])) in
    let more = subst (λ l. Stands l (length (pre ++ x ∷ [])) xs) (append_assoc pre (x ∷ []) xs) (stands_behind (pre ++ x ∷ []) xs) in
    (here, subst (λ m. Stands (pre ++ x ∷ xs) m xs) n more)

pub stands_in_itself : {A : Type 0} (xs : List A) → Stands xs 0 xs
stands_in_itself xs = stands_behind [] xs

-- an element of what stands there
pub stands_at : {A : Type 0} (all : List A) (at : ℕ) (xs : List A) (k : ℕ) → k < length xs → Stands all at xs → slice_get all (at + k) ≡ slice_get xs k
stands_at all at [] k l h = absurd (omega arith)
stands_at all at (x ∷ xs) zero l h = let z : at ≡ at + 0 = omega arith in subst (λ n. slice_get all n ≡ Some x) z h.0
stands_at all at (x ∷ xs) (suc k) l h =
    let z : at + 1 + k ≡ at + suc k = omega arith in
    subst (λ n. slice_get all n ≡ slice_get xs k) z (stands_at all (at + 1) xs k (omega arith) h.1)

pub within : {A : Type 0} (xs : List A) (i : ℕ) (x : A) → slice_get xs i ≡ Some x → i < length xs
within [] i x e = cc
within (y ∷ ys) zero x e = omega arith
within (y ∷ ys) (suc i) x e = omega (arith, within ys i x e)
