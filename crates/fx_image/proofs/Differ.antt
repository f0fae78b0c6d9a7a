-- Lists in which no two elements are the same, by the number of their distinct elements.
use Rattle.std.proofs.Common.{◌≡◌, ℕ, suc, ◌≤◌, Bool, false, nat_eq, List, [], ◌∷◌, length, map, refl, arith, ◌∙◌, inl, inr}
use Rattle.std.proofs.lemmas.Bool.{cases_Bool}
use Rattle.std.proofs.lemmas.Bool.Decides.{nat_tests}
use Rattle.std.proofs.lemmas.Map.Made.{distinct_count-le}
use Rattle.std.specs.List.{list_any}
use Rattle.std.specs.Set.{is_member, distinct_count}
use Rattle.fx_image.specs.Rules.{is_distinct_by}

fewer : (m n : ℕ) → m ≤ n → false ≡ nat_eq m (suc n)
fewer m n h = grind (arith, nat_tests)

both_more : (m n : ℕ) → nat_eq m n ≡ nat_eq (suc m) (suc n)
both_more m n = grind (arith, nat_tests)

list_any-map : {A B : Type 0} (p : B → Bool) (f : A → B) (xs : List A) → list_any p (map f xs) ≡ list_any (λ x. p (f x)) xs
list_any-map p f [] = refl
list_any-map p f (x ∷ xs) = rw (list_any-map p f xs) refl

pub distinct-count : {A : Type 0} (eq : A → A → Bool) (xs : List A) → is_distinct_by eq xs ≡ nat_eq (distinct_count eq xs) (length xs)
distinct-count eq [] = refl
distinct-count eq (x ∷ xs) =
    elim (cases_Bool (is_member eq xs x)) [
      | inl again ↦ rw again (fewer (distinct_count eq xs) (length xs) (distinct_count-le eq xs))
      | inr new ↦ rw new (distinct-count eq xs ∙ both_more (distinct_count eq xs) (length xs))
    ]

pub distinct-map : {A B : Type 0} (eq : B → B → Bool) (f : A → B) (xs : List A) → is_distinct_by eq (map f xs) ≡ is_distinct_by (λ x y. eq (f x) (f y)) xs
distinct-map eq f [] = refl
distinct-map eq f (x ∷ xs) = rw (list_any-map (eq (f x)) f xs, distinct-map eq f xs) refl

any_same : {A : Type 0} (p q : A → Bool) → ((x : A) → p x ≡ q x) → (xs : List A) → list_any p xs ≡ list_any q xs
any_same p q h [] = refl
any_same p q h (x ∷ xs) = rw (h x, any_same p q h xs) refl

pub distinct-same : {A : Type 0} (eq other : A → A → Bool) → ((x y : A) → eq x y ≡ other x y) → (xs : List A) → is_distinct_by eq xs ≡ is_distinct_by other xs
distinct-same eq other h [] = refl
distinct-same eq other h (x ∷ xs) = rw (any_same (eq x) (other x) (h x) xs, distinct-same eq other h xs) refl
