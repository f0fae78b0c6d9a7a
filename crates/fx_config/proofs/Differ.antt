-- Lists in which nothing stands twice, by the number of their distinct elements.
use Rattle.std.proofs.Common.{◌≡◌, ℕ, suc, ◌≤◌, Bool, false, nat_eq, List, [], ◌∷◌, length, map, refl, arith, ◌∙◌, inl, inr}
use Rattle.std.proofs.lemmas.Bool.{cases_Bool}
use Rattle.std.proofs.lemmas.Bool.Decides.{nat_tests}
use Rattle.std.proofs.lemmas.Map.Made.{distinct_count-le}
use Rattle.std.specs.List.{list_any}
use Rattle.std.specs.Set.{is_member, distinct_count}
use Rattle.fx_config.specs.Names.{all_differ}
use Rattle.fx_config.proofs.Views.{list_any-map}

fewer : (m n : ℕ) → m ≤ n → false ≡ nat_eq m (suc n)
fewer m n h = grind (arith, nat_tests)

both_more : (m n : ℕ) → nat_eq m n ≡ nat_eq (suc m) (suc n)
both_more m n = grind (arith, nat_tests)

pub all_differ-count : {A : Type 0} (eq : A → A → Bool) (xs : List A) → all_differ eq xs ≡ nat_eq (distinct_count eq xs) (length xs)
all_differ-count eq [] = refl
all_differ-count eq (x ∷ xs) =
    elim (cases_Bool (is_member eq xs x)) [
      | inl again ↦ rw again (fewer (distinct_count eq xs) (length xs) (distinct_count-le eq xs))
      | inr new ↦ rw new (all_differ-count eq xs ∙ both_more (distinct_count eq xs) (length xs))
    ]

pub all_differ-map : {A B : Type 0} (eq : B → B → Bool) (f : A → B) (xs : List A) → all_differ eq (map f xs) ≡ all_differ (λ x y. eq (f x) (f y)) xs
all_differ-map eq f [] = refl
all_differ-map eq f (x ∷ xs) = rw (list_any-map (eq (f x)) f xs, all_differ-map eq f xs) refl

any_same : {A : Type 0} (p q : A → Bool) → ((x : A) → p x ≡ q x) → (xs : List A) → list_any p xs ≡ list_any q xs
any_same p q h [] = refl
any_same p q h (x ∷ xs) = rw (h x, any_same p q h xs) refl

pub all_differ-same : {A : Type 0} (eq other : A → A → Bool) → ((x y : A) → eq x y ≡ other x y) → (xs : List A) → all_differ eq xs ≡ all_differ other xs
all_differ-same eq other h [] = refl
all_differ-same eq other h (x ∷ xs) = rw (any_same (eq x) (other x) (h x) xs, all_differ-same eq other h xs) refl
