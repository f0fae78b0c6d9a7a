-- Tables by the bytes of their keys.
use Rattle.std.proofs.Common.{◌≡◌, ℕ, ◌+◌, suc, refl, ap, List, [], ◌∷◌, ◌++◌, length, Vec, Global, Option, Some, None, cond, nat_eq, true, false}
use Rattle.std.specs.Map.{lookup}
use Rattle.indexmap.specs.IndexMap.{insert_entry}
use Rattle.std.specs.Prelude.{bytes_eq, if◌then◌else◌}
use Rattle.fx_c_types_heads.specs.Names.{found, named}

pub found_is : (name : List ℕ) (es : List (Vec ℕ Global × ℕ)) → lookup (λ (k : Vec ℕ Global). bytes_eq name k.items) es ≡ found name (named es)
found_is name [] = refl
found_is name (e ∷ es) = ap (cond (bytes_eq name e.0.items) (Some e.1)) (found_is name es)

pub length-named : (es : List (Vec ℕ Global × ℕ)) → length (named es) ≡ length es
length-named [] = refl
length-named (e ∷ es) = ap suc (length-named es)

pub named-append : (es : List (Vec ℕ Global × ℕ)) (k : Vec ℕ Global) (n : ℕ) → named (es ++ (k, n) ∷ []) ≡ named es ++ (k.items, n) ∷ []
named-append [] k n = refl
named-append (e ∷ es) k n = ap (λ l. (e.0.items, e.1) ∷ l) (named-append es k n)

pub inserted : (k : Vec ℕ Global) (n : ℕ) (es : List (Vec ℕ Global × ℕ)) → found k.items (named es) ≡ None → insert_entry (λ (a b : Vec ℕ Global). bytes_eq a.items b.items) es k n ≡ es ++ (k, n) ∷ []
inserted k n [] h = refl
inserted k n (e ∷ es) h =
    (elim (bytes_eq k.items e.0.items) as (λ b. (if b then Some e.1 else found k.items (named es)) ≡ None → (if b then (e.0, n) ∷ es else e ∷ insert_entry (λ (a b : Vec ℕ Global). bytes_eq a.items b.items) es k n) ≡ e ∷ (es ++ (k, n) ∷ []))
    [ true ↦ λ h. cc | false ↦ λ h. ap (λ l. e ∷ l) (inserted k n es h) ]) h
