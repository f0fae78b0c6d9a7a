-- Keys and elements of toml's values beside the lists that the code goes over.
use Rattle.std.proofs.Common.{◌≡◌, Bool, List, [], ◌∷◌, map, String, Global, string_bytes, refl, ap}
use Rattle.std.specs.List.{list_any, list_all}
use Rattle.std.specs.Map.{keys_of}
use Rattle.toml.specs.Data.{Data}
use Rattle.toml.specs.View.{view, items_of, items_view, members_view}
use Rattle.toml.specs.declared.value.Value.{Value}
use Rattle.fx_config.specs.Document.{elements, keys}

pub elements-items_of : (ds : List Data) → elements (items_of ds) ≡ ds
elements-items_of [] = refl
elements-items_of (d ∷ ds) = ap (λ es. d ∷ es) (elements-items_of ds)

pub elements-items_view : (vs : List Value) → elements (items_view vs) ≡ map view vs
elements-items_view vs = elements-items_of (map view vs)

pub keys-members_view : (es : List (String Global × Value)) → keys (members_view es) ≡ map string_bytes (keys_of es)
keys-members_view [] = refl
keys-members_view (e ∷ es) = ap (λ ks. string_bytes e.0 ∷ ks) (keys-members_view es)

pub list_any-map : {A B : Type 0} (p : B → Bool) (f : A → B) (xs : List A) → list_any p (map f xs) ≡ list_any (λ x. p (f x)) xs
list_any-map p f [] = refl
list_any-map p f (x ∷ xs) = rw (list_any-map p f xs) refl

pub list_all-map : {A B : Type 0} (p : B → Bool) (f : A → B) (xs : List A) → list_all p (map f xs) ≡ list_all (λ x. p (f x)) xs
list_all-map p f [] = refl
list_all-map p f (x ∷ xs) = rw (list_all-map p f xs) refl
