-- One place more without an unlisted WRPKRU.
use Rattle.std.proofs.Common.{◌≡◌, ℕ, ◌+◌, ◌<◌, ◌≤◌, Bool, true, false, not, ◌&&◌, cond, eqb, List, [], ◌∷◌, length, get_or, drop, Some, None, sym, ap, ◌∙◌, add-one, drop-cons}
use Rattle.std.specs.List.{starts_with}
use Rattle.std.proofs.lemmas.List.{drop_all}
use Rattle.fx_image.specs.Rules.{key_sequence, is_key_sequence, is_listed, unlisted_from, first_unlisted}
use Rattle.fx_image.specs.declared.forms.Stub.{Stub}

-- what the code asks at a place
abbrev pub is_at : List Stub → List ℕ → ℕ → Bool
is_at stubs code at = starts_with eqb (drop at code) key_sequence && not (is_listed stubs at)

pub asked : (stubs : List Stub) (code : List ℕ) (items marks : List Bool) (at : ℕ) (r b : Bool) → r ≡ (is_key_sequence code at && not (get_or marks at false)) → marks ≡ items → get_or items at false ≡ is_listed stubs at → r ≡ b → is_at stubs code at ≡ b
asked stubs code items marks at r b is same listed answer =
    ap (λ (l : Bool). is_key_sequence code at && not l) (sym (ap (λ (m : List Bool). get_or m at false) same ∙ listed)) ∙ sym is ∙ answer

step : (stubs : List Stub) (code : List ℕ) (at : ℕ) → at < length code → unlisted_from stubs at (drop at code) ≡ cond (is_at stubs code at) (Some at) (unlisted_from stubs (at + 1) (drop (at + 1) code))
step stubs code at lt =
    let e : drop at code ≡ get_or code at 0 ∷ drop (at + 1) code = rw (add-one at) (drop-cons code at 0 lt) in
    ap (unlisted_from stubs at) e ∙ ap (λ (l : List ℕ). cond (starts_with eqb l key_sequence && not (is_listed stubs at)) (Some at) (unlisted_from stubs (at + 1) (drop (at + 1) code))) (sym e)

pub found_here : (stubs : List Stub) (code : List ℕ) (at : ℕ) → at < length code → is_at stubs code at ≡ true → unlisted_from stubs at (drop at code) ≡ unlisted_from stubs 0 code → Some at ≡ first_unlisted stubs code
unfolding first_unlisted
found_here stubs code at lt here so_far =
    sym (step stubs code at lt ∙ ap (λ (b : Bool). cond b (Some at) (unlisted_from stubs (at + 1) (drop (at + 1) code))) here) ∙ so_far

pub not_here : (stubs : List Stub) (code : List ℕ) (at : ℕ) → at < length code → is_at stubs code at ≡ false → unlisted_from stubs at (drop at code) ≡ unlisted_from stubs 0 code → unlisted_from stubs (at + 1) (drop (at + 1) code) ≡ unlisted_from stubs 0 code
not_here stubs code at lt here so_far =
    sym (step stubs code at lt ∙ ap (λ (b : Bool). cond b (Some at) (unlisted_from stubs (at + 1) (drop (at + 1) code))) here) ∙ so_far

pub none_left : (stubs : List Stub) (code : List ℕ) (at : ℕ) → length code ≤ at → unlisted_from stubs at (drop at code) ≡ unlisted_from stubs 0 code → None ≡ first_unlisted stubs code
unfolding first_unlisted
none_left stubs code at le so_far =
    let nothing : drop at code ≡ [] = drop_all at code le in
    sym (ap (unlisted_from stubs at) nothing) ∙ so_far
