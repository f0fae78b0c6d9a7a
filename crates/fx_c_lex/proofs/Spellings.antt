-- The search for a spelling in a list of slices: one step.
use Rattle.std.proofs.Common.{◌≡◌, ℕ, List, [], ◌+◌, ◌<◌, Some, sym, ap, ◌∙◌, arith, drop, length, get_or, map}
use Rattle.std.specs.Prelude.{Bool, true, false, not}
use Rattle.std.specs.Borrow.{Bor}
use Rattle.std.specs.Str.{bytes_eq}
use Rattle.std.specs.List.{position_or_len}
use Rattle.std.proofs.lemmas.List.Sums.{prefix_len-drop_yes, prefix_len-drop_no}
use Rattle.std.proofs.lemmas.List.{get_or-map, length-map}
use Rattle.std.proofs.lemmas.Bool.Decides.{nat_tests}
use Rattle.fx_c_lex.specs.Words.{place_of}

-- the spellings before i are others
abbrev pub Behind : List (Bor (List ℕ)) → List ℕ → ℕ → Type 0
Behind ss bytes i = i + position_or_len (λ s. bytes_eq s bytes) (drop i (map (λ s. s.now) ss)) ≡ position_or_len (λ s. bytes_eq s bytes) (map (λ s. s.now) ss)

test_at : (ss : List (Bor (List ℕ))) (bytes : List ℕ) (i : ℕ) (d : Bor (List ℕ)) (b : Bool) → i < length ss → b ≡ bytes_eq (get_or ss i d).now bytes → not (bytes_eq (get_or (map (λ s. s.now) ss) i []) bytes) ≡ not b
test_at ss bytes i d b h t =
    ap (λ x. not (bytes_eq x bytes)) (get_or-map (λ (s : Bor (List ℕ)). s.now) ss i d [] h) ∙ ap not (sym t)

pub other : (ss : List (Bor (List ℕ))) (bytes : List ℕ) (i : ℕ) (d : Bor (List ℕ)) → i < length ss → false ≡ bytes_eq (get_or ss i d).now bytes → Behind ss bytes i → Behind ss bytes (i + 1)
other ss bytes i d h t behind =
    let within : i < length (map (λ (s : Bor (List ℕ)). s.now) ss) = omega (arith, length-map ss (λ (s : Bor (List ℕ)). s.now)) in
    let step = prefix_len-drop_yes (λ x. not (bytes_eq x bytes)) (map (λ s. s.now) ss) i [] within (test_at ss bytes i d false h t) in
    omega arith

pub spelled : (ss : List (Bor (List ℕ))) (bytes : List ℕ) (i : ℕ) (d : Bor (List ℕ)) → i < length ss → true ≡ bytes_eq (get_or ss i d).now bytes → Behind ss bytes i → Some i ≡ place_of (map (λ s. s.now) ss) bytes
spelled ss bytes i d h t behind =
    let within : i < length (map (λ (s : Bor (List ℕ)). s.now) ss) = omega (arith, length-map ss (λ (s : Bor (List ℕ)). s.now)) in
    let step = prefix_len-drop_no (λ x. not (bytes_eq x bytes)) (map (λ s. s.now) ss) i [] within (test_at ss bytes i d true h t) in
    let here : position_or_len (λ s. bytes_eq s bytes) (map (λ s. s.now) ss) ≡ i = omega arith in
    grind (arith, nat_tests)
