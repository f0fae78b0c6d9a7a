-- How far it is to the end of a comment, where a star may stand directly before.
use Rattle.std.proofs.Common.{◌≡◌, ℕ, List, [], ◌∷◌, ◌+◌, Option, Some, None, refl, ap, ◌∙◌, arith}
use Rattle.std.specs.Prelude.{Bool, true, false, option_map, ◌==◌, ◌&&◌, if◌then◌else◌}
use Rattle.fx_c_lex.specs.Lexis.{to_comment_end}

abbrev pub end_after : Bool → List ℕ → Option ℕ
end_after star [] = None
end_after true (b ∷ bytes) = if b == 47 then Some 1 else option_map (λ n. n + 1) (end_after (b == 42) bytes)
end_after false (b ∷ bytes) = option_map (λ n. n + 1) (end_after (b == 42) bytes)

abbrev more : Option ℕ → Option ℕ
more found = option_map (λ n. n + 1) found

-- with no star before
pub to_end : (text : List ℕ) → end_after false text ≡ to_comment_end text
to_end [] = refl
to_end (b ∷ []) = elim (b == 42) as (λ star. more (end_after star []) ≡ (if star && false then Some 2 else more None)) [ true ↦ refl | false ↦ refl ]
to_end (b ∷ c ∷ bytes) =
    elim (b == 42) as (λ star. more (end_after star (c ∷ bytes)) ≡ (if star && (c == 47) then Some 2 else more (to_comment_end (c ∷ bytes)))) [
      | true ↦ elim (c == 47) as (λ slash. more (if slash then Some 1 else more (end_after (c == 42) bytes)) ≡ (if slash then Some 2 else more (to_comment_end (c ∷ bytes)))) [ true ↦ refl | false ↦ ap more (to_end (c ∷ bytes)) ]
      | false ↦ ap more (to_end (c ∷ bytes))
    ]

pub to_end_from_0 : (text : List ℕ) → option_map (λ n. n + 0) (end_after false text) ≡ to_comment_end text
to_end_from_0 text = at_0 (end_after false text) ∙ to_end text
  where
    at_0 : (found : Option ℕ) → option_map (λ n. n + 0) found ≡ found
    at_0 None = refl
    at_0 (Some n) = let e : n + 0 ≡ n = omega arith in ap Some e
