-- A test of lists of pieces that computes where their numbers are known: whether each spells no
-- WRPKRU.
use Rattle.std.proofs.Common.{◌≡◌, ◌≤◌, ◌+◌, ◌*◌, ℕ, negsuc, Bool, true, false, ◌&&◌, List, [], ◌∷◌}
use Rattle.std.proofs.Common.{◌++◌}
use Rattle.std.proofs.Common.{if◌then◌else◌, ap, ◌∙◌}
use Rattle.std.specs.Prelude.{IsTrue}
use Rattle.std.proofs.lemmas.Bool.{and_from, and_parts}
use Rattle.std.proofs.lemmas.List.Elements.{All-nil, All-cons}
use Rattle.fx_x64_forms.specs.declared.piece.Piece.{Piece}
use Rattle.fx_x64_code.specs.Spelling.{spelling, le32}
use Rattle.fx_linker_law.specs.Premises.{is_quiet, AreQuiet}
use Rattle.fx_linker_law.proofs.Quiet.{is_clean}
use Rattle.fx_templates_quiet_law.proofs.Forms.{is_calm, calm_is_quiet}

abbrev pub are_calm : List Piece → Bool
are_calm [] = true
are_calm (p ∷ ps) = is_calm p.inst && are_calm ps

pub quiet : (ps : List Piece) → are_calm ps ≡ true → AreQuiet ps
quiet [] test = All-nil (λ (q : Piece). IsTrue (is_quiet (spelling q.inst)))
quiet (p ∷ ps) test =
    let parts = and_parts (is_calm p.inst) (are_calm ps) test in
    All-cons (λ (q : Piece). IsTrue (is_quiet (spelling q.inst))) p ps
    (calm_is_quiet p.inst parts.0) (quiet ps parts.1)

pub both : (ps qs : List Piece) → are_calm ps ≡ true → are_calm qs ≡ true
    → are_calm (ps ++ qs) ≡ true
both [] qs first second = second
both (p ∷ ps) qs first second =
    let parts = and_parts (is_calm p.inst) (are_calm ps) first in
    ap (λ b. b && are_calm (ps ++ qs)) parts.0 ∙ both ps qs parts.1 second

pub first : (p : Piece) (ps : List Piece) → is_calm p.inst ≡ true → are_calm ps ≡ true
    → are_calm (p ∷ ps) ≡ true
first p ps one rest = and_from (is_calm p.inst) (are_calm ps) one rest

pub either : (b : Bool) (ps qs : List Piece) → are_calm ps ≡ true → are_calm qs ≡ true
    → are_calm (if b then ps else qs) ≡ true
either true ps qs one other = one
either false ps qs one other = other

-- Slots that spell no WRPKRU, below so many bytes of locals.
abbrev pub HasSlots : ℕ → Type 0
HasSlots locals =
    (k : ℕ) → k ≤ 1048576 → is_clean (le32 (negsuc (locals + 8 * k + 7))) ≡ true
