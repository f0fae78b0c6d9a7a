-- A test of lists of pieces that computes: whether each is a row.
use Rattle.std.proofs.Common.{◌≡◌, Bool, true, false, ◌&&◌, if◌then◌else◌, List, [], ◌∷◌, ◌++◌, ap, ◌∙◌}
use Rattle.std.specs.Prelude.{IsTrue}
use Rattle.std.proofs.lemmas.Bool.{and_parts}
use Rattle.std.proofs.lemmas.List.Elements.{All-nil, All-cons}
use Rattle.fx_x64_forms.specs.declared.piece.Piece.{Piece}
use Rattle.fx_x64_code.specs.Spelling.{has_row}
use Rattle.fx_linker.specs.Linked.{AreRows}

abbrev pub are_rows : List Piece → Bool
are_rows [] = true
are_rows (p ∷ ps) = has_row p.inst && are_rows ps

pub rows : (ps : List Piece) → are_rows ps ≡ true → AreRows ps
rows [] test = All-nil (λ (p : Piece). IsTrue (has_row p.inst))
rows (p ∷ ps) test =
    let parts = and_parts (has_row p.inst) (are_rows ps) test in
    All-cons (λ (q : Piece). IsTrue (has_row q.inst)) p ps parts.0 (rows ps parts.1)

pub both : (ps qs : List Piece) → are_rows ps ≡ true → are_rows qs ≡ true → are_rows (ps ++ qs) ≡ true
both [] qs first second = second
both (p ∷ ps) qs first second =
    let parts = and_parts (has_row p.inst) (are_rows ps) first in
    ap (λ b. b && are_rows (ps ++ qs)) parts.0 ∙ both ps qs parts.1 second

pub either : (b : Bool) (ps qs : List Piece) → are_rows ps ≡ true → are_rows qs ≡ true → are_rows (if b then ps else qs) ≡ true
either true ps qs first second = first
either false ps qs first second = second
