-- Code that is appended in steps, of which the later ones have labels that count the pieces before them.
use Rattle.std.proofs.Common.{◌≡◌, ℕ, ◌+◌, List, ◌++◌, length, ap, ◌∙◌, arith, append_assoc, length-append}
use Rattle.fx_x64_forms.specs.declared.piece.Piece.{Piece}
use Rattle.fx_templates_core.proofs.Joining.{joined}

pub four_joined : {A : Type 0} (old one two three new a b c d : List A) → one ≡ old ++ a → two ≡ one ++ b → three ≡ two ++ c → new ≡ three ++ d
    → new ≡ old ++ (a ++ (b ++ (c ++ d)))
four_joined old one two three new a b c d first second third fourth =
    joined old one new a (b ++ (c ++ d)) first (joined one two new b (c ++ d) second (joined two three new c d third fourth))

-- the second step's code, by the number of its first piece
pub continued : (first : ℕ) (old mid new a : List Piece) (f : ℕ → List Piece) → mid ≡ old ++ a → new ≡ mid ++ f (first + length mid)
    → new ≡ old ++ (a ++ f (first + length old + length a))
continued first old mid new a f gained more =
    let n : first + length (old ++ a) ≡ first + length old + length a = omega (arith, length-append old a) in
    joined old mid new a (f (first + length old + length a)) gained
    (more ∙ ap (λ k. mid ++ f (first + length k)) gained ∙ ap (λ k. mid ++ f k) n)
