-- What a sink holds over several calls.
use Rattle.std.proofs.Common.{◌≡◌, ℕ, ◌+◌, List, ◌++◌, take, drop, Option, Some, None, ap, sym, ◌∙◌, append_assoc, arith}
use Rattle.std.proofs.lemmas.Grind.{common_steps}
use Rattle.std.proofs.lemmas.List.{take-append-drop, drop-take}
use Rattle.fx_base.specs.Told.{Told}
use Rattle.fx_base.specs.Sink.{Gains}

-- no byte yet
pub gains_none : (bytes : List ℕ) (held : Option (List ℕ)) → Told (Gains bytes 0) held held
gains_none bytes None = tt
gains_none bytes (Some now) = grind (arith, common_steps)

-- the first bytes in two parts
take-sum : (k n : ℕ) (bytes : List ℕ) → take (k + n) bytes ≡ take k bytes ++ take n (drop k bytes)
take-sum k n bytes =
    let front : take k (take (k + n) bytes) ≡ take k bytes = grind (arith, common_steps) in
    sym (take-append-drop k (take (k + n) bytes)) ∙ ap (λ p. p ++ drop k (take (k + n) bytes)) front ∙ ap (λ p. take k bytes ++ p) (drop-take k n bytes)

-- some bytes, and then some of a piece, which is the rest
pub gains_more : (bytes piece : List ℕ) (k n : ℕ) (a b c : Option (List ℕ)) → piece ≡ drop k bytes → Told (Gains bytes k) a b → Told (Gains piece n) b c → Told (Gains bytes (k + n)) a c
gains_more bytes piece k n None None None rest first second = tt
gains_more bytes piece k n None None (Some z) rest first second = absurd second
gains_more bytes piece k n None (Some y) c rest first second = absurd first
gains_more bytes piece k n (Some x) None c rest first second = absurd first
gains_more bytes piece k n (Some x) (Some y) None rest first second = absurd second
gains_more bytes piece k n (Some x) (Some y) (Some z) rest first second =
    second ∙ ap (λ p. p ++ take n piece) first ∙ append_assoc x (take k bytes) (take n piece) ∙ ap (λ p. x ++ (take k bytes ++ take n p)) rest ∙ ap (λ p. x ++ p) (sym (take-sum k n bytes))
