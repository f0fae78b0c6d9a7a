-- Pieces put behind a text, one after another.
use Rattle.std.proofs.Common.{◌≡◌, ℕ, List, ◌++◌, Result, Ok, Err, OnOk, ap, ◌∙◌, append_assoc}

-- a piece, and then the rest
pub put : (text new piece rest total : List ℕ) → new ≡ text ++ piece → total ≡ new ++ rest → total ≡ text ++ (piece ++ rest)
put text new piece rest total first more = more ∙ ap (λ l. l ++ rest) first ∙ append_assoc text piece rest

-- the last piece, where the answer to it is the answer to all
pub ended : {E : Type 0} (came : Result (Unit {0}) E) (text total last start whole : List ℕ) → OnOk came (total ≡ text ++ last) → (total ≡ text ++ last → total ≡ start ++ whole) → OnOk came (total ≡ start ++ whole)
ended (Ok x) text total last start whole end all = all end
ended (Err error) text total last start whole end all = tt
