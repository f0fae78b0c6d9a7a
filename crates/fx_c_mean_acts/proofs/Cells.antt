-- Cells that are set from the first on.
use Rattle.std.proofs.Common.{◌≡◌, ℕ, zero, suc, ◌+◌, ◌/◌, List, [], ◌∷◌, ◌++◌, length, refl, sym, ap, ◌∙◌, arith, append_assoc}
use Rattle.std.proofs.lemmas.List.{set_at, length_push}
use Rattle.fx_c_mean_blocks.specs.declared.value.Cell.{Cell}
use Rattle.fx_c_mean_blocks.specs.declared.value.Pointer.{Pointer}
use Rattle.fx_c_mean_blocks.specs.declared.value.Value.{Value}
use Rattle.fx_c_mean_blocks.specs.declared.value.Value.TheVariants.{Void, Number, Null, Address}
use Rattle.fx_c_mean_blocks.specs.Blocks.{bytes_of, parts_from, cells_of, set_cells}

set_from : (front xs cs : List Cell) → length cs ≡ length xs → set_cells (front ++ xs) (length front) cs ≡ front ++ cs
set_from front [] [] e = refl
set_from front (x ∷ xs) [] e = cc
set_from front [] (c ∷ cs) e = cc
set_from front (x ∷ xs) (c ∷ cs) e =
    let more : length front + 1 ≡ length (front ++ c ∷ []) = sym (length_push front c) in
    ap (λ (l : List Cell). set_cells l (length front + 1) cs) (set_at front x xs c (length front) refl ∙ sym (append_assoc front (c ∷ []) xs))
    ∙ ap (λ (n : ℕ). set_cells ((front ++ c ∷ []) ++ xs) n cs) more
    ∙ set_from (front ++ c ∷ []) xs cs (omega arith)
    ∙ append_assoc front (c ∷ []) cs

length-bytes_of : (n w : ℕ) → length (bytes_of n w) ≡ n
length-bytes_of zero w = refl
length-bytes_of (suc n) w = ap suc (length-bytes_of n (w / 256))

length-parts_from : (i n : ℕ) (p : Pointer) → length (parts_from i n p) ≡ n
length-parts_from i zero p = refl
length-parts_from i (suc n) p = ap suc (length-parts_from (i + 1) n p)

-- a value has as many cells as bytes, unless it is none
many : (n : ℕ) (v : Value) → (v ≡ Void → ⊥) → length (cells_of n v) ≡ n
many n Void some = absurd (some refl)
many n (Number w) some = length-bytes_of n w
many n Null some = length-bytes_of n 0
many n (Address p) some = length-parts_from 0 n p

pub all_set : (xs : List Cell) (n : ℕ) (v : Value) → (v ≡ Void → ⊥) → length xs ≡ n → set_cells xs 0 (cells_of n v) ≡ cells_of n v
all_set xs n v some e = set_from [] xs (cells_of n v) (many n v some ∙ sym e)
