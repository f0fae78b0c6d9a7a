-- Objects that die.
use Rattle.std.proofs.Common.{◌≡◌, ℕ, zero, suc, ◌+◌, ◌≤◌, List, [], ◌∷◌, length, None, refl, arith, sym, subst}
use Rattle.std.specs.Prelude.{slice_get}
use Rattle.fx_c_mean_blocks.specs.declared.block.Object.{Object}
use Rattle.fx_c_mean_blocks.specs.Blocks.{without, dead_at}

past : {A : Type 0} (xs : List A) (i : ℕ) → length xs ≤ i → slice_get xs i ≡ None
past [] i h = refl
past (x ∷ xs) zero h = absurd (omega arith)
past (x ∷ xs) (suc i) h = past xs i (omega arith)

-- there is nothing to end past the last object
pub without_past : (memory : List Object) (from n : ℕ) → length memory ≤ from → without memory from n ≡ memory
without_past memory from zero h = refl
without_past memory from (suc n) h = subst (λ o. without (dead_at memory from o) (from + 1) n ≡ memory) (sym (past memory from h)) (without_past memory (from + 1) n (omega arith))
