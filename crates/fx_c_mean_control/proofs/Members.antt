-- The types of members in front of one, and of one.
use Rattle.std.proofs.Common.{◌≡◌, ℕ, zero, suc, ◌<◌, ◌≤◌, List, [], ◌∷◌, length, take, refl, sym, ap, arith}
use Rattle.std.specs.Prelude.{slice_index_or}
use Rattle.fx_c_ast.specs.declared.checked.TMember.{TMember}
use Rattle.fx_c_ast.specs.CheckedTrees.{VoidTy, ty_tree, member_types}

pub types_take : (n : ℕ) (ms : List TMember) → member_types (take n ms) ≡ take n (member_types ms)
types_take zero ms = refl
types_take (suc n) [] = refl
types_take (suc n) (m ∷ ms) = ap (λ l. ty_tree m.ty ∷ l) (types_take n ms)

pub types_all : (n : ℕ) (ms : List TMember) → length ms ≤ n → take n (member_types ms) ≡ member_types ms
types_all zero [] le = refl
types_all (suc n) [] le = refl
types_all zero (m ∷ ms) le = absurd (omega arith)
types_all (suc n) (m ∷ ms) le = ap (λ l. ty_tree m.ty ∷ l) (types_all n ms (omega arith))

pub type_at : (ms : List TMember) (n : ℕ) (m : TMember) → n < length ms → m ≡ slice_index_or ms n m → slice_index_or (member_types ms) n VoidTy ≡ ty_tree m.ty
type_at [] n m lt e = absurd (omega arith)
type_at (x ∷ xs) zero m lt e = ap (λ y. ty_tree y.ty) (sym e)
type_at (x ∷ xs) (suc n) m lt e = type_at xs n m (omega arith) e

pub no_type : (ms : List TMember) (n : ℕ) → length ms ≤ n → slice_index_or (member_types ms) n VoidTy ≡ VoidTy
no_type [] n le = refl
no_type (x ∷ xs) zero le = absurd (omega arith)
no_type (x ∷ xs) (suc n) le = no_type xs n (omega arith)
