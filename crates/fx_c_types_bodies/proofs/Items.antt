-- Lists of locals, globals and functions, item by item.
use Rattle.std.proofs.Common.{◌≡◌, ◌≢◌, ℕ, false, zero, suc, ◌<◌, ◌≤◌, refl, sym, ap, arith, List, [], ◌∷◌, ◌++◌, length, get_or, slice_get, Some, None}
use Rattle.fx_c_ast.specs.declared.checked.TLocal.{TLocal}
use Rattle.fx_c_ast.specs.declared.checked.TGlobal.{TGlobal}
use Rattle.fx_c_ast.specs.CheckedTrees.{VoidTy, ty_tree}
use Rattle.fx_c_types_rules.specs.Locals.{local_trees}
use Rattle.fx_c_types_heads.specs.declared.heads.Head.{Head}
use Rattle.fx_c_types_heads.specs.HeadsView.{global_heads, function_head, function_heads}
use Rattle.fx_c_types_bodies.specs.Bodies.{type_or_void, global_or_void, is_long, are_one_long}

pub local_at : (ls : List TLocal) (n : ℕ) (l : TLocal) → n < length ls → l ≡ get_or ls n l → type_or_void (slice_get (local_trees ls) n) ≡ ty_tree l.ty
local_at [] n l h e = absurd (omega arith)
local_at (x ∷ ls) zero l h e = ap (λ (d : TLocal). ty_tree d.ty) (sym e)
local_at (x ∷ ls) (suc n) l h e = local_at ls n l (omega arith) e

pub local_beyond : (ls : List TLocal) (n : ℕ) → length ls ≤ n → type_or_void (slice_get (local_trees ls) n) ≡ VoidTy
local_beyond [] n h = refl
local_beyond (x ∷ ls) zero h = absurd (omega arith)
local_beyond (x ∷ ls) (suc n) h = local_beyond ls n (omega arith)

pub global_at : (gs : List TGlobal) (n : ℕ) (g : TGlobal) → n < length gs → g ≡ get_or gs n g → global_or_void (slice_get (global_heads gs) n) ≡ ty_tree g.ty
global_at [] n g h e = absurd (omega arith)
global_at (x ∷ gs) zero g h e = ap (λ (d : TGlobal). ty_tree d.ty) (sym e)
global_at (x ∷ gs) (suc n) g h e = global_at gs n g (omega arith) e

pub global_beyond : (gs : List TGlobal) (n : ℕ) → length gs ≤ n → global_or_void (slice_get (global_heads gs) n) ≡ VoidTy
global_beyond [] n h = refl
global_beyond (x ∷ gs) zero h = absurd (omega arith)
global_beyond (x ∷ gs) (suc n) h = global_beyond gs n (omega arith)

pub function_at : (fs : List Head) (n : ℕ) (f : Head) → n < length fs → f ≡ get_or fs n f → slice_get (function_heads fs) n ≡ Some (function_head f)
function_at [] n f h e = absurd (omega arith)
function_at (x ∷ fs) zero f h e = ap (λ (d : Head). Some (function_head d)) (sym e)
function_at (x ∷ fs) (suc n) f h e = function_at fs n f (omega arith) e

pub function_beyond : (fs : List Head) (n : ℕ) → length fs ≤ n → slice_get (function_heads fs) n ≡ None
function_beyond [] n h = refl
function_beyond (x ∷ fs) zero h = absurd (omega arith)
function_beyond (x ∷ fs) (suc n) h = function_beyond fs n (omega arith)

pub length-local_trees : (ls : List TLocal) → length (local_trees ls) ≡ length ls
length-local_trees [] = refl
length-local_trees (l ∷ ls) = ap suc (length-local_trees ls)

pub push_local : (all : List TLocal) (l : TLocal) → local_trees (all ++ l ∷ []) ≡ local_trees all ++ record { shared = l.shared; ty = ty_tree l.ty } ∷ []
push_local [] l = refl
push_local (x ∷ all) l = ap (λ ls. record { shared = x.shared; ty = ty_tree x.ty } ∷ ls) (push_local all l)

pub one_long : (ps : List TLocal) (p : TLocal) → length ps ≡ 1 → p ≡ get_or ps 0 p → are_one_long (local_trees ps) ≡ is_long (ty_tree p.ty)
one_long [] p h e = absurd (omega arith)
one_long (x ∷ []) p h e = ap (λ (d : TLocal). is_long (ty_tree d.ty)) (sym e)
one_long (x ∷ (y ∷ ps)) p h e = absurd (omega arith)

pub not_one_long : (ps : List TLocal) → length ps ≢ 1 → are_one_long (local_trees ps) ≡ false
not_one_long [] h = refl
not_one_long (x ∷ []) h = absurd (h refl)
not_one_long (x ∷ (y ∷ ps)) h = refl
