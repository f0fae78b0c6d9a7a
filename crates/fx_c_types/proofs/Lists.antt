-- Lists of declarations and functions, item by item.
use Rattle.std.proofs.Common.{◌≡◌, ℕ, suc, Bool, false, arith, append_assoc, ◌+◌, ◌<◌, refl, sym, ap, ◌∙◌, List, [], ◌∷◌, ◌++◌, length, drop, get_or, drop-cons, add-one}
use Rattle.fx_c_ast.specs.declared.checked.TLocal.{TLocal}
use Rattle.fx_c_ast.specs.declared.checked.TFunction.{TFunction}
use Rattle.fx_c_ast.specs.ParsedTrees.{decl_tree}
use Rattle.fx_c_ast.specs.CheckedTrees.{TyTree, ty_tree}
use Rattle.fx_c_types_rules.specs.Locals.{LocalTree, local_trees}
use Rattle.fx_c_types.specs.declared.program.Placed.{Placed}
use Rattle.fx_c_types.specs.Programs.{has_none}
use Rattle.fx_c_types.specs.ProgramView.{placed_trees, function_tree, function_trees}

pub split : {A : Type 0} (xs : List A) (i : ℕ) (x : A) → i < length xs → x ≡ get_or xs i x → drop i xs ≡ x ∷ drop (i + 1) xs
split xs i x h is = drop-cons xs i x h ∙ ap (λ z. z ∷ drop (suc i) xs) (sym is) ∙ ap (λ n. x ∷ drop n xs) (sym (add-one i))

pub length-function_trees : (fs : List TFunction) → length (function_trees fs) ≡ length fs
length-function_trees [] = refl
length-function_trees (f ∷ fs) = ap suc (length-function_trees fs)

pub push_function : (fs : List TFunction) (f : TFunction) → function_trees (fs ++ f ∷ []) ≡ function_trees fs ++ function_tree f ∷ []
push_function [] f = refl
push_function (x ∷ fs) f = ap (λ ls. function_tree x ∷ ls) (push_function fs f)

pub push_placed : (ps : List Placed) (p : Placed) → placed_trees (ps ++ p ∷ []) ≡ placed_trees ps ++ record { library = p.library; decl = decl_tree p.decl.now } ∷ []
push_placed [] p = refl
push_placed (x ∷ ps) p = ap (λ ls. record { library = x.library; decl = decl_tree x.decl.now } ∷ ls) (push_placed ps p)

pub push_local : (all : List TLocal) (l : TLocal) → local_trees (all ++ l ∷ []) ≡ local_trees all ++ record { shared = l.shared; ty = ty_tree l.ty } ∷ []
push_local [] l = refl
push_local (x ∷ all) l = ap (λ ls. record { shared = x.shared; ty = ty_tree x.ty } ∷ ls) (push_local all l)

-- one more local that is copied
pub next_local : (ls : List TLocal) (i : ℕ) (l : TLocal) (all : List TLocal) (m : TLocal) (total : List LocalTree) → i < length ls → l ≡ get_or ls i l → l.shared ≡ m.shared → ty_tree l.ty ≡ ty_tree m.ty → local_trees all ++ local_trees (drop i ls) ≡ total → local_trees (all ++ m ∷ []) ++ local_trees (drop (i + 1) ls) ≡ total
next_local ls i l all m total h is shared ty before =
    ap (λ ms. ms ++ local_trees (drop (i + 1) ls)) (push_local all m)
    ∙ append_assoc (local_trees all) (record { shared = m.shared; ty = ty_tree m.ty } ∷ []) (local_trees (drop (i + 1) ls))
    ∙ ap (λ (t : TyTree). local_trees all ++ (record { shared = m.shared; ty = t } ∷ [] ++ local_trees (drop (i + 1) ls))) (sym ty)
    ∙ ap (λ (s : Bool). local_trees all ++ (record { shared = s; ty = ty_tree l.ty } ∷ [] ++ local_trees (drop (i + 1) ls))) (sym shared)
    ∙ ap (λ xs. local_trees all ++ local_trees xs) (sym (split ls i l h is))
    ∙ before

pub length-placed_trees : (ps : List Placed) → length (placed_trees ps) ≡ length ps
length-placed_trees [] = refl
length-placed_trees (p ∷ ps) = ap suc (length-placed_trees ps)

pub some_params : (ls : List TLocal) → 0 < length ls → has_none (local_trees ls) ≡ false
some_params [] h = absurd (omega arith)
some_params (l ∷ ls) h = refl
