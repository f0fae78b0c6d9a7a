-- Lists of trees, of parameters and of structs, item by item.
use Rattle.std.proofs.Common.{◌≡◌, ◌≢◌, ℕ, zero, suc, ◌+◌, ◌<◌, ◌≤◌, Bool, true, false, ◌&&◌, refl, sym, ap, ◌∙◌, arith, List, [], ◌∷◌, ◌++◌, length, drop, get_or, slice_get, drop-cons, add-one}
use Rattle.fx_c_ast.specs.declared.checked.TExpr.{TExpr}
use Rattle.fx_c_ast.specs.declared.checked.TLocal.{TLocal}
use Rattle.fx_c_ast.specs.declared.checked.TStruct.{TStruct}
use Rattle.fx_c_ast.specs.CheckedTrees.{TExprTrees, NoTExprs, MoreTExprs, ty_tree, texpr_tree, texpr_trees}
use Rattle.fx_c_types_rules.specs.Values.{agrees, converted}
use Rattle.fx_c_types_rules.specs.Locals.{LocalTree, local_trees}
use Rattle.fx_c_types_rules.specs.Calls.{are_passed, passed, joined}
use Rattle.fx_c_types_rules.specs.Structs.{MemberTree, member_trees, struct_trees, members_of}

and_false : (b c : Bool) → c ≡ false → (b && c) ≡ false
and_false true c h = h
and_false false c h = refl

pub other_count : (ps : List TLocal) (es : List TExpr) → length ps ≢ length es → are_passed (local_trees ps) (texpr_trees es) ≡ false
other_count [] [] h = absurd (h refl)
other_count [] (e ∷ es) h = refl
other_count (p ∷ ps) [] h = refl
other_count (p ∷ ps) (e ∷ es) h = and_false (agrees (ty_tree p.ty) (texpr_tree e)) (are_passed (local_trees ps) (texpr_trees es)) (other_count ps es (λ same. h (ap suc same)))

pub push_joined : (all : List TExpr) (e : TExpr) (rest : TExprTrees) → joined (texpr_trees (all ++ e ∷ [])) rest ≡ joined (texpr_trees all) (MoreTExprs (texpr_tree e) rest)
push_joined [] e rest = refl
push_joined (x ∷ all) e rest = ap (MoreTExprs (texpr_tree x)) (push_joined all e rest)

pub none_joined : (es : TExprTrees) → joined es NoTExprs ≡ es
none_joined NoTExprs = refl
none_joined (MoreTExprs e rest) = ap (MoreTExprs e) (none_joined rest)

pub none_passed : (ps : List LocalTree) → passed ps NoTExprs ≡ NoTExprs
none_passed [] = refl
none_passed (p ∷ ps) = refl

pub next_param : (ps : List TLocal) (i : ℕ) (p : TLocal) → i < length ps → p ≡ get_or ps i p → local_trees (drop i ps) ≡ record { shared = p.shared; ty = ty_tree p.ty } ∷ local_trees (drop (i + 1) ps)
next_param ps i p l e = ap local_trees (drop-cons ps i p l ∙ ap (λ z. z ∷ drop (suc i) ps) (sym e) ∙ ap (λ n. p ∷ drop n ps) (sym (add-one i)))

-- one more argument
pub one_passed : (ps : List TLocal) (i : ℕ) (p : TLocal) (all : List TExpr) (e v : TExpr) (rest : List TExpr) (total : TExprTrees) → i < length ps → p ≡ get_or ps i p → converted (ty_tree p.ty) (texpr_tree e) ≡ texpr_tree v → joined (texpr_trees all) (passed (local_trees (drop i ps)) (texpr_trees (e ∷ rest))) ≡ total → joined (texpr_trees (all ++ v ∷ [])) (passed (local_trees (drop (i + 1) ps)) (texpr_trees rest)) ≡ total
one_passed ps i p all e v rest total l is conv before =
    push_joined all v (passed (local_trees (drop (i + 1) ps)) (texpr_trees rest))
    ∙ ap (λ t. joined (texpr_trees all) (MoreTExprs t (passed (local_trees (drop (i + 1) ps)) (texpr_trees rest)))) (sym conv)
    ∙ ap (λ ls. joined (texpr_trees all) (passed ls (texpr_trees (e ∷ rest)))) (sym (next_param ps i p l is))
    ∙ before

pub none_left : {A : Type 0} (xs : List A) → length xs ≡ 0 → xs ≡ []
none_left [] h = refl
none_left (x ∷ xs) h = absurd (omega arith)

-- all arguments
pub all_passed : (ps : List LocalTree) (all rest : List TExpr) (total : TExprTrees) → length rest ≡ 0 → joined (texpr_trees all) (passed ps (texpr_trees rest)) ≡ total → total ≡ texpr_trees all
all_passed ps all rest total none before =
    sym before ∙ ap (λ r. joined (texpr_trees all) (passed ps (texpr_trees r))) (none_left rest none)
    ∙ ap (joined (texpr_trees all)) (none_passed ps) ∙ none_joined (texpr_trees all)

pub struct_at : (ss : List TStruct) (n : ℕ) (s : TStruct) → n < length ss → s ≡ get_or ss n s → member_trees s.members ≡ members_of (slice_get (struct_trees ss) n)
struct_at [] n s l e = absurd (omega arith)
struct_at (x ∷ ss) zero s l e = ap (λ (d : TStruct). member_trees d.members) e
struct_at (x ∷ ss) (suc n) s l e = struct_at ss n s (omega arith) e

pub struct_beyond : (ss : List TStruct) (n : ℕ) → length ss ≤ n → members_of (slice_get (struct_trees ss) n) ≡ []
struct_beyond [] n l = refl
struct_beyond (x ∷ ss) zero l = absurd (omega arith)
struct_beyond (x ∷ ss) (suc n) l = struct_beyond ss n (omega arith)
