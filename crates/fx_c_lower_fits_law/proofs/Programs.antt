-- Programs that may be lowered fit the law of lowering.
use Rattle.std.proofs.Common.{◌≡◌, ℕ, zero, suc, ◌<◌, ◌≤◌, List, [], ◌∷◌, length, map, take, Option, Some, None, refl, sym, ap, ◌∙◌, subst, arith}
use Rattle.std.specs.Prelude.{slice_get, slice_index_or, All}
use Rattle.fx_c_ast.specs.declared.checked.TLocal.{TLocal}
use Rattle.fx_c_ast.specs.declared.checked.TFunction.{TFunction}
use Rattle.fx_c_ast.specs.CheckedTrees.{TyTree, tstmt_trees, struct_types}
use Rattle.fx_c_types_rules.specs.Locals.{LocalTree, local_trees}
use Rattle.fx_c_types_heads.specs.Heads.{FunctionHead}
use Rattle.fx_c_mean_model.specs.Programs.{Program, Function, variable_of, function_of, program_of, no_function}
use Rattle.fx_c_mean_model.specs.Rights.{no_variable}
use Rattle.fx_c_types_model.specs.Tables.{tables, heads_of, type_of_local}
use Rattle.fx_c_types_model.specs.Each.{EachInAll}
use Rattle.fx_c_types_model.specs.Lowerable.{IsLowerableFunction}
use Rattle.fx_c_lower_law.specs.Fits.{FitsStmts}
use Rattle.fx_c_lower_fits_law.specs.Moves.{MovesFit, LowerableProgramsFit}
use Rattle.fx_c_lower_fits_law.proofs.Trees as trees

abbrev some : TyTree → Option TyTree → TyTree
some t None = t
some t (Some u) = u

-- a local's type
local_is : (ls : List TLocal) (n : ℕ) (ty : TyTree) → type_of_local (slice_get (local_trees ls) n) ≡ Some ty → (n < length (map variable_of ls)) × ((slice_index_or (map variable_of ls) n no_variable).ty ≡ ty)
local_is [] n ty e = absurd cc
local_is (l ∷ ls) zero ty e = (omega arith, ap (some ty) e)
local_is (l ∷ ls) (suc n) ty e = let h = local_is ls n ty e in (omega (arith, h.0), h.1)

locals_length : (ls : List TLocal) → length (local_trees ls) ≡ length ls
locals_length [] = refl
locals_length (l ∷ ls) = ap suc (locals_length ls)

take_length : (n : ℕ) (ls : List LocalTree) → n ≤ length ls → length (take n ls) ≡ n
take_length zero ls le = refl
take_length (suc n) [] le = absurd (omega (arith, le))
take_length (suc n) (l ∷ ls) le = ap suc (take_length n ls (omega (arith, le)))

all_tail : (Q : TFunction → Type 0) (f : TFunction) (fs : List TFunction) → All Q (f ∷ fs) → All Q fs
all_tail Q f fs h k d le = h (suc k) d (omega (arith, le))

all_head : (Q : TFunction → Type 0) (f : TFunction) (fs : List TFunction) → All Q (f ∷ fs) → Q f
all_head Q f fs h = h 0 f (omega arith)

abbrev head_in : FunctionHead → Option FunctionHead → FunctionHead
head_in h None = h
head_in h (Some k) = k

-- a call's parameters
arity_of : (structs : List (List TyTree)) (fs : List TFunction) → All (λ (f : TFunction). f.params ≤ length f.locals) fs → (n : ℕ) (h : FunctionHead) → slice_get (heads_of fs) n ≡ Some h → (slice_index_or (map (function_of structs) fs) n no_function).params ≡ length h.params
arity_of structs [] few n h e = absurd cc
arity_of structs (f ∷ fs) few zero h e =
    let le : f.params ≤ length (local_trees f.locals) = omega (arith, locals_length f.locals, all_head (λ (f : TFunction). f.params ≤ length f.locals) f fs few) in
    sym (take_length f.params (local_trees f.locals) le) ∙ ap (λ x. length (head_in h x).params) e
arity_of structs (f ∷ fs) few (suc n) h e = arity_of structs fs (all_tail (λ (f : TFunction). f.params ≤ length f.locals) f fs few) n h e

-- a function's body, told how it fits where it is one of the program's
body_of : (P : Program) (structs : List (List TyTree)) (fs : List TFunction) (n : ℕ) (f : ℕ) → ((x : TFunction) → slice_get fs n ≡ Some x → slice_index_or (map (function_of structs) fs) n no_function ≡ function_of structs x → FitsStmts P f (tstmt_trees x.body.items)) → FitsStmts P f (slice_index_or (map (function_of structs) fs) n no_function).body
body_of P structs [] n f by = tt
body_of P structs (x ∷ fs) zero f by = by x refl refl
body_of P structs (x ∷ fs) (suc n) f by = body_of P structs fs n f by

abbrev function_in : TFunction → Option TFunction → TFunction
function_in d None = d
function_in d (Some y) = y

all_get : (Q : TFunction → Type 0) (fs : List TFunction) → All Q fs → (n : ℕ) (x : TFunction) → slice_get fs n ≡ Some x → Q x
all_get Q [] h n x e = absurd cc
all_get Q (f ∷ fs) h zero x e = subst Q (ap (function_in f) e) (all_head Q f fs h)
all_get Q (f ∷ fs) h (suc n) x e = all_get Q fs (all_tail Q f fs h) n x e

pub programs_fit : LowerableProgramsFit
programs_fit p lowerable moves f =
    let structs = struct_types p.structs in
    let P = program_of p in
    let few : All (λ (f : TFunction). f.params ≤ length f.locals) p.functions = λ k d le. (lowerable.functions k d le).params in
    body_of P structs p.functions f f (λ x e is.
    let right : IsLowerableFunction p x = all_get (IsLowerableFunction p) p.functions lowerable.functions f x e in
    let moved : EachInAll MovesFit (tstmt_trees x.body.items) = all_get (λ (f : TFunction). EachInAll MovesFit (tstmt_trees f.body.items)) p.functions moves f x e in
    trees.fit_stmts (tables p x) P f
    (λ ty n h. subst (λ (F : Function). (n < length F.variables) × ((slice_index_or F.variables n no_variable).ty ≡ ty)) (sym is) (local_is x.locals n ty h))
    (λ n h k. arity_of structs p.functions few n h k)
    (tstmt_trees x.body.items) right.right moved)
