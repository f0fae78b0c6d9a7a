-- The numbers in lowered code are in range.
use Rattle.std.proofs.Common.{◌≡◌, ℕ, zero, suc, ◌<◌, List, [], ◌∷◌, length, map, Option, Some, None, refl, ap, subst, arith}
use Rattle.std.specs.Prelude.{slice_get, slice_index_or}
use Rattle.fx_c_ast.specs.declared.checked.TGlobal.{TGlobal}
use Rattle.fx_c_ast.specs.declared.checked.TLocal.{TLocal}
use Rattle.fx_c_ast.specs.declared.checked.TFunction.{TFunction}
use Rattle.fx_c_ast.specs.CheckedTrees.{TyTree, tstmt_trees, struct_types}
use Rattle.fx_c_types_rules.specs.Locals.{local_trees}
use Rattle.fx_c_types_heads.specs.Heads.{FunctionHead}
use Rattle.fx_c_types_heads.specs.HeadsView.{global_heads}
use Rattle.fx_c_mean_model.specs.Programs.{Program, Function, function_at, variable_of, function_of, global_of, program_of, no_function}
use Rattle.fx_c_mean_model.specs.Rights.{no_variable}
use Rattle.fx_c_types_model.specs.Tables.{heads_of, local_type, global_type, literal_type}
use Rattle.fx_c_types_model.specs.Lowerable.{IsLowerableFunction}
use Rattle.fx_c_lin.specs.Machine.{no_code}
use Rattle.fx_c_lower_model.specs.Code.{function_code}
use Rattle.fx_c_lower_ranges_law.specs.Ranges.{LoweredCodeIsInRange}
use Rattle.fx_c_lower_ranges_law.proofs.Nodes.{StmtsIn}
use Rattle.fx_c_lower_ranges_law.proofs.Steps.{function_in, step_in}
use Rattle.fx_c_lower_ranges_law.proofs.Typed.{statements}

abbrev some : TyTree → Option TyTree → TyTree
some t None = t
some t (Some u) = u

local_is : (ls : List TLocal) (n : ℕ) (ty : TyTree) → local_type (local_trees ls) n ≡ Some ty → (n < length (map variable_of ls)) × ((slice_index_or (map variable_of ls) n no_variable).ty ≡ ty)
local_is [] n ty e = absurd cc
local_is (l ∷ ls) zero ty e = (omega arith, ap (some ty) e)
local_is (l ∷ ls) (suc n) ty e = let h = local_is ls n ty e in (omega (arith, h.0), h.1)

global_is : (gs : List TGlobal) (n : ℕ) (ty : TyTree) → global_type (global_heads gs) n ≡ Some ty → n < length (map global_of gs)
global_is [] n ty e = absurd cc
global_is (g ∷ gs) zero ty e = omega arith
global_is (g ∷ gs) (suc n) ty e = omega (arith, global_is gs n ty e)

literal_is : (ls : List (List ℕ)) (n : ℕ) (ty : TyTree) → literal_type ls n ≡ Some ty → n < length ls
literal_is [] n ty e = absurd cc
literal_is (l ∷ ls) zero ty e = omega arith
literal_is (l ∷ ls) (suc n) ty e = omega (arith, literal_is ls n ty e)

function_is : (structs : List (List TyTree)) (fs : List TFunction) (n : ℕ) (h : FunctionHead) → slice_get (heads_of fs) n ≡ Some h → n < length (map (function_of structs) fs)
function_is structs [] n h e = absurd cc
function_is structs (f ∷ fs) zero h e = omega arith
function_is structs (f ∷ fs) (suc n) h e = omega (arith, function_is structs fs n h e)

-- what holds of each function holds of it by its number
function_by : (Q : Function → Type 0) (structs : List (List TyTree)) (fs : List TFunction) (n : ℕ) → Q no_function → ((k : ℕ) (d : TFunction) → k < length fs → Q (function_of structs (slice_index_or fs k d))) → Q (slice_index_or (map (function_of structs) fs) n no_function)
function_by Q structs [] n empty by = empty
function_by Q structs (x ∷ fs) zero empty by = by 0 x (omega arith)
function_by Q structs (x ∷ fs) (suc n) empty by = function_by Q structs fs n empty (λ k d l. by (suc k) d (omega (arith, l)))

steps_at : (p : Program) (fs : List Function) (f : ℕ) → slice_index_or (map (function_code p) fs) f no_code ≡ function_code p (slice_index_or fs f no_function)
steps_at p [] f = refl
steps_at p (x ∷ fs) zero = refl
steps_at p (x ∷ fs) (suc f) = steps_at p fs f

pub lowered_is_in_range : LoweredCodeIsInRange
lowered_is_in_range t f k x lowerable e =
    let p = program_of t in
    let F = function_at p f in
    let structs = struct_types t.structs in
    let body : StmtsIn p F F.body = function_by (λ G. StmtsIn p G G.body) structs t.functions f tt (λ j d l.
    let y = slice_index_or t.functions j d in
    let low : IsLowerableFunction t y = lowerable.functions j d l in
    statements t y (function_of structs y) (λ ty n h. local_is y.locals n ty h) (λ ty n h. global_is t.globals n ty h) (λ ty n h. literal_is t.literals n ty h) (λ n h g. function_is structs t.functions n h g) lowerable.bytes (tstmt_trees y.body.items) low.right low.devices low.elements) in
    step_in p F (function_code p F) k x (function_in p F body) (subst (λ code. slice_get code k ≡ Some x) (steps_at p p.functions f) e)
