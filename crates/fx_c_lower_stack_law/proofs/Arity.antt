-- In programs that may be lowered calls pass as many arguments as parameters.
use Rattle.std.proofs.Common.{◌≡◌, ℕ, zero, suc, ◌≤◌, List, [], ◌∷◌, length, map, take, Option, Some, None, refl, sym, ap, ◌∙◌, arith}
use Rattle.std.specs.Prelude.{slice_get, slice_index_or, All}
use Rattle.fx_c_ast.specs.declared.checked.TLocal.{TLocal}
use Rattle.fx_c_ast.specs.declared.checked.TFunction.{TFunction}
use Rattle.fx_c_ast.specs.declared.checked.TProgram.{TProgram}
use Rattle.fx_c_ast.specs.CheckedTrees.{TyTree, TExprTree, EUn, EBin, ECast, EConvert, EIndex, EMember, EArrow, ECall, EGate, EPutc, EDevStore, ESpawn, ESwitch, TExprTrees, NoTExprs, MoreTExprs, TStmtTree, SEmpty, SBlock, SLocal, SEval, SAssign, SIf, SWhile, SFor, SBreak, SContinue, SReturn, TStmtTrees, NoTStmts, MoreTStmts, MaybeTStmt, NoTStmt, OneTStmt, tstmt_trees, struct_types}
use Rattle.fx_c_types_rules.specs.Locals.{LocalTree, local_trees}
use Rattle.fx_c_types_heads.specs.Heads.{FunctionHead}
use Rattle.fx_c_mean_model.specs.Programs.{Program, function_at, function_of, program_of, no_function}
use Rattle.fx_c_types_model.specs.Tables.{Tables, tables, heads_of, local_type}
use Rattle.fx_c_types_model.specs.Nodes.{ArePassed, Calls, Enters}
use Rattle.fx_c_types_model.specs.Trees.{IsTyped, AreTyped, IsMaybeTest, IsStart, IsReturned, IsRight, MaybeRight, AreRight}
use Rattle.fx_c_types_model.specs.Each.{Each, EachOfAll, EachOfValue, EachIn, EachInMaybe, EachInAll}
use Rattle.fx_c_types_model.specs.Lowerable.{IsLowerable}
use Rattle.fx_c_lower_stack_law.proofs.Needs.{count, CallPasses}

passed : (ps : List LocalTree) (all : TExprTrees) → ArePassed ps all → count all ≡ length ps
passed [] NoTExprs h = refl
passed (x ∷ ps) (MoreTExprs e more) h = omega (arith, passed ps more h.2)
passed [] (MoreTExprs e more) h = absurd h
passed (x ∷ ps) NoTExprs h = absurd h

module _ (g : Tables) (p : Program) (arity : (n : ℕ) (f : FunctionHead) → slice_get g.functions n ≡ Some f → (function_at p n).params ≡ length f.params) where
  calls : (x : Option FunctionHead) (n library : ℕ) (ty : TyTree) (all : TExprTrees) → slice_get g.functions n ≡ x → Calls library x ty all → count all ≡ (function_at p n).params
  calls None n library ty all e h = absurd h
  calls (Some f) n library ty all e h = passed f.params all h.2 ∙ sym (arity n f e)

  enters : (x : Option FunctionHead) (n : ℕ) (ty : TyTree) (all : TExprTrees) → slice_get g.functions n ≡ x → Enters x ty all → count all ≡ (function_at p n).params
  enters None n ty all e h = absurd h
  enters (Some f) n ty all e h = passed f.params all h.2 ∙ sym (arity n f e)

  mutual
    passes : (e : TExprTree) → IsTyped g e → Each (CallPasses p) e
    passes (EUn ty o e) h = (tt, passes e h.2)
    passes (EBin ty o a b) h = (tt, passes a h.2, passes b h.3)
    passes (ECast ty e) h = (tt, passes e h.2)
    passes (EConvert ty e) h = (tt, passes e h.2)
    passes (EIndex ty a b) h = (tt, passes a h.4, passes b h.5)
    passes (EMember ty e n) h = (tt, passes e h.3)
    passes (EArrow ty e n) h = (tt, passes e h.3)
    passes (ECall ty f all) h = (calls (slice_get g.functions f) f g.library ty all refl h.1, pass_all all h.2)
    passes (EGate ty f all) h = (enters (slice_get g.functions f) f ty all refl h.1, pass_all all h.2)
    passes (EPutc ty e) h = (tt, passes e h.3)
    passes (EDevStore ty d r e) h = (tt, passes e h.3)
    passes (ESpawn ty f e) h = (tt, passes e h.4)
    passes (ESwitch ty e) h = (tt, passes e h.3)
    passes e h = tt

    pass_all : (all : TExprTrees) → AreTyped g all → EachOfAll (CallPasses p) all
    pass_all NoTExprs h = tt
    pass_all (MoreTExprs e more) h = (passes e h.0, pass_all more h.1)

  pass_maybe : (x : Option TExprTree) → IsMaybeTest g x → EachOfValue (CallPasses p) x
  pass_maybe None h = tt
  pass_maybe (Some e) h = passes e h.1

  pass_start : (x : Option TyTree) (init : Option TExprTree) → IsStart g x init → EachOfValue (CallPasses p) init
  pass_start x None h = tt
  pass_start None (Some e) h = absurd h
  pass_start (Some ty) (Some e) h = passes e h.2

  pass_return : (x : Option TExprTree) → IsReturned g x → EachOfValue (CallPasses p) x
  pass_return None h = tt
  pass_return (Some e) h = passes e h.2

  mutual
    pass_stmt : (s : TStmtTree) → IsRight g s → EachIn (CallPasses p) s
    pass_stmt SEmpty h = tt
    pass_stmt (SBlock all) h = pass_stmts all h
    pass_stmt (SLocal n init) h = pass_start (local_type g.locals n) init h
    pass_stmt (SEval e) h = passes e h
    pass_stmt (SAssign to e) h = (passes to h.3, passes e h.4)
    pass_stmt (SIf test s other) h = (passes test h.0.1, pass_stmt s h.1, pass_other other h.2)
    pass_stmt (SWhile test s) h = (passes test h.0.1, pass_stmt s h.1)
    pass_stmt (SFor first test next s) h = (pass_other first h.0, pass_maybe test h.1, pass_other next h.2, pass_stmt s h.3)
    pass_stmt SBreak h = tt
    pass_stmt SContinue h = tt
    pass_stmt (SReturn e) h = pass_return e h

    pass_other : (s : MaybeTStmt) → MaybeRight g s → EachInMaybe (CallPasses p) s
    pass_other NoTStmt h = tt
    pass_other (OneTStmt s) h = pass_stmt s h

    pass_stmts : (all : TStmtTrees) → AreRight g all → EachInAll (CallPasses p) all
    pass_stmts NoTStmts h = tt
    pass_stmts (MoreTStmts s more) h = (pass_stmt s h.0, pass_stmts more h.1)

-- ---- a program's functions

take_length : (n : ℕ) (ls : List LocalTree) → n ≤ length ls → length (take n ls) ≡ n
take_length zero ls le = refl
take_length (suc n) [] le = absurd (omega (arith, le))
take_length (suc n) (l ∷ ls) le = ap suc (take_length n ls (omega (arith, le)))

all_tail : (Q : TFunction → Type 0) (f : TFunction) (fs : List TFunction) → All Q (f ∷ fs) → All Q fs
all_tail Q f fs h k d le = h (suc k) d (omega (arith, le))

all_head : (Q : TFunction → Type 0) (f : TFunction) (fs : List TFunction) → All Q (f ∷ fs) → Q f
all_head Q f fs h = h 0 f (omega arith)

abbrev head_in : FunctionHead → Option FunctionHead → FunctionHead
head_in h None = h
head_in h (Some k) = k

arity_of : (structs : List (List TyTree)) (fs : List TFunction) → All (λ (f : TFunction). f.params ≤ length (local_trees f.locals)) fs → (n : ℕ) (h : FunctionHead) → slice_get (heads_of fs) n ≡ Some h → (slice_index_or (map (function_of structs) fs) n no_function).params ≡ length h.params
arity_of structs [] few n h e = absurd cc
arity_of structs (f ∷ fs) few zero h e =
    sym (take_length f.params (local_trees f.locals) (all_head (λ (f : TFunction). f.params ≤ length (local_trees f.locals)) f fs few)) ∙ ap (λ x. length (head_in h x).params) e
arity_of structs (f ∷ fs) few (suc n) h e = arity_of structs fs (all_tail (λ (f : TFunction). f.params ≤ length (local_trees f.locals)) f fs few) n h e

-- what holds of each body holds of a function's by its number
body_of : (Q : TStmtTrees → Type 0) (structs : List (List TyTree)) (fs : List TFunction) (n : ℕ) → Q NoTStmts → All (λ (x : TFunction). Q (tstmt_trees x.body.items)) fs → Q (slice_index_or (map (function_of structs) fs) n no_function).body
body_of Q structs [] n empty by = empty
body_of Q structs (x ∷ fs) zero empty by = all_head (λ (y : TFunction). Q (tstmt_trees y.body.items)) x fs by
body_of Q structs (x ∷ fs) (suc n) empty by = body_of Q structs fs n empty (all_tail (λ (y : TFunction). Q (tstmt_trees y.body.items)) x fs by)

locals_length : (ls : List TLocal) → length (local_trees ls) ≡ length ls
locals_length [] = refl
locals_length (l ∷ ls) = ap suc (locals_length ls)

pub programs_pass : (p : TProgram) (f : ℕ) → IsLowerable p → EachInAll (CallPasses (program_of p)) (function_at (program_of p) f).body
programs_pass p f lowerable =
    let structs = struct_types p.structs in
    let few : All (λ (x : TFunction). x.params ≤ length (local_trees x.locals)) p.functions = λ k d le. omega (arith, (lowerable.functions k d le).params, locals_length (slice_index_or p.functions k d).locals) in
    body_of (EachInAll (CallPasses (program_of p))) structs p.functions f tt (λ k d le.
    let x = slice_index_or p.functions k d in
    pass_stmts (tables p x) (program_of p) (λ n h e. arity_of structs p.functions few n h e) (tstmt_trees x.body.items) (lowerable.functions k d le).right)
