-- Calls, gate calls and starts of threads.
use Rattle.std.proofs.Common.{◌≡◌, ℕ, true, ◌&&◌, nat_eq, List, [], ◌∷◌, length, slice_get, Option, Some, None, Ok, refl, sym, subst}
use Rattle.std.proofs.lemmas.Bool.{and_parts, eqb-true}
use Rattle.fx_c_ast.specs.declared.operator.IntType.TheVariants.{Long}
use Rattle.fx_c_ast.specs.CheckedTrees.{TyTree, VoidTy, IntTy, TExprTree, ECall, EGate, ESpawn, EPutc, EDevStore, ESwitch, TExprTrees, NoTExprs, MoreTExprs}
use Rattle.fx_c_types_rules.specs.declared.fault.TypeKind.TheVariants.{NotInteger, Arguments, CrossCall, NotEntry}
use Rattle.fx_c_types_rules.specs.Checks.{Checked, demand}
use Rattle.fx_c_types_rules.specs.Types.{category}
use Rattle.fx_c_types_rules.specs.Values.{type_of, value_of, is_scalar, agrees, as_long, converted}
use Rattle.fx_c_types_rules.specs.Locals.{LocalTree}
use Rattle.fx_c_types_rules.specs.Calls.{are_scalars, are_passed, passed, arguments, joined, putc, device_store, switch}
use Rattle.fx_c_types_heads.specs.Heads.{HeadsTree, FunctionHead}
use Rattle.fx_c_types_bodies.specs.Bodies.{BodyTree, function_named, CalleeTree, numbered, head_numbered, callee, call, gate, is_long, are_one_long, first_value, spawn}
use Rattle.fx_c_types_model.specs.Tables.{Tables}
use Rattle.fx_c_types_model.specs.Nodes.{ArePassed, Calls, Enters, IsOneLong, Starts}
use Rattle.fx_c_types_model.specs.Trees.{IsTyped, AreTyped}
use Rattle.fx_c_types_law.proofs.Ends.{Ends, bind_ends, demand_ends}
use Rattle.fx_c_types_trees_law.proofs.Shapes.{same_is, agree_scalar}
use Rattle.fx_c_types_trees_law.proofs.Nodes.{type_converted, value_typed, agreed, IsLong, long_typed}
use Rattle.fx_c_types_trees_law.proofs.Scope.{tables_in, AreNamed, IsTied}

pub joined_typed : (g : Tables) (before : TExprTrees) (e : TExprTree) → AreTyped g before → IsTyped g e → AreTyped g (joined before (MoreTExprs e NoTExprs))
joined_typed g NoTExprs e h k = (k, tt)
joined_typed g (MoreTExprs x rest) e h k = (h.0, joined_typed g rest e h.1 k)

abbrev ArePassedTo : Tables → List LocalTree → TExprTrees → Type 0
ArePassedTo g ps es = ArePassed ps es × AreTyped g es

passed_typed : (g : Tables) (ps : List LocalTree) (es : TExprTrees) → AreNamed (length g.structs) ps → are_scalars es ≡ true → are_passed ps es ≡ true → AreTyped g es → ArePassedTo g ps (passed ps es)
passed_typed g [] NoTExprs named scalars fit has = (tt, tt)
passed_typed g [] (MoreTExprs e rest) named scalars fit has = cc
passed_typed g (p ∷ ps) NoTExprs named scalars fit has = cc
passed_typed g (p ∷ ps) (MoreTExprs e rest) named scalars fit has =
    let scalar = and_parts (is_scalar (category (type_of e))) (are_scalars rest) scalars in
    let agree = and_parts (agrees p.ty e) (are_passed ps rest) fit in
    let more : ArePassedTo g ps (passed ps rest) = passed_typed g ps rest named.1 scalar.1 agree.1 has.1 in (
      (type_converted p.ty e, agree_scalar p.ty (type_of e) e agree.0 scalar.0, more.0),
      (agreed g p.ty e named.0 agree.0 has.0, more.1),
    )

arguments_typed : (g : Tables) (ps : List LocalTree) (es : TExprTrees) → AreNamed (length g.structs) ps → AreTyped g es → Ends (ArePassedTo g ps) (arguments ps es)
arguments_typed g ps es named has =
    let last : Checked TExprTrees = Ok (passed ps es) in
    demand_ends (ArePassedTo g ps) (are_scalars es) NotInteger (demand (are_passed ps es) Arguments last) (λ scalars.
    demand_ends (ArePassedTo g ps) (are_passed ps es) Arguments last (λ fit.
    passed_typed g ps es named scalars fit has))

abbrev IsThere : HeadsTree → Option CalleeTree → Type 0
IsThere h None = Unit {0}
IsThere h (Some c) = slice_get h.functions c.number ≡ Some c.head

numbered_there : (h : HeadsTree) (n : ℕ) (f : Option FunctionHead) → slice_get h.functions n ≡ f → IsThere h (numbered n f)
numbered_there h n None is = tt
numbered_there h n (Some f) is = is

head_there : (h : HeadsTree) (n : Option ℕ) → IsThere h (head_numbered h n)
head_there h None = tt
head_there h (Some n) = numbered_there h n (slice_get h.functions n) refl

module _ (h : HeadsTree) (library : ℕ) (answer : TyTree) (literals : List (List ℕ)) (locals : List LocalTree) (tied : IsTied h) where
  call_of : (f : Option CalleeTree) (es : TExprTrees) → IsThere h f → AreTyped (tables_in h library answer literals locals) es → Ends (IsTyped (tables_in h library answer literals locals)) (call library f es)
  call_of None es there has = tt
  call_of (Some f) es there has =
      let g : Tables = tables_in h library answer literals locals in
      let is = tied.answers f.number f.head there in
      bind_ends (ArePassedTo g f.head.params) (IsTyped g) (arguments f.head.params es) (λ es. demand (nat_eq f.head.library library) CrossCall (Ok (ECall f.head.answer f.number es))) (arguments_typed g f.head.params es (tied.params f.number f.head there) has) (λ all passes.
      demand_ends (IsTyped g) (nat_eq f.head.library library) CrossCall (Ok (ECall f.head.answer f.number all)) (λ same. (
        is.0,
        subst (λ r. Calls library r f.head.answer all) (sym there) (refl, is.1, passes.0, eqb-true f.head.library library same),
        passes.1,
      )))

  pub call_typed : (b : BodyTree) (name : List ℕ) (es : TExprTrees) → AreTyped (tables_in h library answer literals locals) es → Ends (IsTyped (tables_in h library answer literals locals)) (call library (callee h b name) es)
  call_typed b name es has = call_of (callee h b name) es (head_there h (function_named h b name)) has

  gate_of : (f : Option CalleeTree) (es : TExprTrees) → IsThere h f → AreTyped (tables_in h library answer literals locals) es → Ends (IsTyped (tables_in h library answer literals locals)) (gate f es)
  gate_of None es there has = tt
  gate_of (Some f) es there has =
      let g : Tables = tables_in h library answer literals locals in
      let is = tied.answers f.number f.head there in
      bind_ends (ArePassedTo g f.head.params) (IsTyped g) (arguments f.head.params es) (λ es. demand f.head.entry NotEntry (Ok (EGate f.head.answer f.number es))) (arguments_typed g f.head.params es (tied.params f.number f.head there) has) (λ all passes.
      demand_ends (IsTyped g) f.head.entry NotEntry (Ok (EGate f.head.answer f.number all)) (λ entry. (
        is.0,
        subst (λ r. Enters r f.head.answer all) (sym there) (refl, is.1, passes.0, entry),
        passes.1,
      )))

  pub gate_typed : (b : BodyTree) (name : List ℕ) (es : TExprTrees) → AreTyped (tables_in h library answer literals locals) es → Ends (IsTyped (tables_in h library answer literals locals)) (gate (callee h b name) es)
  gate_typed b name es has = gate_of (callee h b name) es (head_there h (function_named h b name)) has

  one_long : (ps : List LocalTree) → are_one_long ps ≡ true → IsOneLong ps
  one_long [] is = cc
  one_long (p ∷ []) is = same_is p.ty (IntTy Long) is
  one_long (p ∷ (q ∷ ps)) is = cc

  -- the function takes and gives a long, and the value is one
  abbrev StartsWith : FunctionHead → TExprTree → Type 0
  StartsWith f e = (f.answer ≡ IntTy Long) × IsOneLong f.params × IsLong (tables_in h library answer literals locals) e

  first_typed : (f : FunctionHead) (e : TExprTree) → IsTyped (tables_in h library answer literals locals) e → Ends (StartsWith f) (first_value f e)
  first_typed f e has =
      let last : Checked TExprTree = Ok (converted (IntTy Long) e) in
      let fits : Checked TExprTree = demand (agrees (IntTy Long) e) Arguments last in
      demand_ends (StartsWith f) (is_scalar (category (type_of e))) NotInteger (demand (is_long f.answer && are_one_long f.params) Arguments fits) (λ scalar.
      demand_ends (StartsWith f) (is_long f.answer && are_one_long f.params) Arguments fits (λ right.
      demand_ends (StartsWith f) (agrees (IntTy Long) e) Arguments last (λ agree.
      let both = and_parts (is_long f.answer) (are_one_long f.params) right in (
        same_is f.answer (IntTy Long) both.0,
        one_long f.params both.1,
        (type_converted (IntTy Long) e, agreed (tables_in h library answer literals locals) (IntTy Long) e tt agree has),
      ))))

  spawn_of : (f : Option CalleeTree) (e : TExprTree) → IsThere h f → IsTyped (tables_in h library answer literals locals) e → Ends (IsTyped (tables_in h library answer literals locals)) (spawn library f e)
  spawn_of None e there has = tt
  spawn_of (Some f) e there has =
      let g : Tables = tables_in h library answer literals locals in
      bind_ends (StartsWith f.head) (IsTyped g) (first_value f.head e) (λ e. demand (nat_eq f.head.library library) CrossCall (Ok (ESpawn (IntTy Long) f.number e))) (first_typed f.head e has) (λ first starts.
      demand_ends (IsTyped g) (nat_eq f.head.library library) CrossCall (Ok (ESpawn (IntTy Long) f.number first)) (λ same. (
        tt,
        refl,
        subst (Starts library) (sym there) (starts.0, starts.1, eqb-true f.head.library library same),
        starts.2.0,
        starts.2.1,
      )))

  pub spawn_typed : (b : BodyTree) (name : List ℕ) (e : TExprTree) → IsTyped (tables_in h library answer literals locals) e → Ends (IsTyped (tables_in h library answer literals locals)) (spawn library (callee h b name) e)
  spawn_typed b name e has = spawn_of (callee h b name) e (head_there h (function_named h b name)) has

-- ---- operations of devices and threads

pub putc_typed : (g : Tables) (e : TExprTree) → IsTyped g e → Ends (IsTyped g) (putc e)
putc_typed g e has = bind_ends (IsLong g) (IsTyped g) (as_long (value_of e)) (λ e. Ok (EPutc VoidTy e)) (long_typed g (value_of e) (value_typed g e has)) (λ x is. (tt, refl, is.0, is.1))

pub store_typed : (g : Tables) (device register : ℕ) (e : TExprTree) → IsTyped g e → Ends (IsTyped g) (device_store device register e)
store_typed g device register e has = bind_ends (IsLong g) (IsTyped g) (as_long (value_of e)) (λ e. Ok (EDevStore VoidTy device register e)) (long_typed g (value_of e) (value_typed g e has)) (λ x is. (tt, refl, is.0, is.1))

pub switch_typed : (g : Tables) (e : TExprTree) → IsTyped g e → Ends (IsTyped g) (switch e)
switch_typed g e has = bind_ends (IsLong g) (IsTyped g) (as_long (value_of e)) (λ e. Ok (ESwitch VoidTy e)) (long_typed g (value_of e) (value_typed g e has)) (λ x is. (tt, refl, is.0, is.1))
