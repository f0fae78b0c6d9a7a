-- The judgements of names and calls, and the definitions that decide them.
use Rattle.std.proofs.Common.{◌≡◌, ◌⊎◌, inl, inr, ℕ, true, List, [], ◌∷◌, Option, Some, None, refl, sym, ap, ◌∙◌, subst, Ok}
use Rattle.std.specs.Prelude.{slice_get}
use Rattle.std.proofs.lemmas.Bool.{eqb-true, eq-eqb, and_parts, and_from}
use Rattle.fx_c_ast.specs.declared.operator.IntType.TheVariants.{Long}
use Rattle.fx_c_ast.specs.CheckedTrees.{IntTy, TExprTree, TExprTrees, NoTExprs, MoreTExprs}
use Rattle.fx_c_types_heads.specs.Names.{found}
use Rattle.fx_c_types_rules.specs.Types.{category}
use Rattle.fx_c_types_rules.specs.Values.{type_of, is_scalar, agrees}
use Rattle.fx_c_types_rules.specs.Locals.{LocalTree}
use Rattle.fx_c_types_rules.specs.Calls.{are_scalars, are_passed, passed, arguments}
use Rattle.fx_c_types_heads.specs.Heads.{HeadsTree, FunctionHead}
use Rattle.fx_c_types_bodies.specs.Bodies.{BodyTree, or_found, in_blocks, local_named, unless_hidden, CalleeTree, numbered, head_numbered, callee, call, gate, is_long, are_one_long, first_value, spawn}
use Rattle.fx_c_types_rules_law.specs.Types.{IsScalar}
use Rattle.fx_c_types_rules_law.specs.Values.{Converts, IsAssignable}
use Rattle.fx_c_types_rules_law.specs.Calls as judged
use Rattle.fx_c_types_rules_law.specs.Calls.{IsUndeclared, no_block, not_in_block, Designates, declared_here, declared_inside, IsFunction, ArePassed, no_argument, one_argument, CallGives, plain_call, GateGives, gate_call, AreOneLong, one_long, SpawnGives, thread_start}
use Rattle.fx_c_types_rules_law.proofs.Ends.{Ends, answered, bind_ends, demand_ends, bind_ok, demand_ok}
use Rattle.fx_c_types_rules_law.proofs.TypeRules.{same_is, scalar_is, scalar_holds}
use Rattle.fx_c_types_rules_law.proofs.ValueRules.{assignable_is, assignable_holds, converts_is, converts_holds}

-- ---- names

abbrev Scoped : Option ℕ → List ℕ → List (List (List ℕ × ℕ)) → Type 0
Scoped outer name blocks =
    (IsUndeclared name blocks × (in_blocks outer name blocks ≡ outer))
    ⊎ ((n : ℕ) × Designates name blocks n × (in_blocks outer name blocks ≡ Some n))

here : (outer : Option ℕ) (name : List ℕ) (b : List (List ℕ × ℕ)) (bs : List (List (List ℕ × ℕ))) (r : Option ℕ) → found name b ≡ r → Scoped (or_found outer r) name bs → Scoped outer name (b ∷ bs)
here outer name b bs None is (inl h) = inl (not_in_block is h.0, ap (λ r. in_blocks (or_found outer r) name bs) is ∙ h.1)
here outer name b bs None is (inr h) = inr (h.0, declared_inside h.1, ap (λ r. in_blocks (or_found outer r) name bs) is ∙ h.2)
here outer name b bs (Some n) is (inl h) = inr (n, declared_here is h.0, ap (λ r. in_blocks (or_found outer r) name bs) is ∙ h.1)
here outer name b bs (Some n) is (inr h) = inr (h.0, declared_inside h.1, ap (λ r. in_blocks (or_found outer r) name bs) is ∙ h.2)

scoped : (outer : Option ℕ) (name : List ℕ) (blocks : List (List (List ℕ × ℕ))) → Scoped outer name blocks
scoped outer name [] = inl (no_block, refl)
scoped outer name (b ∷ bs) = here outer name b bs (found name b) refl (scoped (or_found outer (found name b)) name bs)

pub local_cases : (b : BodyTree) (name : List ℕ) → (IsUndeclared name b.blocks × (local_named b name ≡ None)) ⊎ ((n : ℕ) × Designates name b.blocks n × (local_named b name ≡ Some n))
local_cases b name = scoped None name b.blocks

pub undeclared_holds : {name : List ℕ} {blocks : List (List (List ℕ × ℕ))} (outer : Option ℕ) → IsUndeclared name blocks → in_blocks outer name blocks ≡ outer
undeclared_holds outer no_block = refl
undeclared_holds outer (not_in_block {name} {block} {inner} is h) = ap (λ r. in_blocks (or_found outer r) name inner) is ∙ undeclared_holds outer h

pub designates_holds : {name : List ℕ} {blocks : List (List (List ℕ × ℕ))} {n : ℕ} (outer : Option ℕ) → Designates name blocks n → in_blocks outer name blocks ≡ Some n
designates_holds outer (declared_here {name} {block} {inner} {n} is h) = ap (λ r. in_blocks (or_found outer r) name inner) is ∙ undeclared_holds (Some n) h
designates_holds outer (declared_inside {name} {block} {inner} {n} h) = designates_holds (or_found outer (found name block)) h

numbered_is : (h : HeadsTree) (b : BodyTree) (name : List ℕ) (n : ℕ) (r : Option FunctionHead) (f : CalleeTree) → IsUndeclared name b.blocks → found name h.function_names ≡ Some n → slice_get h.functions n ≡ r → numbered n r ≡ Some f → IsFunction h b.blocks name f.number f.head
numbered_is h b name n None f und is at e = absurd cc
numbered_is h b name n (Some g) f und is at e =
    let same : record { number = n; head = g } ≡ f = some_is (record { number = n; head = g }) f e in
    subst (λ (f : CalleeTree). IsFunction h b.blocks name f.number f.head) same (judged.function_named und is at)
  where
    some_is : (x y : CalleeTree) → Some x ≡ Some y → x ≡ y
    some_is x y e = cc

callee_at : (h : HeadsTree) (b : BodyTree) (name : List ℕ) (r : Option ℕ) (f : CalleeTree) → IsUndeclared name b.blocks → found name h.function_names ≡ r → head_numbered h r ≡ Some f → IsFunction h b.blocks name f.number f.head
callee_at h b name None f und is e = absurd cc
callee_at h b name (Some n) f und is e = numbered_is h b name n (slice_get h.functions n) f und is refl e

pub callee_is : (h : HeadsTree) (b : BodyTree) (name : List ℕ) (f : CalleeTree) → callee h b name ≡ Some f → IsFunction h b.blocks name f.number f.head
callee_is h b name f e = elim (local_cases b name) [
  | inl x ↦ callee_at h b name (found name h.function_names) f x.0 refl (sym (ap (λ r. head_numbered h (unless_hidden r (found name h.function_names))) x.1) ∙ e)
  | inr x ↦ let none : head_numbered h (unless_hidden (Some x.0) (found name h.function_names)) ≡ Some f = sym (ap (λ r. head_numbered h (unless_hidden r (found name h.function_names))) x.2) ∙ e in absurd cc
]

pub callee_holds : {h : HeadsTree} {name : List ℕ} {n : ℕ} {f : FunctionHead} (b : BodyTree) → IsFunction h b.blocks name n f → callee h b name ≡ Some (record { number = n; head = f })
callee_holds b has = found_callee b b.blocks refl has
  where
    found_callee : {h : HeadsTree} {name : List ℕ} {n : ℕ} {f : FunctionHead} (b : BodyTree) (blocks : List (List (List ℕ × ℕ))) → b.blocks ≡ blocks → IsFunction h blocks name n f → callee h b name ≡ Some (record { number = n; head = f })
    found_callee b blocks same (judged.function_named {h} {blocks = ds} {name} {n} {f} und is at) =
        ap (λ bs. head_numbered h (unless_hidden (in_blocks None name bs) (found name h.function_names))) same
        ∙ ap (λ r. head_numbered h (unless_hidden r (found name h.function_names))) (undeclared_holds None und)
        ∙ ap (head_numbered h) is ∙ ap (numbered n) at

-- ---- arguments

passed_is : (ps : List LocalTree) (es : TExprTrees) → are_scalars es ≡ true → are_passed ps es ≡ true → ArePassed ps es (passed ps es)
passed_is [] NoTExprs h k = no_argument
passed_is [] (MoreTExprs e rest) h k = absurd cc
passed_is (p ∷ ps) NoTExprs h k = absurd cc
passed_is (p ∷ ps) (MoreTExprs e rest) h k =
    let scalars = and_parts (is_scalar (category (type_of e))) (are_scalars rest) h in
    let agree = and_parts (agrees p.ty e) (are_passed ps rest) k in
    one_argument (scalar_is (type_of e) scalars.0) (assignable_is p.ty e agree.0) (converts_is p.ty e) (passed_is ps rest scalars.1 agree.1)

pub arguments_are : (ps : List LocalTree) (es : TExprTrees) → Ends (ArePassed ps es) (arguments ps es)
arguments_are ps es = demand_ends _ _ _ (λ h. demand_ends _ _ _ (λ k. answered (passed_is ps es h k)))

scalars_hold : {ps : List LocalTree} {es vs : TExprTrees} → ArePassed ps es vs → are_scalars es ≡ true
scalars_hold no_argument = refl
scalars_hold (one_argument {p} {ps} {e} {v} {es} {vs} scalar agree c more) = and_from (is_scalar (category (type_of e))) (are_scalars es) (scalar_holds scalar) (scalars_hold more)

agreements_hold : {ps : List LocalTree} {es vs : TExprTrees} → ArePassed ps es vs → are_passed ps es ≡ true
agreements_hold no_argument = refl
agreements_hold (one_argument {p} {ps} {e} {v} {es} {vs} scalar agree c more) = and_from (agrees p.ty e) (are_passed ps es) (assignable_holds agree) (agreements_hold more)

passed_hold : {ps : List LocalTree} {es vs : TExprTrees} → ArePassed ps es vs → passed ps es ≡ vs
passed_hold no_argument = refl
passed_hold (one_argument {p} {ps} {e} {v} {es} {vs} scalar agree c more) = ap (λ x. MoreTExprs x (passed ps es)) (converts_holds c) ∙ ap (MoreTExprs v) (passed_hold more)

pub arguments_hold : {ps : List LocalTree} {es vs : TExprTrees} → ArePassed ps es vs → arguments ps es ≡ Ok vs
arguments_hold h = demand_ok _ _ _ _ (scalars_hold h) (demand_ok _ _ _ _ (agreements_hold h) (ap Ok (passed_hold h)))

-- ---- calls

pub call_is : (library : ℕ) (f : CalleeTree) (es : TExprTrees) → Ends (CallGives library f.number f.head es) (call library (Some f) es)
call_is library f es = bind_ends _ _ (arguments_are f.head.params es) (λ vs passes. demand_ends _ _ _ (λ same. answered (plain_call (eqb-true f.head.library library same) passes)))

pub call_holds : {library n : ℕ} {f : FunctionHead} {es : TExprTrees} {t : TExprTree} → CallGives library n f es t → call library (Some (record { number = n; head = f })) es ≡ Ok t
call_holds (plain_call {library} {n} {f} {es} {vs} same passes) = bind_ok _ _ _ _ (arguments_hold passes) (demand_ok _ _ _ _ (eq-eqb f.library library same) refl)

pub gate_is : (f : CalleeTree) (es : TExprTrees) → Ends (GateGives f.number f.head es) (gate (Some f) es)
gate_is f es = bind_ends _ _ (arguments_are f.head.params es) (λ vs passes. demand_ends _ _ _ (λ entry. answered (gate_call entry passes)))

pub gate_holds : {n : ℕ} {f : FunctionHead} {es : TExprTrees} {t : TExprTree} → GateGives n f es t → gate (Some (record { number = n; head = f })) es ≡ Ok t
gate_holds (gate_call {n} {f} {es} {vs} entry passes) = bind_ok _ _ _ _ (arguments_hold passes) (demand_ok _ _ _ _ entry refl)

one_long_is : (ps : List LocalTree) → are_one_long ps ≡ true → AreOneLong ps
one_long_is [] h = absurd cc
one_long_is (p ∷ []) h = one_long (same_is p.ty (IntTy Long) h)
one_long_is (p ∷ (q ∷ ps)) h = absurd cc

one_long_holds : {ps : List LocalTree} → AreOneLong ps → are_one_long ps ≡ true
one_long_holds (one_long {p} is) = ap is_long is

pub spawn_is : (library : ℕ) (f : CalleeTree) (e : TExprTree) → Ends (SpawnGives library f.number f.head e) (spawn library (Some f) e)
spawn_is library f e =
    bind_ends _ _ (first_is e) (λ v first. demand_ends _ _ _ (λ same. answered (thread_start (eqb-true f.head.library library same) first.0 first.1 first.2 first.3 first.4)))
  where
    first_is : (e : TExprTree) → Ends (λ v. (f.head.answer ≡ IntTy Long) × AreOneLong f.head.params × IsScalar (type_of e) × IsAssignable (IntTy Long) e × Converts (IntTy Long) e v) (first_value f.head e)
    first_is e = demand_ends _ _ _ (λ scalar. demand_ends _ _ _ (λ long. demand_ends _ _ _ (λ agree.
        let both = and_parts (is_long f.head.answer) (are_one_long f.head.params) long in
        answered (same_is f.head.answer (IntTy Long) both.0, one_long_is f.head.params both.1, scalar_is (type_of e) scalar, assignable_is (IntTy Long) e agree, converts_is (IntTy Long) e))))

pub spawn_holds : {library n : ℕ} {f : FunctionHead} {e t : TExprTree} → SpawnGives library n f e t → spawn library (Some (record { number = n; head = f })) e ≡ Ok t
spawn_holds (thread_start {library} {n} {f} {e} {v} same long one scalar agree c) =
    bind_ok _ _ _ _
    (demand_ok _ _ _ _ (scalar_holds scalar) (demand_ok _ _ _ _ (and_from (is_long f.answer) (are_one_long f.params) (ap is_long long) (one_long_holds one)) (demand_ok _ _ _ _ (assignable_holds agree) (ap Ok (converts_holds c)))))
    (demand_ok _ _ _ _ (eq-eqb f.library library same) refl)
