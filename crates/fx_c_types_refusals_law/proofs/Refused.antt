-- A program is refused where `IsRefused` says, and where it means none.
use Rattle.std.proofs.Common.{◌≡◌, ℕ, ◌+◌, ◌≤◌, Bool, true, false, List, [], ◌∷◌, ◌++◌, length, slice_get, Option, Some, None, Result, Ok, Err, refl, sym, ap, ◌∙◌, subst, arith, inl, inr}
use Rattle.std.specs.Prelude.{◌⊎◌, codes}
use Rattle.std.proofs.lemmas.List.{append-nil}
use Rattle.fx_c_types_rules.specs.declared.fault.TypeKind.{TypeKind}
use Rattle.fx_c_types_rules.specs.declared.fault.TypeKind.TheVariants.{NoMain}
use Rattle.fx_c_types_rules.specs.declared.fault.Fault.{Fault}
use Rattle.fx_c_types_rules.specs.declared.fault.Fault.TheVariants as fault
use Rattle.fx_c_types_rules.specs.Checks.{Checked, demand}
use Rattle.fx_c_types_heads.specs.Names.{found}
use Rattle.fx_c_types_heads.specs.Heads.{HeadsTree, FunctionHead, no_heads}
use Rattle.fx_c_types.specs.declared.fault.TypeError.{TypeError}
use Rattle.fx_c_types.specs.declared.fault.TypeError.TheVariants.{Rule, OutOfMemory}
use Rattle.fx_c_types.specs.Programs.{PlacedDecl, ProgramTree, BodiesTree, at_declaration, ◌>>>◌, tags_of, heads_of, no_bodies, body_of, bodies_of, is_start, main_at, main_of, main_number, program_of, well_typed}
use Rattle.fx_c_types.specs.ProgramView.{declarations}
use Rattle.fx_c_types_rules_law.specs.WholePrograms.{AreHeads, AreBodies, MeansProgram}
use Rattle.fx_c_types_rules_law.proofs.Ends.{of_answer}
use Rattle.fx_c_types_rules_law.proofs.ProgramRules.{heads_are, heads_hold, function_count, all_counted, bodies_are, bodies_hold, main_is, main_holds, program_is, program_holds}
use Rattle.fx_c_types_refusals_law.specs.Kinds.{kinds, first_broken, IsRefusedFor}
use Rattle.fx_c_types_refusals_law.specs.Heads.{breaks_head}
use Rattle.fx_c_types_refusals_law.specs.Refused as refused
use Rattle.fx_c_types_refusals_law.specs.Refused.{IsRefused}
use Rattle.fx_c_types_refusals_law.specs.Laws.{ProgramsAreRefused, RefusedWhereNoneIsMeant}
use Rattle.fx_c_types_refusals_law.proofs.Heads.{head_refused}
use Rattle.fx_c_types_refusals_law.proofs.Runs.{named, run, Stops, stops, stopped, head_step, body_step, heads_run, bodies_run}
use Rattle.fx_c_types_refusals_law.proofs.Rules.{Rules, passes, refuses, body_rules}

-- ---- heads that are refused

refused_is : {A : Type 0} (r : Checked A) (k : Option TypeKind) (kind : TypeKind) → IsRefusedFor r k → k ≡ Some kind → r ≡ Err (fault.Rule kind)
refused_is (Ok x) k kind h is = absurd cc
refused_is (Err (fault.Rule j)) k kind h is =
    let both : Some j ≡ Some kind = sym h ∙ is in
    let same : j ≡ kind = cc in
    ap (λ x. Err (fault.Rule x)) same
refused_is (Err fault.OutOfMemory) k kind h is = absurd h

head_broken : (h : HeadsTree) (d : PlacedDecl) (kind : TypeKind) → head_step h d ≡ Err (fault.Rule kind) → first_broken (breaks_head h d.decl) kinds ≡ Some kind
head_broken h d kind is = subst (λ r. IsRefusedFor r (first_broken (breaks_head h d.decl) kinds)) is (head_refused h d.library d.decl)

head_named : (h : HeadsTree) (d : PlacedDecl) → head_step h d ≡ Err fault.OutOfMemory → ⊥
head_named h d is = subst (λ r. IsRefusedFor r (first_broken (breaks_head h d.decl) kinds)) is (head_refused h d.library d.decl)

rules_named : {A : Type 0} (r : Checked A) → Rules r → r ≡ Err fault.OutOfMemory → ⊥
rules_named _ passes is = cc
rules_named _ refuses is = cc

body_named : (h : HeadsTree) (b : BodiesTree) (d : PlacedDecl) → body_step h b d ≡ Err fault.OutOfMemory → ⊥
body_named h b d is = rules_named (body_of h b d.decl) (body_rules h b d.decl) is

-- ---- the function that a program begins with

abbrev IsFoundOrNot : Checked ℕ → Type 0
IsFoundOrNot r = ((n : ℕ) × (r ≡ Ok n)) ⊎ (r ≡ Err (fault.Rule NoMain))

main_at_either : (f : Option FunctionHead) (n : ℕ) → IsFoundOrNot (main_at f n)
main_at_either None n = inr refl
main_at_either (Some f) n = pick (is_start f)
  where
    pick : (b : Bool) → IsFoundOrNot (demand b NoMain (Ok n))
    pick true = inl (n, refl)
    pick false = inr refl

main_either : (h : HeadsTree) → IsFoundOrNot (main_number h)
main_either h = pick (found (codes "main") h.function_names)
  where
    pick : (n : Option ℕ) → IsFoundOrNot (main_of h n)
    pick None = inr refl
    pick (Some n) = main_at_either (slice_get h.functions n) n

-- ---- what follows the heads, and what follows the bodies

abbrev behind_bodies : HeadsTree → BodiesTree → Result ProgramTree TypeError
behind_bodies h b = at_declaration 0 (main_number h) >>> (λ main. Ok (program_of h b main))

abbrev behind_heads : List PlacedDecl → HeadsTree → Result ProgramTree TypeError
behind_heads ds h = bodies_of 0 h no_bodies ds >>> (λ b. behind_bodies h b)

abbrev none : List PlacedDecl → HeadsTree
none ds = no_heads (tags_of [] ds)

by_heads : (ds : List PlacedDecl) (r : Result HeadsTree TypeError) → heads_of 0 (none ds) ds ≡ r → well_typed ds ≡ (r >>> (λ h. behind_heads ds h))
by_heads ds r is = ap (λ x. x >>> (λ h. behind_heads ds h)) is

by_bodies : (ds : List PlacedDecl) (h : HeadsTree) (r : Result BodiesTree TypeError) → heads_of 0 (none ds) ds ≡ Ok h → bodies_of 0 h no_bodies ds ≡ r → well_typed ds ≡ (r >>> (λ b. behind_bodies h b))
by_bodies ds h r heads is = by_heads ds (Ok h) heads ∙ ap (λ x. x >>> (λ b. behind_bodies h b)) is

by_main : (ds : List PlacedDecl) (h : HeadsTree) (b : BodiesTree) (r : Checked ℕ) → heads_of 0 (none ds) ds ≡ Ok h → bodies_of 0 h no_bodies ds ≡ Ok b → main_number h ≡ r → well_typed ds ≡ (at_declaration 0 r >>> (λ main. Ok (program_of h b main)))
by_main ds h b r heads bodies is = by_bodies ds h (Ok b) heads bodies ∙ ap (λ x. at_declaration 0 x >>> (λ main. Ok (program_of h b main))) is

-- ---- refused where it is said

placed : (kind : TypeKind) (n : ℕ) → Rule kind (0 + n) ≡ Rule kind n
placed kind n = let same : 0 + n ≡ n = omega arith in ap (λ k. Rule kind k) same

pub holds : (ds : List PlacedDecl) (kind : TypeKind) (n : ℕ) → IsRefused ds kind n → well_typed ds ≡ Err (Rule kind n)
holds _ _ _ (refused.head_refused {ds} {h} {kind} before d after split heads first) =
    let passed : run head_step 0 (none ds) before ≡ Ok h = sym (heads_run 0 (none ds) before) ∙ heads_hold 0 heads in
    let fails : head_step h d ≡ Err (fault.Rule kind) = refused_is (head_step h d) (first_broken (breaks_head h d.decl) kinds) kind (head_refused h d.library d.decl) first in
    by_heads ds (Err (Rule kind (0 + length before))) (heads_run 0 (none ds) ds ∙ ap (run head_step 0 (none ds)) split ∙ stopped head_step 0 (none ds) h before after d kind passed fails)
    ∙ ap (λ e. Err e) (placed kind (length before))
holds _ _ _ (refused.body_refused {ds} {h} {b} {kind} before d after split heads bodies fails) =
    let passed : run (body_step h) 0 no_bodies before ≡ Ok b = sym (bodies_run 0 h no_bodies before) ∙ bodies_hold 0 bodies in
    by_bodies ds h (Err (Rule kind (0 + length before))) (heads_hold 0 heads) (bodies_run 0 h no_bodies ds ∙ ap (run (body_step h) 0 no_bodies) split ∙ stopped (body_step h) 0 no_bodies b before after d kind passed fails)
    ∙ ap (λ e. Err e) (placed kind (length before))
holds _ _ _ (refused.main_missing {ds} {h} {b} heads bodies missing) = elim (main_either h) [
  | inl there ↦ absurd (missing there.0 (of_answer (main_number h) there.0 (main_is h) there.1))
  | inr not_there ↦ by_main ds h b (Err (fault.Rule NoMain)) (heads_hold 0 heads) (bodies_hold 0 bodies) not_there
]

-- ---- said where it is refused

counts : (ds es : List PlacedDecl) → function_count ds ≤ function_count (ds ++ es)
counts [] es = omega arith
counts (d ∷ ds) es = omega (arith, counts ds es)

module _ (ds : List PlacedDecl) where
  heads_passed : (n : ℕ) (before : List PlacedDecl) (h : HeadsTree) → run head_step n (none ds) before ≡ Ok h → AreHeads (none ds) before h
  heads_passed n before h passed = of_answer (heads_of n (none ds) before) h (heads_are n (none ds) before) (heads_run n (none ds) before ∙ passed)

  all_heads : (h : HeadsTree) → heads_of 0 (none ds) ds ≡ Ok h → AreHeads (none ds) ds h
  all_heads h is = of_answer (heads_of 0 (none ds) ds) h (heads_are 0 (none ds) ds) is

  bodies_fit : (h : HeadsTree) → heads_of 0 (none ds) ds ≡ Ok h → (before after : List PlacedDecl) → ds ≡ before ++ after → length no_bodies.functions + function_count before ≤ length h.functions
  bodies_fit h heads before after split =
      let all : length h.functions ≡ 0 + function_count ds = all_counted (all_heads h heads) in
      let same : function_count ds ≡ function_count (before ++ after) = ap function_count split in
      omega (arith, all, same, counts before after)

  bodies_passed : (h : HeadsTree) → heads_of 0 (none ds) ds ≡ Ok h → (before after : List PlacedDecl) (b : BodiesTree) → ds ≡ before ++ after → run (body_step h) 0 no_bodies before ≡ Ok b → AreBodies h no_bodies before b
  bodies_passed h heads before after b split passed =
      of_answer (bodies_of 0 h no_bodies before) b (bodies_are 0 h no_bodies before (bodies_fit h heads before after split)) (bodies_run 0 h no_bodies before ∙ passed)

  module _ (kind : TypeKind) (n : ℕ) (is : well_typed ds ≡ Err (Rule kind n)) where
    -- the refusal that stopped it is this one
    moved : (j : TypeKind) (place : ℕ) → Rule kind n ≡ Rule j (0 + place) → IsRefused ds j place → IsRefused ds kind n
    moved j place same h =
        let kinds_same : j ≡ kind = cc in
        let start : 0 + place ≡ n = cc in
        let places_same : place ≡ n = omega (arith, start) in
        subst (λ k. IsRefused ds k n) kinds_same (subst (λ m. IsRefused ds j m) places_same h)

    head_stop : (e : TypeError) → e ≡ Rule kind n → Stops head_step 0 (none ds) ds e → IsRefused ds kind n
    head_stop e same k = by k.refusal k.fails k.is
      where
        by : (f : Fault) → head_step k.reached k.here ≡ Err f → e ≡ named f (0 + length k.before) → IsRefused ds kind n
        by (fault.Rule j) fails at =
            moved j (length k.before) (sym same ∙ at)
            (refused.head_refused k.before k.here k.after k.split (heads_passed 0 k.before k.reached k.passed) (head_broken k.reached k.here j fails))
        by fault.OutOfMemory fails at = absurd (head_named k.reached k.here fails)

    body_stop : (h : HeadsTree) → heads_of 0 (none ds) ds ≡ Ok h → (e : TypeError) → e ≡ Rule kind n → Stops (body_step h) 0 no_bodies ds e → IsRefused ds kind n
    body_stop h heads e same k = by k.refusal k.fails k.is
      where
        by : (f : Fault) → body_step h k.reached k.here ≡ Err f → e ≡ named f (0 + length k.before) → IsRefused ds kind n
        by (fault.Rule j) fails at =
            moved j (length k.before) (sym same ∙ at)
            (refused.body_refused k.before k.here k.after k.split (all_heads h heads) (bodies_passed h heads k.before (k.here ∷ k.after) k.reached k.split k.passed) fails)
        by fault.OutOfMemory fails at = absurd (body_named h k.reached k.here fails)

    main_stop : (h : HeadsTree) (b : BodiesTree) → heads_of 0 (none ds) ds ≡ Ok h → bodies_of 0 h no_bodies ds ≡ Ok b → IsRefused ds kind n
    main_stop h b heads bodies = elim (main_either h) [
      | inl there ↦
          let passed : well_typed ds ≡ Ok (program_of h b there.0) = by_main ds h b (Ok there.0) heads bodies there.1 in
          absurd cc
      | inr not_there ↦
          let stop : well_typed ds ≡ Err (Rule NoMain 0) = by_main ds h b (Err (fault.Rule NoMain)) heads bodies not_there in
          let same : Rule kind n ≡ Rule NoMain 0 = cc in
          let kinds_same : NoMain ≡ kind = cc in
          let places_same : 0 ≡ n = cc in
          subst (λ k. IsRefused ds k n) kinds_same (subst (λ m. IsRefused ds NoMain m) places_same
          (refused.main_missing (all_heads h heads) (of_answer (bodies_of 0 h no_bodies ds) b (bodies_are 0 h no_bodies ds (bodies_fit h heads ds [] (sym (append-nil ds)))) bodies)
          (λ m main. let found_there : main_number h ≡ Ok m = main_holds main in cc)))
    ]

    after_heads : (h : HeadsTree) → heads_of 0 (none ds) ds ≡ Ok h → (r : Result BodiesTree TypeError) → bodies_of 0 h no_bodies ds ≡ r → IsRefused ds kind n
    after_heads h heads (Ok b) bodies = main_stop h b heads bodies
    after_heads h heads (Err e) bodies =
        let stop : well_typed ds ≡ Err e = by_bodies ds h (Err e) heads bodies in
        let same : e ≡ Rule kind n = cc in
        body_stop h heads e same (stops (body_step h) 0 no_bodies ds e (sym (bodies_run 0 h no_bodies ds) ∙ bodies))

    from_heads : (r : Result HeadsTree TypeError) → heads_of 0 (none ds) ds ≡ r → IsRefused ds kind n
    from_heads (Ok h) heads = after_heads h heads (bodies_of 0 h no_bodies ds) refl
    from_heads (Err e) heads =
        let stop : well_typed ds ≡ Err e = by_heads ds (Err e) heads in
        let same : e ≡ Rule kind n = cc in
        head_stop e same (stops head_step 0 (none ds) ds e (sym (heads_run 0 (none ds) ds) ∙ heads))

    pub said : IsRefused ds kind n
    said = from_heads (heads_of 0 (none ds) ds) refl

  -- ---- never for want of memory

  module _ (is : well_typed ds ≡ Err OutOfMemory) where
    head_never : (e : TypeError) → e ≡ OutOfMemory → Stops head_step 0 (none ds) ds e → ⊥
    head_never e same k = by k.refusal k.fails k.is
      where
        by : (f : Fault) → head_step k.reached k.here ≡ Err f → e ≡ named f (0 + length k.before) → ⊥
        by (fault.Rule j) fails at = let both : OutOfMemory ≡ Rule j (0 + length k.before) = sym same ∙ at in cc
        by fault.OutOfMemory fails at = head_named k.reached k.here fails

    body_never : (h : HeadsTree) (e : TypeError) → e ≡ OutOfMemory → Stops (body_step h) 0 no_bodies ds e → ⊥
    body_never h e same k = by k.refusal k.fails k.is
      where
        by : (f : Fault) → body_step h k.reached k.here ≡ Err f → e ≡ named f (0 + length k.before) → ⊥
        by (fault.Rule j) fails at = let both : OutOfMemory ≡ Rule j (0 + length k.before) = sym same ∙ at in cc
        by fault.OutOfMemory fails at = body_named h k.reached k.here fails

    main_never : (h : HeadsTree) (b : BodiesTree) → heads_of 0 (none ds) ds ≡ Ok h → bodies_of 0 h no_bodies ds ≡ Ok b → ⊥
    main_never h b heads bodies = elim (main_either h) [
      | inl there ↦ let passed : well_typed ds ≡ Ok (program_of h b there.0) = by_main ds h b (Ok there.0) heads bodies there.1 in cc
      | inr not_there ↦ let stop : well_typed ds ≡ Err (Rule NoMain 0) = by_main ds h b (Err (fault.Rule NoMain)) heads bodies not_there in cc
    ]

    bodies_never : (h : HeadsTree) → heads_of 0 (none ds) ds ≡ Ok h → (r : Result BodiesTree TypeError) → bodies_of 0 h no_bodies ds ≡ r → ⊥
    bodies_never h heads (Ok b) bodies = main_never h b heads bodies
    bodies_never h heads (Err e) bodies =
        let stop : well_typed ds ≡ Err e = by_bodies ds h (Err e) heads bodies in
        let same : e ≡ OutOfMemory = cc in
        body_never h e same (stops (body_step h) 0 no_bodies ds e (sym (bodies_run 0 h no_bodies ds) ∙ bodies))

    heads_never : (r : Result HeadsTree TypeError) → heads_of 0 (none ds) ds ≡ r → ⊥
    heads_never (Ok h) heads = bodies_never h heads (bodies_of 0 h no_bodies ds) refl
    heads_never (Err e) heads =
        let stop : well_typed ds ≡ Err e = by_heads ds (Err e) heads in
        let same : e ≡ OutOfMemory = cc in
        head_never e same (stops head_step 0 (none ds) ds e (sym (heads_run 0 (none ds) ds) ∙ heads))

    pub never : ⊥
    never = heads_never (heads_of 0 (none ds) ds) refl

pub programs_refused : ProgramsAreRefused
programs_refused files kind n = (λ h. holds (declarations files) kind n h, λ is. said (declarations files) kind n is)

pub none_meant : RefusedWhereNoneIsMeant
none_meant files = (λ broken p means. let passed : well_typed (declarations files) ≡ Ok p = program_holds means in let stop : well_typed (declarations files) ≡ Err (Rule broken.0 broken.1) = broken.2 in cc, λ unmeant. pick unmeant (well_typed (declarations files)) refl)
  where
    pick : ((p : ProgramTree) → MeansProgram (declarations files) p → ⊥) → (r : Result ProgramTree TypeError) → well_typed (declarations files) ≡ r → (kind : TypeKind) × (n : ℕ) × (well_typed (declarations files) ≡ Err (Rule kind n))
    pick unmeant (Ok p) is = absurd (unmeant p (of_answer (well_typed (declarations files)) p (program_is (declarations files)) is))
    pick unmeant (Err (Rule kind n)) is = (kind, n, is)
    pick unmeant (Err OutOfMemory) is = absurd (never (declarations files) is)
