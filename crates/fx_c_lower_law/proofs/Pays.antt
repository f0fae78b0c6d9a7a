-- Ops that are first in their piece and would be free pay what is owed.
use Rattle.std.proofs.Common.{◌≡◌, Bool, true, false, ℕ, ◌+◌, ◌-◌, ◌≤◌, inl, inr, List, [], ◌∷◌, ◌++◌, Some, refl, sym, ap, ◌∙◌, subst, arith}
use Rattle.std.specs.Prelude.{slice_get}
use Rattle.fx_c_ast.specs.declared.operator.IntType.{IntType}
use Rattle.fx_c_ast.specs.declared.operator.IntType.TheVariants.{Long, Ulong}
use Rattle.fx_c_ast.specs.declared.operator.Binop.{Binop}
use Rattle.fx_c_ast.specs.declared.operator.Binop.TheVariants.{Add, Sub}
use Rattle.fx_c_ast.specs.CheckedTrees.{TyTree, IntTy, PtrTy, TExprTree}
use Rattle.fx_c_mean_blocks.specs.declared.value.Value.{Value}
use Rattle.fx_c_mean_blocks.specs.declared.block.Object.{Object}
use Rattle.fx_c_mean_model.specs.declared.rights.Rights.{Rights}
use Rattle.fx_c_mean_model.specs.Programs.{Program}
use Rattle.fx_c_mean_model.specs.States.{Call, Frame, Second, Combines, Discards, Spot, type_of, start, give}
use Rattle.fx_c_lin.specs.declared.op.Right.{Right}
use Rattle.fx_c_lin.specs.declared.op.Right.TheVariants as right
use Rattle.fx_c_lin.specs.Ops as op
use Rattle.fx_c_lin.specs.Machine as lin
use Rattle.fx_c_lin.specs.Machine.{At, word_of, settle, free_op}
use Rattle.fx_c_lower_model.specs.Steps.{costing, is_comparison}
use Rattle.fx_c_lower_model.specs.Direct.{Direct, direct, right_of, right_owed, right_len}
use Rattle.fx_c_lower_model.specs.Operands.{left_code, left_len, left_late, combine_code, combine_len}
use Rattle.fx_c_lower_model.specs.Late.{value_late}
use Rattle.fx_c_lower_model.specs.Lengths.{value_len}
use Rattle.fx_c_lower_model.specs.Code.{right_code, value_code}
use Rattle.fx_c_lower_law.specs.Fits.{FitsPair}
use Rattle.fx_c_lower_law.proofs.Places.{HasAt}
use Rattle.fx_c_lower_law.proofs.Relation.{is_wide, if_widened, left_word, right_word, combine_op}
use Rattle.fx_c_lower_law.proofs.Relation as relation
use Rattle.fx_c_lower_law.proofs.Costs.{Costs, costly, settle_here, left_pays, right_pays}
use Rattle.fx_c_lower_law.proofs.Costs as costs
use Rattle.fx_c_lower_law.proofs.Reach.{right_view}
use Rattle.fx_c_lower_law.proofs.Gives.{pays}
use Rattle.fx_c_lower_law.proofs.Gives as giving
use Rattle.fx_c_lower_law.proofs.Lands.{settle_free}
use Rattle.fx_c_lower_law.proofs.Lands as lands

-- an integer below a pointer that is widened
record WideLeft (o : Binop) (s t : TyTree) (owed : ℕ) (v : Value) : Type 0 where
  i : IntType
  code : left_code o owed s t ≡ costing owed (op.Convert i Long) ∷ []
  len : left_len o s t ≡ 1
  late : left_late o owed s t ≡ 0
  word : left_word s t v ≡ lin.conversion_of (op.Convert i Long) v
  pending : (d : Direct) → right_of o s t d ≡ right.Pending

wide_left : (o : Binop) (s t : TyTree) (owed : ℕ) (v : Value) → left_pays o s t ≡ true → WideLeft o s t owed v
wide_left Add (IntTy Long) (PtrTy t) owed v e = absurd cc
wide_left Add (IntTy Ulong) (PtrTy t) owed v e = absurd cc
wide_left Add (IntTy i) (PtrTy t) owed v e = record { i = i; code = refl; len = refl; late = refl; word = refl; pending = λ d. refl }
wide_left o s t owed v e = absurd cc

no_compare : (o : Binop) (s t : TyTree) → left_pays o s t ≡ true → is_comparison o ≡ true → ⊥
no_compare Add s t e h = absurd cc
no_compare o s t e h = absurd cc

module _ (p : Program) (all : List (List op.Step)) (memory : List Object) (c : Call) where
  abbrev K : List op.Step
  K = relation.K p all c

  abbrev Awaits : (owed : ℕ) → List Frame → ℕ → List Value → Type 0
  Awaits owed rest at stack = relation.Awaits p all c owed rest at stack

  abbrev SpotAt : Spot → lin.Spot → Type 0
  SpotAt spot there = relation.SpotAt p all memory c 0 spot there

  -- the first op costs what is owed, and behind it the source is met
  pub record Pays (owed : ℕ) (rest : List Frame) (at : ℕ) (v : Value) (stack : List Value) : Type 0 where
    pub first : op.Op
    pub to : ℕ
    pub after : List Value
    pub here : slice_get K at ≡ Some (costing owed first)
    pub does : free_op first at (word_of v ∷ stack) ≡ Some (to, after)
    pub runs : (r : Rights) (m : lin.State) (answer : ℕ) → lin.perform p r answer m at first (word_of v ∷ stack) ≡ lin.goes_to m to after
    pub loads : lin.is_load first ≡ false
    pub crosses : (cs : List lin.Saved) → lin.more_cost first cs ≡ 0
    pub meets : (n : ℕ) → 2 ≤ n → SpotAt (give v rest) (settle K n to after)

  -- an integer above a pointer is widened, and then the pointer moved
  widens : (i : IntType) (o : Binop) (t : TyTree) (w : Value) (rest : List Frame) (owed at : ℕ) (v : Value) (stack : List Value) → is_wide i ≡ true → FitsPair o (PtrTy t) (IntTy i) → HasAt K at (costing owed (op.Convert i Long) ∷ costing 1 (combine_op p right.Pending o (PtrTy t) (IntTy i)) ∷ []) → (below : List Value) → stack ≡ word_of w ∷ below → Awaits 0 rest (at + 2) below → Pays owed (Combines o (PtrTy t) (IntTy i) w ∷ rest) at v stack
  widens i o t w rest owed at v stack wide fits has below e h =
      let k : Costs K (at + 1) 1 = record { step = _; here = has.1.0; least = omega arith } in
      let q : at + 2 ≡ at + 1 + 1 = omega arith in
      let x : lin.conversion_of (op.Convert i Long) (word_of v) ≡ right_word (PtrTy t) (IntTy i) (word_of v) = sym (ap (λ b. if_widened b i (word_of v)) wide) in
      record {
        first = op.Convert i Long;
        to = at + 1;
        after = lin.conversion_of (op.Convert i Long) (word_of v) ∷ stack;
        here = has.0;
        does = refl;
        runs = λ r m answer. refl;
        loads = refl;
        crosses = λ cs. refl;
        meets = λ n le. rw (settle_here K n (at + 1) (lin.conversion_of (op.Convert i Long) (word_of v) ∷ stack) k)
            (right.Pending, below, fits, ap (λ y. y ∷ stack) x ∙ ap (λ l. right_word (PtrTy t) (IntTy i) (word_of v) ∷ l) e, inl ((has.1.0, tt), subst (λ j. Awaits 0 rest j below) q h, refl));
      }

  moves : (i : IntType) (o : Binop) (t : TyTree) (w : Value) (rest : List Frame) (owed at : ℕ) (v : Value) (stack : List Value) → is_wide i ≡ true → Awaits owed (Combines o (PtrTy t) (IntTy i) w ∷ rest) at stack → Pays owed (Combines o (PtrTy t) (IntTy i) w ∷ rest) at v stack
  moves Long o t w rest owed at v stack wide h = absurd cc
  moves Ulong o t w rest owed at v stack wide h = absurd cc
  moves i Add t w rest owed at v stack wide h = on h.3 where
    on : relation.Combined p all c owed (λ at stack. Awaits 0 rest at stack) (λ cost b to below. relation.Turns p all c rest cost b to below) right.Pending Add (PtrTy t) (IntTy i) at h.0 → Pays owed (Combines Add (PtrTy t) (IntTy i) w ∷ rest) at v stack
    on (inl k) = widens i Add t w rest owed at v stack wide h.2 k.0 h.0 h.1 k.1
    on (inr k) = let e : false ≡ true = k.0 in absurd cc
  moves i Sub t w rest owed at v stack wide h = on h.3 where
    on : relation.Combined p all c owed (λ at stack. Awaits 0 rest at stack) (λ cost b to below. relation.Turns p all c rest cost b to below) right.Pending Sub (PtrTy t) (IntTy i) at h.0 → Pays owed (Combines Sub (PtrTy t) (IntTy i) w ∷ rest) at v stack
    on (inl k) = widens i Sub t w rest owed at v stack wide h.2 k.0 h.0 h.1 k.1
    on (inr k) = let e : false ≡ true = k.0 in absurd cc
  moves i o t w rest owed at v stack wide h = absurd h.2

  combines : (s t : TyTree) (o : Binop) (w : Value) (rest : List Frame) (owed at : ℕ) (v : Value) (stack : List Value) → right_pays s t ≡ true → Awaits owed (Combines o s t w ∷ rest) at stack → Pays owed (Combines o s t w ∷ rest) at v stack
  combines (PtrTy t) (IntTy i) o w rest owed at v stack e h = moves i o t w rest owed at v stack e h
  combines s t o w rest owed at v stack e h = absurd cc

  -- an integer is widened, and then the pointer evaluated
  seconds : (o : Binop) (first : TyTree) (b : TExprTree) (rest : List Frame) (owed at : ℕ) (v : Value) (stack : List Value) → left_pays o first (type_of b) ≡ true → Awaits owed (Second o first b ∷ rest) at stack → Pays owed (Second o first b ∷ rest) at v stack
  seconds o first b rest owed at v stack e h = on h.2 where
    n : WideLeft o first (type_of b) owed (word_of v)
    n = wide_left o first (type_of b) owed (word_of v) e

    r : Right
    r = right_of o first (type_of b) (direct p b)

    on : relation.SecondAt p all c owed (λ at stack. Awaits 0 rest at stack) (λ cost b to below. relation.Turns p all c rest cost b to below) r o first b at stack → Pays owed (Second o first b ∷ rest) at v stack
    on (inr k) = absurd (no_compare o first (type_of b) e k.0)
    on (inl k) =
        let h1 = subst (λ l. HasAt K at (l ++ (right_code r (value_code p (at + left_len o first (type_of b)) (left_late o owed first (type_of b)) b) ++ combine_code p (right_owed r (direct p b) (left_late o owed first (type_of b)) (value_late p b)) r o first (type_of b)))) n.code k.0 in
        let h2 = subst (λ i. HasAt K (at + 1) (right_code r (value_code p (at + i) (left_late o owed first (type_of b)) b) ++ combine_code p (right_owed r (direct p b) (left_late o owed first (type_of b)) (value_late p b)) r o first (type_of b))) n.len h1.1 in
        let h3 = subst (λ i. HasAt K (at + 1) (right_code r (value_code p (at + 1) i b) ++ combine_code p (right_owed r (direct p b) i (value_late p b)) r o first (type_of b))) n.late h2 in
        let h4 = subst (λ x. HasAt K (at + 1) (right_code x (value_code p (at + 1) 0 b) ++ combine_code p (right_owed r (direct p b) 0 (value_late p b)) r o first (type_of b))) (n.pending (direct p b)) h3 in
        let cost : Costs K (at + 1) 1 = costs.start_owes p b K (at + 1) (at + 1) 0 _ h4 in
        let there = giving.second_start p all memory c o first b v r refl (right_view o first (type_of b) (direct p b)) h.0 h.1 0 (at + 1) rest stack h3
        (subst (λ i. Awaits 0 rest (at + i + (right_len r (value_len p b) + combine_len r o first (type_of b))) stack) n.len k.1) in
        record {
          first = op.Convert n.i Long;
          to = at + 1;
          after = lin.conversion_of (op.Convert n.i Long) (word_of v) ∷ stack;
          here = h1.0;
          does = refl;
          runs = λ r m answer. refl;
          loads = refl;
          crosses = λ cs. refl;
          meets = λ m le. rw (settle_here K m (at + 1) (lin.conversion_of (op.Convert n.i Long) (word_of v) ∷ stack) cost)
              (subst (λ w. SpotAt (start b (Combines o first (type_of b) v ∷ rest)) (At (at + 1) (w ∷ stack))) n.word there);
        }

  pub payer : (rest : List Frame) (owed at : ℕ) (v : Value) (stack : List Value) → pays rest ≡ true → Awaits owed rest at stack → Pays owed rest at v stack
  payer (Discards ∷ rest) owed at v stack e h =
      rw h.0 (record { first = op.Drop; to = at + 1; after = []; here = h.1.0; does = refl; runs = λ r m answer. refl; loads = refl; crosses = λ cs. refl; meets = (lands.done_at p all memory c rest (at + 1) h.2).by })
  payer (Second o first b ∷ rest) owed at v stack e h = seconds o first b rest owed at v stack e h
  payer (Combines o s t w ∷ rest) owed at v stack e h = combines s t o w rest owed at v stack e h
  payer rest owed at v stack e h = absurd cc

  -- other frames' ops cost more than what is owed
  pub kept_paid : (rest : List Frame) (owed : ℕ) → pays rest ≡ false → costs.paid p all rest owed ≡ 1 + owed
  kept_paid [] owed e = refl
  kept_paid (Discards ∷ rest) owed e = absurd cc
  kept_paid (Second o first b ∷ rest) owed e = ap (λ x. costs.either_paid p all x owed) e
  kept_paid (Combines o s t w ∷ rest) owed e = ap (λ x. costs.either_paid p all x owed) e
  kept_paid (x ∷ rest) owed e = refl

  -- a value is given where the code has come, with nothing owed
  pub value_at : (rest : List Frame) (at : ℕ) (v : Value) (stack : List Value) (n : ℕ) → 3 ≤ n → Awaits 0 rest at stack → SpotAt (give v rest) (settle K n at (word_of v ∷ stack))
  value_at rest at v stack n le h = on (pays rest) refl where
    on : (b : Bool) → pays rest ≡ b → SpotAt (give v rest) (settle K n at (word_of v ∷ stack))
    on true e =
        let x = payer rest 0 at v stack e h in
        rw (settle_free K n at (word_of v ∷ stack) x.first x.to x.after (omega (arith, le)) x.here x.does) (x.meets (n - 1) (omega (arith, le)))
    on false e =
        rw (settle_here K n at (word_of v ∷ stack) (costly K at _ 1 (omega (arith, kept_paid rest 0 e)) (costs.owes p all rest c 0 at stack h)))
        (giving.give_at p all memory c rest 0 at v stack e h)
