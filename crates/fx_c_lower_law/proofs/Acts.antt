-- Steps of the source that are done by an op, or quietly before one: all but truths, calls and statements.
use Rattle.std.proofs.Common.{◌≡◌, Bool, true, false, ℕ, ◌+◌, ◌-◌, ◌≤◌, ◌⊎◌, inl, inr, List, [], ◌∷◌, Some, Result, refl, sym, ap, ◌∙◌, subst, arith}
use Rattle.std.specs.Prelude.{slice_get}
use Rattle.fx_c_ast.specs.declared.operator.Binop.{Binop}
use Rattle.fx_c_ast.specs.CheckedTrees.{TyTree, IntTy, PtrTy}
use Rattle.fx_c_mean_blocks.specs.declared.value.Value.{Value}
use Rattle.fx_c_mean_blocks.specs.declared.value.Value.TheVariants.{Number}
use Rattle.fx_c_mean_blocks.specs.declared.fault.Fault.{Fault}
use Rattle.fx_c_mean_model.specs.declared.rights.Rights.{Rights}
use Rattle.fx_c_mean_model.specs.Programs.{Program}
use Rattle.fx_c_mean_model.specs.States.{Call, Frame, Loads, Converts, Combines, Target, Into, Act, LocalAddress, Spot, Does, give}
use Rattle.fx_c_mean_model.specs.Steps as source
use Rattle.fx_c_mean_model.specs.Steps.{place_of}
use Rattle.fx_c_mean_model.specs.Expected.{is_ask}
use Rattle.fx_c_lin.specs.declared.op.Right.{Right}
use Rattle.fx_c_lin.specs.declared.op.Right.TheVariants as right
use Rattle.fx_c_lin.specs.Ops as op
use Rattle.fx_c_lin.specs.Machine as lin
use Rattle.fx_c_lin.specs.Machine.{Saved, At, word_of}
use Rattle.fx_c_lower_model.specs.Steps.{costing}
use Rattle.fx_c_lower_law.proofs.Places.{HasAt}
use Rattle.fx_c_lower_law.proofs.Relation.{Knows, places_of, number_in_op}
use Rattle.fx_c_lower_law.proofs.Relation as relation
use Rattle.fx_c_lower_law.proofs.Costs.{Costs, costly}
use Rattle.fx_c_lower_law.proofs.Costs as costs
use Rattle.fx_c_lower_law.proofs.Reach as reaching
use Rattle.fx_c_lower_law.proofs.Gives.{pays}
use Rattle.fx_c_lower_law.proofs.Gives as giving
use Rattle.fx_c_lower_law.proofs.Pays as paying
use Rattle.fx_c_lower_law.proofs.Below as below
use Rattle.fx_c_lower_law.proofs.Results as results

module _ (p : Program) (r : Rights) (all : List (List op.Step)) (s : source.State) (us : List lin.Thread) (cs : List Saved) (waiting : relation.ThreadsAt p all (places_of s.memory) s.threads us) (knows : Knows p (places_of s.memory) s.call) where
  abbrev pub c : Call
  c = s.call

  abbrev pub K : List op.Step
  K = relation.K p all c

  abbrev pub Res : ℕ → Act → List Frame → ℕ → List Value → Type 0
  Res owed now rest at stack = results.Result2 p r all owed s now rest (results.built p r all s us cs (At at stack))

  abbrev pub ActAt : ℕ → Act → List Frame → ℕ → List Value → Type 0
  ActAt owed now rest at stack = relation.ActAt p all s.memory c owed now rest at stack

  abbrev pub SpotAt : ℕ → Spot → ℕ → List Value → Type 0
  SpotAt owed spot at stack = relation.SpotAt p all s.memory c owed spot (At at stack)

  abbrev pub Awaits : (owed : ℕ) → List Frame → ℕ → List Value → Type 0
  Awaits owed rest at stack = relation.Awaits p all c owed rest at stack

  abbrev pub Leaves : List Frame → Type 0
  Leaves rest = relation.Leaves p all (places_of s.memory) rest cs

  -- ---- forms of steps

  -- the op at the place does the step
  pub made : (owed : ℕ) (now : Act) (rest : List Frame) (at : ℕ) (stack : List Value) (x : op.Step) → slice_get K at ≡ Some x → 1 ≤ x.cost → (x.cost - 1) + lin.more_cost x.op cs ≡ owed + source.act_extra p (Does now rest) → lin.is_load x.op ≡ is_ask (Does now rest) → ((answer : ℕ) → results.Same p r all (source.perform p r answer s (Does now rest)) (lin.perform p r answer (results.built p r all s us cs (At at stack)) at x.op stack)) → Res owed now rest at stack
  made owed now rest at stack x e le k l h =
      results.Makes (λ answer. results.at_op p r all s us cs waiting answer at stack x _ e (h answer)) (results.cost_of p r all s us cs waiting at stack x _ e k) (results.asks_of p r all s us cs waiting at stack x _ e le l) (results.goes_of p r all s us cs waiting at stack x e le)

  -- a value is given and nothing made
  pub gave : (rest : List Frame) (at to : ℕ) (v : Value) (old stack : List Value) → Leaves rest → Awaits 0 rest to stack → results.Same p r all (source.gives s rest v) (lin.goes_to (results.built p r all s us cs (At at old)) to (word_of v ∷ stack))
  gave rest at to v old stack leaves h = results.gave p r all s us cs waiting rest to v stack [] (At at old) leaves knows h

  -- a step without an op, before the op that stands there
  pub quiet : (owed : ℕ) (now : Act) (rest : List Frame) (at : ℕ) (stack : List Value) (spot : Spot) → Costs K at (1 + (owed + 1)) → ((answer : ℕ) → source.perform p r answer s (Does now rest) ≡ source.at s spot) → source.act_extra p (Does now rest) ≡ 0 → is_ask (Does now rest) ≡ false → SpotAt (owed + 1) spot at stack → relation.BelowAt p all (places_of s.memory) spot cs → Res owed now rest at stack
  quiet owed now rest at stack spot k by extra ask h leaves =
      let more : owed + 1 ≤ (k.step.cost - 1) + lin.more_cost k.step.op cs = omega (arith, k.least) in
      results.Waits (record s { spot = spot }) by extra ask (subst (λ x. owed + 1 ≤ x) (sym (results.cost_of p r all s us cs waiting at stack k.step _ k.here refl)) more)
      (record { threads = us; callers = cs; there = At at stack; is = refl; waiting = waiting; spot = (h, leaves, knows) })

  -- a step without an op, together with the op that is owed
  pay : (rest : List Frame) (owed : ℕ) (now : Act) (at : ℕ) (v : Value) (stack : List Value) → paying.Pays p all s.memory c (owed + 1) rest at v stack → ((answer : ℕ) → source.perform p r answer s (Does now rest) ≡ source.gives s rest v) → source.act_extra p (Does now rest) ≡ 0 → is_ask (Does now rest) ≡ false → Leaves rest → Res owed now rest at (word_of v ∷ stack)
  pay rest owed now at v stack h by extra ask leaves =
      made owed now rest at (word_of v ∷ stack) (costing (owed + 1) h.first) h.here (omega arith) (omega (arith, extra, h.crosses cs)) (h.loads ∙ sym ask)
      (λ answer. rw (by answer, h.runs r (results.built p r all s us cs (At at (word_of v ∷ stack))) answer)
      (results.landed p r all s us cs waiting (give v rest) h.to h.after [] (At at (word_of v ∷ stack)) (h.meets 96 (omega arith)) (below.below_give p all (places_of s.memory) cs rest v leaves) knows))

  -- a step without an op whose value's word is on the stack
  pub silent : (rest : List Frame) (owed : ℕ) (now : Act) (at : ℕ) (v : Value) (stack : List Value) → ((answer : ℕ) → source.perform p r answer s (Does now rest) ≡ source.gives s rest v) → source.act_extra p (Does now rest) ≡ 0 → is_ask (Does now rest) ≡ false → Leaves rest → Awaits (owed + 1) rest at stack → Res owed now rest at (word_of v ∷ stack)
  silent rest owed now at v stack by extra ask leaves h = on (pays rest) refl where
    on : (b : Bool) → pays rest ≡ b → Res owed now rest at (word_of v ∷ stack)
    on true e = pay rest owed now at v stack (paying.payer p all s.memory c rest (owed + 1) at v stack e h) by extra ask leaves
    on false e =
        quiet owed now rest at (word_of v ∷ stack) (give v rest)
        (costly K at _ (1 + (owed + 1)) (omega (arith, paying.kept_paid p all s.memory c rest (owed + 1) e)) (costs.owes p all rest c (owed + 1) at stack h))
        by extra ask (giving.give_at p all s.memory c rest (owed + 1) at v stack e h) (below.below_give p all (places_of s.memory) cs rest v leaves)

  -- an op for a step that makes nothing and gives a value
  pub gives_op : (owed : ℕ) (now : Act) (rest : List Frame) (at : ℕ) (stack : List Value) (x : op.Step) (v : Value) (under : List Value) → slice_get K at ≡ Some x → 1 ≤ x.cost → (x.cost - 1) + lin.more_cost x.op cs ≡ owed + source.act_extra p (Does now rest) → lin.is_load x.op ≡ is_ask (Does now rest) → ((answer : ℕ) → source.perform p r answer s (Does now rest) ≡ source.gives s rest v) → ((answer : ℕ) → lin.perform p r answer (results.built p r all s us cs (At at stack)) at x.op stack ≡ lin.goes_to (results.built p r all s us cs (At at stack)) (at + 1) (word_of v ∷ under)) → Leaves rest → Awaits 0 rest (at + 1) under → Res owed now rest at stack
  gives_op owed now rest at stack x v under e le k l a b leaves h = made owed now rest at stack x e le k l (λ answer. rw (a answer, b answer) (gave rest at (at + 1) v stack under leaves h))

  -- what gives a value or a fault
  pub tried : (rest : List Frame) (at : ℕ) (old under : List Value) (x : Result Value Fault) → Leaves rest → Awaits 0 rest (at + 1) under → results.Same p r all (source.gives_result s rest x) (lin.pushes (results.built p r all s us cs (At at old)) at under x)
  tried rest at old under x leaves h = results.if_value p r all s us cs waiting x _ _ (λ v. gave rest at (at + 1) v old under leaves h)

  -- ---- constants

  combines_cost : (o : Binop) (a b : TyTree) (x : Right) (owed : ℕ) (rest : List Frame) (at : ℕ) (under : List Value) → relation.CombinesAt p all c owed (λ at stack. Awaits 0 rest at stack) (λ cost b to under. relation.Turns p all c rest cost b to under) x o a b at under → Costs K at (1 + owed)
  combines_cost o a b x owed rest at under (inl h) = record { step = _; here = h.0.0; least = omega arith }
  combines_cost o a b x owed rest at under (inr h) = record { step = _; here = h.1.3.0; least = omega arith }

  -- the number is there, or a further conversion
  either_cost : (w owed : ℕ) (rest : List Frame) (at : ℕ) (stack : List Value) → (relation.Kept p all c (owed + 1) w rest at stack → Costs K at (1 + (owed + 1))) → relation.Given p all c owed w rest at stack → Costs K at (1 + owed)
  either_cost w owed rest at stack by (inl h) = record { step = _; here = h.0.0; least = omega arith }
  either_cost w owed rest at stack by (inr h) = costly K at (1 + (owed + 1)) (1 + owed) (omega arith) (by h)

  kept_cost : (rest : List Frame) (owed w at : ℕ) (stack : List Value) → relation.Kept p all c owed w rest at stack → Costs K at (1 + owed)
  kept_cost [] owed w at stack h = absurd h
  kept_cost (Converts (PtrTy s1) (IntTy j) ∷ rest) owed w at stack h = absurd h
  kept_cost (Converts s1 t1 ∷ rest) owed w at stack h = either_cost (relation.converted_word s1 t1 w) owed rest at stack (λ k. kept_cost rest (owed + 1) (relation.converted_word s1 t1 w) at stack k) h
  kept_cost (Combines o a b v ∷ rest) owed w at stack h = combines_cost o a b _ owed rest at h.0 h.3
  kept_cost (x ∷ rest) owed w at stack h = absurd h

  kept_at : (rest : List Frame) (v : Value) (owed w at : ℕ) (stack : List Value) → word_of v ≡ Number w → relation.Kept p all c owed w rest at stack → SpotAt owed (give v rest) at stack
  kept_at [] v owed w at stack e h = absurd h
  kept_at (Converts (IntTy i) (IntTy j) ∷ rest) v owed w at stack e h = inr (w, e, h)
  kept_at (Converts (PtrTy s1) (IntTy j) ∷ rest) v owed w at stack e h = absurd h
  kept_at (Converts s1 t1 ∷ rest) v owed w at stack e h = inr (w, e, h)
  kept_at (Combines o a b u ∷ rest) v owed w at stack e h = (right.Number (number_in_op a b w), h.0, h.2, (h.1, w, e, refl), h.3)
  kept_at (x ∷ rest) v owed w at stack e h = absurd h

  -- the step that gives a constant
  pub given : (owed : ℕ) (now : Act) (rest : List Frame) (at : ℕ) (stack : List Value) (v : Value) (w : ℕ) → word_of v ≡ Number w → ((answer : ℕ) → source.perform p r answer s (Does now rest) ≡ source.gives s rest v) → source.act_extra p (Does now rest) ≡ 0 → is_ask (Does now rest) ≡ false → Leaves rest → relation.Given p all c owed w rest at stack → Res owed now rest at stack
  given owed now rest at stack v w e by extra ask leaves (inl h) =
      gives_op owed now rest at stack _ v stack h.0.0 (omega arith) (omega (arith, extra)) (sym ask) by (λ answer. ap (λ x. lin.goes_to (results.built p r all s us cs (At at stack)) (at + 1) (x ∷ stack)) (sym e)) leaves h.1
  given owed now rest at stack v w e by extra ask leaves (inr h) =
      quiet owed now rest at stack (give v rest) (kept_cost rest (owed + 1) w at stack h) by extra ask (kept_at rest v (owed + 1) w at stack e h) (below.below_give p all (places_of s.memory) cs rest v leaves)

  -- ---- variables

  pub value_cost : (rest : List Frame) (owed n at : ℕ) (stack : List Value) → relation.HeldValue p all c owed n rest at stack → Costs K at (1 + owed)
  value_cost [] owed n at stack h = absurd h
  value_cost (Combines o a b v ∷ rest) owed n at stack h = combines_cost o a b _ owed rest at h.0 h.3
  value_cost (x ∷ rest) owed n at stack h = absurd h

  load_cost : (ty : TyTree) (rest : List Frame) (owed n at : ℕ) (stack : List Value) → relation.Held p all c owed n (Loads ty ∷ rest) at stack → Costs K at (1 + owed)
  load_cost ty rest owed n at stack h = on h.1 where
    on : (HasAt K at (costing (1 + owed) (op.LoadLocal n) ∷ []) × Awaits 0 rest (at + 1) stack) ⊎ (relation.IsRightOf p all ty rest × relation.HeldValue p all c (owed + 1) n rest at stack) → Costs K at (1 + owed)
    on (inl k) = record { step = _; here = k.0.0; least = omega arith }
    on (inr k) = costly K at (1 + (owed + 1)) (1 + owed) (omega arith) (value_cost rest (owed + 1) n at stack k.1)

  held_cost : (rest : List Frame) (owed n at : ℕ) (stack : List Value) → relation.Held p all c owed n rest at stack → Costs K at (1 + owed)
  held_cost [] owed n at stack h = absurd h
  held_cost (Loads ty ∷ rest) owed n at stack h = load_cost ty rest owed n at stack h
  held_cost (Target ty e ∷ rest) owed n at stack h = costs.start_owes p e K at at owed _ h.4
  held_cost (x ∷ rest) owed n at stack h = absurd h

  held_at : (rest : List Frame) (owed n at : ℕ) (stack : List Value) → relation.Held p all c owed n rest at stack → SpotAt owed (give (place_of (c.base + n) 0) rest) at stack
  held_at [] owed n at stack h = absurd h
  held_at (Loads ty ∷ rest) owed n at stack h = inr (n, refl, h)
  held_at (Target ty e ∷ rest) owed n at stack h =
      reaching.start_at p all s.memory c e _ h.3 at owed (Into ty (place_of (c.base + n) 0) ∷ rest) stack h.4 (λ k. inr (h.0, n, refl, h.1, h.2, k, h.5))
  held_at (x ∷ rest) owed n at stack h = absurd h

  pub local_address : (n : ℕ) (rest : List Frame) (owed at : ℕ) (stack : List Value) → Leaves rest → ActAt owed (LocalAddress n) rest at stack → Res owed (LocalAddress n) rest at stack
  local_address n rest owed at stack leaves (inl h) =
      gives_op owed (LocalAddress n) rest at stack _ (place_of (c.base + n) 0) stack h.0.0 (omega arith) (omega arith) refl (λ answer. refl) (λ answer. refl) leaves h.1
  local_address n rest owed at stack leaves (inr h) =
      quiet owed (LocalAddress n) rest at stack (give (place_of (c.base + n) 0) rest) (held_cost rest (owed + 1) n at stack h) (λ answer. refl) refl refl (held_at rest (owed + 1) n at stack h)
      (below.below_give p all (places_of s.memory) cs rest (place_of (c.base + n) 0) leaves)
