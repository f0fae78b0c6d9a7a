-- Steps that test a truth, and jumps.
use Rattle.std.proofs.Common.{◌≡◌, Bool, true, false, ℕ, ◌+◌, ◌-◌, ◌≤◌, inl, inr, List, [], ◌∷◌, ◌++◌, Some, refl, sym, ap, ◌∙◌, subst, arith}
use mathlib.Core.Bool.{beq}
use Rattle.std.specs.Prelude.{slice_get}
use Rattle.fx_c_ast.specs.declared.operator.Unop.TheVariants.{Lnot}
use Rattle.fx_c_ast.specs.declared.operator.Binop.{Binop}
use Rattle.fx_c_ast.specs.declared.operator.Binop.TheVariants.{Land, Lor}
use Rattle.fx_c_ast.specs.CheckedTrees.{TExprTree, TStmtTree, MaybeTStmt}
use Rattle.fx_c_mean_blocks.specs.declared.value.Value.{Value}
use Rattle.fx_c_mean_blocks.specs.declared.value.Value.TheVariants.{Number}
use Rattle.fx_c_mean_model.specs.declared.rights.Rights.{Rights}
use Rattle.fx_c_mean_model.specs.Programs.{Program, function_at}
use Rattle.fx_c_mean_model.specs.States.{Loop, Call, Frame, Applies, Decides, Truth, Forks, Tests, Act, Decide, Judge, Branch, Test, JumpBack, Break, Continue, Spot, Does, loop_body, give, start, begin, begin_maybe, begin_loop, begin_body, follow, after_loop, next_round}
use Rattle.fx_c_mean_model.specs.Steps as source
use Rattle.fx_c_mean_model.specs.Steps.{is_true, truth_value}
use Rattle.fx_c_mean_model.specs.Expected.{is_ask}
use Rattle.fx_c_lin.specs.Ops as op
use Rattle.fx_c_lin.specs.Machine as lin
use Rattle.fx_c_lin.specs.Machine.{Saved, At, settle}
use Rattle.fx_c_lower_model.specs.Steps.{costing, free, chosen, stops}
use Rattle.fx_c_lower_model.specs.Operands.{truth_code}
use Rattle.fx_c_lower_model.specs.Lengths.{stmt_len}
use Rattle.fx_c_lower_model.specs.Code.{decided_at, else_at, else_jump, stmt_code, maybe_code}
use Rattle.fx_c_lower_law.proofs.Places.{HasAt, has_rest}
use Rattle.fx_c_lower_law.proofs.Lengths.{stmt_length}
use Rattle.fx_c_lower_law.proofs.Relation.{Knows, places_of}
use Rattle.fx_c_lower_law.proofs.Relation as relation
use Rattle.fx_c_lower_law.proofs.Costs.{Costs, settle_here}
use Rattle.fx_c_lower_law.proofs.Costs as costs
use Rattle.fx_c_lower_law.proofs.Reach as reaching
use Rattle.fx_c_lower_law.proofs.Lands.{settle_free}
use Rattle.fx_c_lower_law.proofs.Lands as lands
use Rattle.fx_c_lower_law.proofs.Pays as paying
use Rattle.fx_c_lower_law.proofs.Below as below
use Rattle.fx_c_lower_law.proofs.Results as results
use Rattle.fx_c_lower_law.proofs.Acts as acts

truth_is : (b : Bool) → is_true (truth_value b) ≡ b
truth_is true = refl
truth_is false = refl

module _ (p : Program) (r : Rights) (all : List (List op.Step)) (s : source.State) (us : List lin.Thread) (cs : List Saved) (waiting : relation.ThreadsAt p all (places_of s.memory) s.threads us) (knows : Knows p (places_of s.memory) s.call) where
  abbrev c : Call
  c = s.call

  abbrev K : List op.Step
  K = relation.K p all c

  abbrev Res : ℕ → Act → List Frame → ℕ → List Value → Type 0
  Res owed now rest at stack = results.Result2 p r all owed s now rest (results.built p r all s us cs (At at stack))

  abbrev ActAt : ℕ → Act → List Frame → ℕ → List Value → Type 0
  ActAt owed now rest at stack = relation.ActAt p all s.memory c owed now rest at stack

  abbrev SpotAt : Spot → lin.Spot → Type 0
  SpotAt spot there = relation.SpotAt p all s.memory c 0 spot there

  abbrev Awaits : (owed : ℕ) → List Frame → ℕ → List Value → Type 0
  Awaits owed rest at stack = relation.Awaits p all c owed rest at stack

  abbrev Turns : List Frame → (cost : ℕ) → Bool → ℕ → List Value → Type 0
  Turns rest cost b to under = relation.Turns p all c rest cost b to under

  abbrev Surely : op.Op → (at : ℕ) → List Value → (to : ℕ) → List Value → Type 0
  Surely x at stack to under = relation.Surely p all s.memory c x at stack to under

  abbrev Reaches : ℕ → ℕ → Type 0
  Reaches at to = relation.Reaches p all c at to

  abbrev Leaves : List Frame → Type 0
  Leaves rest = relation.Leaves p all (places_of s.memory) rest cs

  -- ---- forms of steps

  over_jump : (spot : Spot) (next to : ℕ) (under : List Value) → Reaches next to → ((n : ℕ) → 90 ≤ n → SpotAt spot (settle K n to under)) → SpotAt spot (settle K 96 next under)
  over_jump spot next to under (inl e) h = subst (λ i. SpotAt spot (settle K 96 i under)) (sym e) (h 96 (omega arith))
  over_jump spot next to under (inr j) h = rw (settle_free K 96 next under (op.Jump to) to under (omega arith) j.0 refl) (h 95 (omega arith))

  -- the step is the jump
  jumped : (owed : ℕ) (now : Act) (rest : List Frame) (at : ℕ) (stack : List Value) (spot : Spot) (x : op.Op) (more next to : ℕ) (under : List Value) → slice_get K at ≡ Some (costing (more + owed) x) → Surely x at stack next under → Reaches next to → more ≡ 1 → ((answer : ℕ) → source.perform p r answer s (Does now rest) ≡ source.at s spot) → source.act_extra p (Does now rest) ≡ 0 → is_ask (Does now rest) ≡ false → relation.BelowAt p all (places_of s.memory) spot cs → ((n : ℕ) → 90 ≤ n → SpotAt spot (settle K n to under)) → Res owed now rest at stack
  jumped owed now rest at stack spot x more next to under here sure reaches one by extra ask leaves h =
      acts.made p r all s us cs waiting knows owed now rest at stack (costing (more + owed) x) here (omega (arith, one)) (omega (arith, one, extra, sure.crosses cs)) (sure.loads ∙ sym ask)
      (λ answer. rw (by answer, sure.runs r (results.built p r all s us cs (At at stack)) answer refl refl)
      (results.landed p r all s us cs waiting spot next under [] (At at stack) (over_jump spot next to under reaches h) leaves knows))

  -- the next frame takes the truth
  pub judged_at : (rest : List Frame) (v : Value) (owed at : ℕ) (stack : List Value) → relation.Judged p all s.memory c owed (λ cost b to under. Turns rest cost b to under) v at stack → relation.SpotAt p all s.memory c owed (give v rest) (At at stack)
  judged_at [] v owed at stack h = absurd h.8
  judged_at (Applies Lnot ty ∷ rest) v owed at stack h = inr h
  judged_at (Decides o e ∷ rest) v owed at stack h = h
  judged_at (Truth ∷ rest) v owed at stack h = h
  judged_at (Forks s1 other ∷ rest) v owed at stack h = h
  judged_at (Tests loop ∷ rest) v owed at stack h = h
  judged_at (x ∷ rest) v owed at stack h = absurd h.8

  -- a step without an op before the jump
  pub pass : (owed : ℕ) (now : Act) (rest : List Frame) (at : ℕ) (stack : List Value) (v : Value) (x : op.Op) (less next to : ℕ) (under : List Value) → slice_get K at ≡ Some (costing (less + (owed + 1)) x) → Surely x at stack next under → Reaches next to → Turns rest less (is_true v) to under → ((answer : ℕ) → source.perform p r answer s (Does now rest) ≡ source.gives s rest v) → source.act_extra p (Does now rest) ≡ 0 → is_ask (Does now rest) ≡ false → Leaves rest → Res owed now rest at stack
  pass owed now rest at stack v x less next to under here sure reaches turn by extra ask leaves =
      let k : Costs K at (1 + (owed + 1)) = record { step = _; here = here; least = omega (arith, costs.turns_least p all rest c less (is_true v) to under turn) } in
      acts.quiet p r all s us cs waiting knows owed now rest at stack (give v rest) k by extra ask (judged_at rest v (owed + 1) at stack (x, less, next, to, under, here, sure, reaches, turn)) (below.below_give p all (places_of s.memory) cs rest v leaves)

  pub one_less : (more less owed at : ℕ) (x : op.Op) → more ≡ less + 1 → slice_get K at ≡ Some (costing (more + owed) x) → slice_get K at ≡ Some (costing (less + (owed + 1)) x)
  one_less more less owed at x e h = let q : more + owed ≡ less + (owed + 1) = omega (arith, e) in h ∙ ap (λ k. Some (costing k x)) q

  -- ---- the numbers behind a condition

  await_at : (m n : ℕ) (rest : List Frame) (stack : List Value) → m ≡ n → Awaits 0 rest m stack → Awaits 0 rest n stack
  await_at m n rest stack e h = subst (λ i. Awaits 0 rest i stack) e h

  place_at : (m n : ℕ) (x : op.Step) → m ≡ n → slice_get K m ≡ Some x → slice_get K n ≡ Some x
  place_at m n x e h = subst (λ i. slice_get K i ≡ Some x) e h

  one_at : (rest : List Frame) (ones n : ℕ) (under : List Value) → 90 ≤ n → HasAt K ones (truth_code ones) → Awaits 0 rest (ones + 3) under → SpotAt (give (Number 1) rest) (settle K n ones under)
  one_at rest ones n under le has h =
      rw (settle_free K n ones under (op.Number 1) (ones + 1) (Number 1 ∷ under) (omega (arith, le)) has.0 refl, settle_free K (n - 1) (ones + 1) (Number 1 ∷ under) (op.Jump (ones + 3)) (ones + 3) (Number 1 ∷ under) (omega (arith, le)) has.1.0 refl)
      (paying.value_at p all s.memory c rest (ones + 3) (Number 1) under (n - 1 - 1) (omega (arith, le)) h)

  zero_at : (rest : List Frame) (ones n : ℕ) (under : List Value) → 90 ≤ n → HasAt K ones (truth_code ones) → Awaits 0 rest (ones + 3) under → SpotAt (give (Number 0) rest) (settle K n (ones + 2) under)
  zero_at rest ones n under le has h =
      let q : ones + 3 ≡ ones + 2 + 1 = omega arith in
      let z = place_at (ones + 1 + 1) (ones + 2) (free (op.Number 0)) (omega arith) has.1.1.0 in
      rw (settle_free K n (ones + 2) under (op.Number 0) (ones + 2 + 1) (Number 0 ∷ under) (omega (arith, le)) z refl)
      (paying.value_at p all s.memory c rest (ones + 2 + 1) (Number 0) under (n - 1) (omega (arith, le)) (await_at (ones + 3) (ones + 2 + 1) rest under q h))

  truth_at : (b : Bool) (rest : List Frame) (ones to n : ℕ) (under : List Value) → 90 ≤ n → HasAt K ones (truth_code ones) → to ≡ chosen b ones (ones + 2) → Awaits 0 rest (ones + 3) under → SpotAt (give (truth_value b) rest) (settle K n to under)
  truth_at true rest ones to n under le has e h = subst (λ i. SpotAt (give (Number 1) rest) (settle K n i under)) (sym e) (one_at rest ones n under le has h)
  truth_at false rest ones to n under le has e h = subst (λ i. SpotAt (give (Number 0) rest) (settle K n i under)) (sym e) (zero_at rest ones n under le has h)

  -- ---- `&&` and `||`

  pub judge : (v : Value) (rest : List Frame) (owed at : ℕ) (stack : List Value) → Leaves rest → ActAt owed (Judge v) rest at stack → Res owed (Judge v) rest at stack
  judge v rest owed at stack leaves h = on h.8 where
    on : relation.TruthTurns p all c (λ at stack. Awaits 0 rest at stack) (λ cost b to under. Turns rest cost b to under) h.1 (is_true v) h.3 h.4 → Res owed (Judge v) rest at stack
    on (inl k) =
        jumped owed (Judge v) rest at stack (give (truth_value (is_true v)) rest) h.0 h.1 h.2 h.3 h.4 h.5 h.6 h.7 k.0 (λ answer. refl) refl refl (below.below_give p all (places_of s.memory) cs rest (truth_value (is_true v)) leaves)
        (λ n le. truth_at (is_true v) rest k.1 h.3 n h.4 le k.2 k.3 k.4)
    on (inr k) =
        pass owed (Judge v) rest at stack (truth_value (is_true v)) h.0 k.0 h.2 h.3 h.4 (one_less h.1 k.0 owed at h.0 k.1 h.5) h.6 h.7
        (subst (λ b. Turns rest k.0 b h.3 h.4) (sym (truth_is (is_true v))) k.2) (λ answer. refl) refl refl leaves

  jump_sure : (at next : ℕ) (stack : List Value) → Surely (op.Jump next) at stack next stack
  jump_sure at next stack = record { runs = λ r m answer k l. refl; loads = refl; crosses = λ cs. refl }

  -- the first operand decides: a number, or a jump where the whole is a condition
  decided : (o : Binop) (e : TExprTree) (rest : List Frame) (v : Value) (to n : ℕ) (under : List Value) → 90 ≤ n → v ≡ truth_value (stops o) → relation.DecideTurns p all c (λ at stack. Awaits 0 rest at stack) (λ cost b to under. Turns rest cost b to under) o e true to under → SpotAt (give v rest) (settle K n to under)
  decided o e rest v to n under le q (inl k) = rw q (by (stops o) k.2) where
    by : (b : Bool) → to ≡ decided_at b k.0 → SpotAt (give (truth_value b) rest) (settle K n to under)
    by true z = subst (λ i. SpotAt (give (Number 1) rest) (settle K n i under)) (sym z) (one_at rest k.0 n under le k.1 k.3)
    by false z = subst (λ i. SpotAt (give (Number 0) rest) (settle K n i under)) (sym z) (zero_at rest k.0 n under le k.1 k.3)
  decided o e rest v to n under le q (inr k) =
      let m : k.0 ≡ k.0 + 0 = omega arith in
      let cost : Costs K to 1 = record { step = _; here = k.2.0; least = costs.turns_least p all rest c k.0 (stops o) k.1 under k.3 } in
      rw (settle_here K n to under cost)
      (judged_at rest v 0 to under (
        op.Jump k.1,
        k.0,
        k.1,
        k.1,
        under,
        k.2.0 ∙ ap (λ i. Some (costing i (op.Jump k.1))) m,
        jump_sure to k.1 under,
        inl refl,
        subst (λ b. Turns rest k.0 b k.1 under) (sym (ap is_true q ∙ truth_is (stops o))) k.3,
      ))

  -- or the second one is evaluated
  goes_on : (o : Binop) (e : TExprTree) (rest : List Frame) (to n : ℕ) (under : List Value) → relation.DecideTurns p all c (λ at stack. Awaits 0 rest at stack) (λ cost b to under. Turns rest cost b to under) o e false to under → SpotAt (start e (Truth ∷ rest)) (settle K n to under)
  goes_on o e rest to n under k =
      rw (settle_here K n to under (costs.condition_here p e K to to 0 k.1 k.2 k.3 k.4))
      (reaching.test_at p all s.memory c e k.0 to 0 k.1 k.2 k.3 (Truth ∷ rest) under k.4 k.5 k.6)

  pub decide : (o : Binop) (e : TExprTree) (v : Value) (rest : List Frame) (owed at : ℕ) (stack : List Value) → Leaves rest → ActAt owed (Decide o e v) rest at stack → Res owed (Decide o e v) rest at stack
  decide Land e v rest owed at stack leaves h = by (is_true v) refl h.8.2 where
    by : (b : Bool) → is_true v ≡ b → relation.DecideTurns p all c (λ at stack. Awaits 0 rest at stack) (λ cost b to under. Turns rest cost b to under) Land e (beq b false) h.3 h.4 → Res owed (Decide Land e v) rest at stack
    by true q k = jumped owed (Decide Land e v) rest at stack (start e (Truth ∷ rest)) h.0 h.1 h.2 h.3 h.4 h.5 h.6 h.7 h.8.0 (λ answer. rw q refl) refl refl (below.below_start p all (places_of s.memory) cs e (Truth ∷ rest) leaves) (λ n le. goes_on Land e rest h.3 n h.4 k)
    by false q k = jumped owed (Decide Land e v) rest at stack (give (Number 0) rest) h.0 h.1 h.2 h.3 h.4 h.5 h.6 h.7 h.8.0 (λ answer. rw q refl) refl refl (below.below_give p all (places_of s.memory) cs rest (Number 0) leaves) (λ n le. decided Land e rest (Number 0) h.3 n h.4 le refl k)
  decide Lor e v rest owed at stack leaves h = by (is_true v) refl h.8.2 where
    by : (b : Bool) → is_true v ≡ b → relation.DecideTurns p all c (λ at stack. Awaits 0 rest at stack) (λ cost b to under. Turns rest cost b to under) Lor e (beq b true) h.3 h.4 → Res owed (Decide Lor e v) rest at stack
    by true q k = jumped owed (Decide Lor e v) rest at stack (give (Number 1) rest) h.0 h.1 h.2 h.3 h.4 h.5 h.6 h.7 h.8.0 (λ answer. rw q refl) refl refl (below.below_give p all (places_of s.memory) cs rest (Number 1) leaves) (λ n le. decided Lor e rest (Number 1) h.3 n h.4 le refl k)
    by false q k = jumped owed (Decide Lor e v) rest at stack (start e (Truth ∷ rest)) h.0 h.1 h.2 h.3 h.4 h.5 h.6 h.7 h.8.0 (λ answer. rw q refl) refl refl (below.below_start p all (places_of s.memory) cs e (Truth ∷ rest) leaves) (λ n le. goes_on Lor e rest h.3 n h.4 k)
  decide o e v rest owed at stack leaves h = let q : false ≡ true = h.8.1 in absurd cc

  -- ---- choices and loops

  -- a landing with nothing on the stack
  by_landing : (spot : Spot) (to at least n : ℕ) (under : List Value) → under ≡ [] → to ≡ at → least ≤ n → lands.Lands p all s.memory c spot at least → SpotAt spot (settle K n to under)
  by_landing spot to at least n under e q le h = rw (e, q) (h.by n le)

  pub branch : (v : Value) (s1 : TStmtTree) (other : MaybeTStmt) (rest : List Frame) (owed at : ℕ) (stack : List Value) → Leaves rest → ActAt owed (Branch v s1 other) rest at stack → Res owed (Branch v s1 other) rest at stack
  branch v s1 other rest owed at stack leaves h =
      jumped owed (Branch v s1 other) rest at stack (source.branch (is_true v) s1 other rest) h.0 h.1 h.2 h.3 h.4 h.5 h.6 h.7 h.8.0 (λ answer. refl) refl refl (left (is_true v)) (λ n le. by (is_true v) n le h.8.2.10) where
        left : (b : Bool) → relation.BelowAt p all (places_of s.memory) (source.branch b s1 other rest) cs
        left true = below.below_begin p all (places_of s.memory) cs s1 rest (follow rest) leaves (below.below_follow p all (places_of s.memory) cs rest leaves)
        left false = below.below_maybe p all (places_of s.memory) cs other rest (follow rest) leaves (below.below_follow p all (places_of s.memory) cs rest leaves)

        by : (b : Bool) (n : ℕ) → 90 ≤ n → h.3 ≡ chosen b h.8.2.0 (else_at other (h.8.2.0 + stmt_len p (function_at p c.function).gives s1) h.8.2.1) → SpotAt (source.branch b s1 other rest) (settle K n h.3 h.4)
        by true n le q = by_landing (begin s1 rest (follow rest)) h.3 h.8.2.0 2 n h.4 h.8.1 q (omega (arith, le)) (lands.first_branch p all s.memory c s1 other rest h.8.2.0 h.8.2.1 h.8.2.2 h.8.2.3 h.8.2.4 h.8.2.8 h.8.2.9 h.8.2.6 h.8.2.7)
        by false n le q =
            let g = (function_at p c.function).gives in
            let i = h.8.2.0 + stmt_len p g s1 in
            let behind : HasAt K i (else_jump other h.8.2.1 ++ maybe_code p g (i + 1) h.8.2.1 h.8.2.2 h.8.2.3 other) = has_rest K h.8.2.0 i (stmt_code p g h.8.2.0 h.8.2.1 h.8.2.2 h.8.2.3 s1) _ (ap (λ n. h.8.2.0 + n) (stmt_length p g h.8.2.0 h.8.2.1 h.8.2.2 h.8.2.3 s1)) h.8.2.6 in
            by_landing (begin_maybe other rest (follow rest)) h.3 (else_at other i h.8.2.1) 2 n h.4 h.8.1 q (omega (arith, le)) (lands.second_branch p all s.memory c other rest i h.8.2.1 h.8.2.2 h.8.2.3 h.8.2.5 h.8.2.8 h.8.2.9 behind h.8.2.7)

  pub test : (v : Value) (loop : Loop) (rest : List Frame) (owed at : ℕ) (stack : List Value) → Leaves rest → ActAt owed (Test v loop) rest at stack → Res owed (Test v loop) rest at stack
  test v loop rest owed at stack leaves h =
      jumped owed (Test v loop) rest at stack (source.tested (is_true v) loop rest) h.0 h.1 h.2 h.3 h.4 h.5 h.6 h.7 h.8.0 (λ answer. refl) refl refl (left (is_true v)) (λ n le. by (is_true v) n le h.8.2.9) where
        left : (b : Bool) → relation.BelowAt p all (places_of s.memory) (source.tested b loop rest) cs
        left true = below.below_body p all (places_of s.memory) cs loop rest leaves
        left false = below.below_follow p all (places_of s.memory) cs rest leaves

        by : (b : Bool) (n : ℕ) → 90 ≤ n → h.3 ≡ chosen b h.8.2.0 h.8.2.1 → SpotAt (source.tested b loop rest) (settle K n h.3 h.4)
        by true n le q = by_landing (begin_body loop (loop_body loop) rest) h.3 h.8.2.0 1 n h.4 h.8.1 q (omega (arith, le)) (lands.bodies p all s.memory c loop rest h.8.2.0 h.8.2.2 h.8.2.3 h.8.2.4 h.8.2.5 h.8.2.6 h.8.2.7)
        by false n le q = by_landing (follow rest) h.3 h.8.2.1 1 n h.4 h.8.1 q (omega (arith, le)) (lands.follow_at p all s.memory c rest h.8.2.1 h.8.2.8)

  -- ---- jumps

  came : (spot : Spot) (from to least : ℕ) (old : List Value) → least ≤ 96 → relation.BelowAt p all (places_of s.memory) spot cs → lands.Lands p all s.memory c spot to least → results.Same p r all (source.at s spot) (lin.goes_to (results.built p r all s us cs (At from old)) to [])
  came spot from to least old le leaves h = results.landed p r all s us cs waiting spot to [] [] (At from old) (h.by 96 le) leaves knows

  pub back : (loop : Loop) (rest : List Frame) (owed at : ℕ) (stack : List Value) → Leaves rest → ActAt owed (JumpBack loop) rest at stack → Res owed (JumpBack loop) rest at stack
  back loop rest owed at stack leaves h =
      rw (h.0, h.1) (acts.made p r all s us cs waiting knows 0 (JumpBack loop) rest at [] _ h.2.1.0 (omega arith) refl refl (λ answer.
      came (begin_loop loop rest) at h.2.0 1 [] (omega arith) (below.below_loop p all (places_of s.memory) cs loop rest leaves) (lands.loops p all s.memory c loop rest h.2.0 1 (lands.begins p all s.memory c (loop_body loop)) (lands.next_begins p all s.memory c loop) (omega arith) h.2.2)))

  pub break : (rest : List Frame) (owed at : ℕ) (stack : List Value) → Leaves rest → ActAt owed Break rest at stack → Res owed Break rest at stack
  break rest owed at stack leaves h =
      rw (h.0, h.1) (acts.made p r all s us cs waiting knows 0 Break rest at [] _ h.4.0 (omega arith) refl refl (λ answer. came (after_loop rest) at h.2 1 [] (omega arith) (below.below_after p all (places_of s.memory) cs rest leaves) (lands.after_at p all s.memory c rest h.2 h.3 h.5)))

  pub continue : (rest : List Frame) (owed at : ℕ) (stack : List Value) → Leaves rest → ActAt owed Continue rest at stack → Res owed Continue rest at stack
  continue rest owed at stack leaves h =
      rw (h.0, h.1) (acts.made p r all s us cs waiting knows 0 Continue rest at [] _ h.4.0 (omega arith) refl refl (λ answer. came (next_round rest) at h.3 1 [] (omega arith) (below.below_round p all (places_of s.memory) cs rest leaves) (lands.round_at p all s.memory c rest h.2 h.3 h.5)))
