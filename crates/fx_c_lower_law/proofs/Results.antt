-- What a step of the source and the op for it come to.
use Rattle.std.proofs.Common.{◌≡◌, Bool, true, false, ◌&&◌, ℕ, zero, suc, ◌+◌, ◌-◌, ◌≤◌, ◌⊎◌, inl, List, [], ◌∷◌, Option, Some, None, Result, Ok, Err, if◌then◌else◌, refl, ap, ◌∙◌, arith}
use Rattle.std.specs.Prelude.{slice_get}
use Rattle.fx_outcomes.specs.Runs.{Goes, Stops}
use Rattle.fx_base.specs.declared.device_op.DeviceOp.{DeviceOp}
use Rattle.fx_c_mean_blocks.specs.declared.value.Value.{Value}
use Rattle.fx_c_mean_blocks.specs.declared.block.Place.{Place}
use Rattle.fx_c_mean_blocks.specs.declared.fault.Fault.{Fault}
use Rattle.fx_c_mean_blocks.specs.declared.fault.Fault.TheVariants as fault
use Rattle.fx_c_mean_blocks.specs.Blocks.{object_in, offset_in}
use Rattle.fx_c_mean_model.specs.declared.end.End.TheVariants.{Denied, Undefined}
use Rattle.fx_c_mean_model.specs.declared.rights.Rights.{Rights}
use Rattle.fx_c_mean_model.specs.Programs.{Program}
use Rattle.fx_c_mean_model.specs.Rights.{may, home}
use Rattle.fx_c_mean_model.specs.States.{Call, Frame, Spot, Does, Act, give}
use Rattle.fx_c_mean_model.specs.Steps as source
use Rattle.fx_c_mean_model.specs.Expected.{is_ask}
use Rattle.fx_c_lin.specs.Ops as op
use Rattle.fx_c_lin.specs.Machine as lin
use Rattle.fx_c_lin.specs.Machine.{Saved, At, word_of, steps_of, settle, settle_on, settled, freed}
use Rattle.fx_c_lower_law.specs.Correct.{IsUndefined}
use Rattle.fx_c_lower_law.proofs.Relation.{Knows, places_of}
use Rattle.fx_c_lower_law.proofs.Relation as relation
use Rattle.fx_c_lower_law.proofs.Relation.{Match}
use Rattle.fx_c_lower_law.proofs.Lands as lands
use Rattle.fx_c_lower_law.proofs.Pays as paying
use Rattle.fx_c_lower_law.proofs.Below as below

module _ (p : Program) (r : Rights) (all : List (List op.Step)) where
  abbrev pub Matches : ℕ → source.State → lin.State → Type 0
  Matches owed s m = Match p all owed s m

  abbrev pub built : source.State → List lin.Thread → List Saved → lin.Spot → lin.State
  built s threads callers there = relation.built p all s threads callers there

  -- the same outcome, the ops of cost 0 behind it done as well; or one that is undefined
  abbrev pub Same : source.Outcome → lin.Outcome → Type 0
  Same (Goes o t) (Goes o2 n) = (o2 ≡ o) × Matches 0 t (record n { spot = settled (steps_of all n.call.function) n.spot })
  Same (Goes o t) (Stops o2 e) = ⊥
  Same (Stops o e) y = (y ≡ Stops o e) ⊎ ((o ≡ []) × IsUndefined e)

  -- a step by an op, a step that has none, and an undefined one
  pub data Result2 (owed : ℕ) (s : source.State) (now : Act) (rest : List Frame) (m : lin.State) : Type 0 where
    Makes : ((answer : ℕ) → Same (source.perform p r answer s (Does now rest)) (lin.act p r all answer m m.spot)) → lin.extra p all m ≡ owed + source.act_extra p (Does now rest) → lin.asks all m ≡ is_ask (Does now rest) → lin.goes_on (steps_of all m.call.function) m.spot ≡ true → Result2 owed s now rest m
    Waits : (t : source.State) → ((answer : ℕ) → source.perform p r answer s (Does now rest) ≡ Goes [] t) → source.act_extra p (Does now rest) ≡ 0 → is_ask (Does now rest) ≡ false → owed + 1 ≤ lin.extra p all m → Matches (owed + 1) t m → Result2 owed s now rest m
    Breaks : ((answer : ℕ) → source.perform p r answer s (Does now rest) ≡ Stops [] Undefined) → source.act_extra p (Does now rest) ≡ 0 → is_ask (Does now rest) ≡ false → Result2 owed s now rest m

  costs_one : (n : ℕ) → 1 ≤ n → lin.costs_something n ≡ true
  costs_one zero le = absurd (omega (arith, le))
  costs_one (suc n) le = refl

  pub knows_settled : (places : List Place) (c : Call) (code : List op.Step) (n at : ℕ) (stack : List Value) → Knows p places c → relation.KnowsAt p all places c (settle code n at stack)
  knows_settled places c code zero at stack h = h
  knows_settled places c code (suc n) at stack h = on (freed (slice_get code at) at stack) (λ to after. knows_settled places c code n to after h) where
    on : (x : Option (ℕ × List Value)) → ((to : ℕ) (after : List Value) → relation.KnowsAt p all places c (settle code n to after)) → relation.KnowsAt p all places c (settle_on x (At at stack) (settle code n))
    on None next = h
    on (Some x) next = next x.0 x.1

  module _ (s : source.State) (us : List lin.Thread) (cs : List Saved) (waiting : relation.ThreadsAt p all (places_of s.memory) s.threads us) where
    abbrev c : Call
    c = s.call

    abbrev K : List op.Step
    K = relation.K p all c

    -- the code has come to a place where the source's spot is met
    pub landed : (spot : Spot) (to : ℕ) (stack : List Value) (o : List DeviceOp) (there : lin.Spot) → relation.SpotAt p all s.memory c 0 spot (settle K 96 to stack) → relation.BelowAt p all (places_of s.memory) spot cs → Knows p (places_of s.memory) c → Same (Goes o (record s { spot = spot })) (Goes o (record (built s us cs there) { spot = At to stack }))
    landed spot to stack o there h leaves knows = (
      refl,
      record {
        threads = us;
        callers = cs;
        there = settle K 96 to stack;
        is = refl;
        waiting = waiting;
        spot = (h, leaves, knows_settled (places_of s.memory) c K 96 to stack knows);
      },
    )

    -- a value is given
    pub gave : (rest : List Frame) (at : ℕ) (v : Value) (stack : List Value) (o : List DeviceOp) (there : lin.Spot) → relation.Leaves p all (places_of s.memory) rest cs → Knows p (places_of s.memory) c → relation.Awaits p all c 0 rest at stack → Same (Goes o (record s { spot = give v rest })) (Goes o (record (built s us cs there) { spot = At at (word_of v ∷ stack) }))
    gave rest at v stack o there leaves knows h =
        landed (give v rest) at (word_of v ∷ stack) o there (paying.value_at p all s.memory c rest at v stack 96 (omega arith) h) (below.below_give p all (places_of s.memory) cs rest v leaves) knows

    -- a place is reached with nothing on the stack
    pub came : (spot : Spot) (at least : ℕ) (o : List DeviceOp) (there : lin.Spot) → least ≤ 96 → relation.BelowAt p all (places_of s.memory) spot cs → Knows p (places_of s.memory) c → lands.Lands p all s.memory c spot at least → Same (Goes o (record s { spot = spot })) (Goes o (record (built s us cs there) { spot = At at [] }))
    came spot at least o there le leaves knows h = landed spot at [] o there (h.by 96 le) leaves knows

    pub if_value : {A : Type 0} (x : Result A Fault) (go : A → source.Outcome) (on : A → lin.Outcome) → ((a : A) → Same (go a) (on a)) → Same (source.if_value x go) (lin.checked x on)
    if_value (Ok a) go on h = h a
    if_value (Err fault.Divide) go on h = inl refl
    if_value (Err fault.Undefined) go on h = inl refl

    pub if_allowed : (v w : Value) (write : Bool) (place : Place) (x : source.Outcome) (y : lin.Outcome) (there : lin.Spot) → object_in w ≡ object_in v → offset_in w ≡ offset_in v → Same x y → Same (source.granted p r s v write place x) (lin.allowed p r (built s us cs there) w write place y)
    if_allowed v w write place x y there d e h = on (may p r (home p r c.function) place write) where
      on : (b : Bool) → Same (if b then x else Stops [] (Denied (home p r c.function) (object_in v) (offset_in v) write)) (if b then y else Stops [] (Denied (home p r c.function) (object_in w) (offset_in w) write))
      on true = h
      on false = inl (ap (λ n. Stops [] (Denied (home p r c.function) n (offset_in w) write)) d ∙ ap (λ n. Stops [] (Denied (home p r c.function) (object_in v) n write)) e)

    -- the op at the place
    pub at_op : (answer at : ℕ) (stack : List Value) (x : op.Step) (o : source.Outcome) → slice_get K at ≡ Some x → Same o (lin.perform p r answer (built s us cs (At at stack)) at x.op stack) → Same o (lin.act p r all answer (built s us cs (At at stack)) (At at stack))
    at_op answer at stack x o e h = rw e h

    pub cost_of : (at : ℕ) (stack : List Value) (x : op.Step) (n : ℕ) → slice_get K at ≡ Some x → (x.cost - 1) + lin.more_cost x.op cs ≡ n → lin.extra p all (built s us cs (At at stack)) ≡ n
    cost_of at stack x n e h = rw e h

    pub asks_of : (at : ℕ) (stack : List Value) (x : op.Step) (b : Bool) → slice_get K at ≡ Some x → 1 ≤ x.cost → lin.is_load x.op ≡ b → lin.asks all (built s us cs (At at stack)) ≡ b
    asks_of at stack x b e le h = rw e (ap (λ y. y && lin.is_load x.op) (costs_one x.cost le) ∙ h)

    -- an op that costs something is done
    pub goes_of : (at : ℕ) (stack : List Value) (x : op.Step) → slice_get K at ≡ Some x → 1 ≤ x.cost → lin.goes_on K (At at stack) ≡ true
    goes_of at stack x e le = rw e (costs_one x.cost le)
