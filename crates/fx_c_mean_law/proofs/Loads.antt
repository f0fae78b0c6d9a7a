-- A step that is no load looks at no answer and makes no load; a load makes itself, with its answer.
use Rattle.std.proofs.Common.{◌≡◌, ℕ, Bool, true, false, List, [], ◌∷◌, ◌++◌, Option, Some, None, Result, Ok, Err, if◌then◌else◌, refl, ap, sym, ◌∙◌, subst}
use Rattle.std.specs.Prelude.{◌&&◌}
use Rattle.fx_outcomes.specs.Runs.{Next, Goes, Stops}
use Rattle.fx_base.specs.declared.device_op.DeviceOp.{DeviceOp}
use Rattle.fx_c_mean_blocks.specs.declared.value.Value.{Value}
use Rattle.fx_c_mean_blocks.specs.declared.value.Value.TheVariants.{Number}
use Rattle.fx_c_mean_blocks.specs.declared.value.Cell.{Cell}
use Rattle.fx_c_mean_blocks.specs.declared.fault.Fault.{Fault}
use Rattle.fx_c_mean_blocks.specs.Blocks.{width, byte_read, loaded, writable}
use Rattle.fx_c_mean_model.specs.declared.end.End.{End}
use Rattle.fx_c_mean_model.specs.declared.rights.Rights.{Rights}
use Rattle.fx_c_mean_model.specs.Programs.{Program, function_at}
use Rattle.fx_c_mean_model.specs.States.{Frame, Caller, Spot, Does, Push, SizeOf, GlobalAddress, LiteralAddress, LocalAddress, Load, Apply, Convert, Step, Combine, Decide, Judge, Enter, Ask, Tell, Spawn, Switch, Self, Store, ReadByte, WriteByte, Branch, Test, JumpBack, Break, Continue, Leave, FallOff, Stuck, unwind}
use Rattle.fx_c_mean_model.specs.Steps.{Thread, Running, Waiting, Ended, State, Outcome, if_value, perform, step, told, asked, operation, switch, resume, ended, returned, stores, further, left, value_at_end}
use Rattle.fx_c_mean_model.specs.Expected.{Run as SourceRun, is_ask, asks, advance, with_answers, run_step}
use Rattle.fx_c_mean_law.specs.Counting.{answers_of, is_starved, lacks}

-- ---- what makes no load

-- a fact that each outcome has but that of a load
module _ (P : Outcome → Type 0) (goes : (s : State) → P (Goes [] s)) (tells : (device register w : ℕ) (s : State) → P (Goes (operation device register true w ∷ []) s)) (stops : (e : End) → P (Stops [] e)) where
  either : (b : Bool) (x y : Outcome) → P x → P y → P (if b then x else y)
  either true x y h k = h
  either false x y h k = k

  value : {A : Type 0} (x : Result A Fault) (go : A → Outcome) → ((a : A) → P (go a)) → P (if_value x go)
  value (Ok a) go h = h a
  value (Err e) go h = stops _

  stored : (p : Program) (r : Rights) (s : State) (to : Value) (bytes : ℕ) (cells : List Cell) (next : Spot) → P (stores p r s to bytes cells next)
  stored p r s to bytes cells next = value (writable s.memory to bytes) _ (λ place. either _ _ _ (goes _) (stops _))

  resumed : (s : State) (left : Thread) (t : ℕ) (x : Option Thread) → P (resume s left t x)
  resumed s left t (Some (Waiting spot call)) = goes _
  resumed s left t (Some Running) = stops _
  resumed s left t (Some Ended) = stops _
  resumed s left t None = stops _

  switched : (s : State) (rest : List Frame) (v : Value) → P (switch s rest v)
  switched s rest (Number t) = either _ _ _ (goes _) (resumed s _ t _)
  switched s rest _ = stops _

  told_as : (s : State) (rest : List Frame) (d g : ℕ) (v : Value) → P (told s rest d g v)
  told_as s rest d g (Number w) = tells d g w _
  told_as s rest d g _ = stops _

  ends : (p : Program) (s : State) (v : Value) → P (ended p s v)
  ends p s v = either _ _ _ (stops _) (resumed s _ _ _)

  returns : (p : Program) (s : State) (v : Value) (rest : List Frame) → P (returned p s v rest)
  returns p s v (Caller call crosses ∷ rest) = goes _
  returns p s v _ = ends p s v

  performed : (p : Program) (r : Rights) (answer : ℕ) (s : State) (spot : Spot) → is_ask spot ≡ false → P (perform p r answer s spot)
  performed p r answer s (Does (Push v) rest) e = goes _
  performed p r answer s (Does (SizeOf ty) rest) e = goes _
  performed p r answer s (Does (GlobalAddress n) rest) e = goes _
  performed p r answer s (Does (LiteralAddress n) rest) e = goes _
  performed p r answer s (Does (LocalAddress n) rest) e = goes _
  performed p r answer s (Does (Load ty v) rest) e = value (loaded s.memory ty v) _ (λ x. either _ _ _ (goes _) (stops _))
  performed p r answer s (Does (Apply op ty v) rest) e = value _ _ (λ w. goes _)
  performed p r answer s (Does (Convert from to v) rest) e = value _ _ (λ w. goes _)
  performed p r answer s (Does (Step struct member v) rest) e = value _ _ (λ w. goes _)
  performed p r answer s (Does (Combine op first second v w) rest) e = value _ _ (λ x. goes _)
  performed p r answer s (Does (Decide op b v) rest) e = goes _
  performed p r answer s (Does (Judge v) rest) e = goes _
  performed p r answer s (Does (Enter f way values) rest) e = either _ _ _ (goes _) (stops _)
  performed p r answer s (Does (Ask device register) rest) e = cc
  performed p r answer s (Does (Tell device register v) rest) e = told_as s rest device register v
  performed p r answer s (Does (Spawn f v) rest) e = either _ _ _ (goes _) (stops _)
  performed p r answer s (Does (Switch v) rest) e = switched s rest v
  performed p r answer s (Does Self rest) e = goes _
  performed p r answer s (Does (Store ty to v) rest) e = stored p r s to (width ty) _ _
  performed p r answer s (Does (ReadByte ty to v done) rest) e = value (byte_read s.memory (further v done)) _ (λ x. either _ _ _ (goes _) (stops _))
  performed p r answer s (Does (WriteByte ty to v done cell) rest) e = stored p r s (further to done) 1 _ _
  performed p r answer s (Does (Branch v s1 other) rest) e = goes _
  performed p r answer s (Does (Test v loop) rest) e = goes _
  performed p r answer s (Does (JumpBack loop) rest) e = goes _
  performed p r answer s (Does Break rest) e = goes _
  performed p r answer s (Does Continue rest) e = goes _
  performed p r answer s (Does (Leave v) rest) e = returns p (left p s) v (unwind rest)
  performed p r answer s (Does FallOff rest) e = returns p (left p s) (value_at_end (function_at p s.call.function).gives) (unwind rest)
  performed p r answer s (Does Stuck rest) e = stops _

abbrev Quiet : Outcome → Type 0
Quiet (Goes made s) = answers_of made ≡ []
Quiet (Stops made e) = Unit {0}

quiet : (p : Program) (r : Rights) (answer : ℕ) (s : State) (spot : Spot) → is_ask spot ≡ false → Quiet (perform p r answer s spot)
quiet = performed Quiet (λ s. refl) (λ device register w s. refl) (λ e. tt)

-- ---- what looks at the answer

unasked : (p : Program) (r : Rights) (x y : ℕ) (s : State) (spot : Spot) → is_ask spot ≡ false → perform p r x s spot ≡ perform p r y s spot
unasked p r x y s (Does (Push v) rest) e = refl
unasked p r x y s (Does (SizeOf ty) rest) e = refl
unasked p r x y s (Does (GlobalAddress n) rest) e = refl
unasked p r x y s (Does (LiteralAddress n) rest) e = refl
unasked p r x y s (Does (LocalAddress n) rest) e = refl
unasked p r x y s (Does (Load ty v) rest) e = refl
unasked p r x y s (Does (Apply op ty v) rest) e = refl
unasked p r x y s (Does (Convert from to v) rest) e = refl
unasked p r x y s (Does (Step struct member v) rest) e = refl
unasked p r x y s (Does (Combine op first second v w) rest) e = refl
unasked p r x y s (Does (Decide op b v) rest) e = refl
unasked p r x y s (Does (Judge v) rest) e = refl
unasked p r x y s (Does (Enter f way values) rest) e = refl
unasked p r x y s (Does (Ask device register) rest) e = cc
unasked p r x y s (Does (Tell device register v) rest) e = refl
unasked p r x y s (Does (Spawn f v) rest) e = refl
unasked p r x y s (Does (Switch v) rest) e = refl
unasked p r x y s (Does Self rest) e = refl
unasked p r x y s (Does (Store ty to v) rest) e = refl
unasked p r x y s (Does (ReadByte ty to v done) rest) e = refl
unasked p r x y s (Does (WriteByte ty to v done cell) rest) e = refl
unasked p r x y s (Does (Branch v s1 other) rest) e = refl
unasked p r x y s (Does (Test v loop) rest) e = refl
unasked p r x y s (Does (JumpBack loop) rest) e = refl
unasked p r x y s (Does Break rest) e = refl
unasked p r x y s (Does Continue rest) e = refl
unasked p r x y s (Does (Leave v) rest) e = refl
unasked p r x y s (Does FallOff rest) e = refl
unasked p r x y s (Does Stuck rest) e = refl

abbrev pub IsAsk : Spot → Type 0
IsAsk spot = (device : ℕ) × (register : ℕ) × (rest : List Frame) × (spot ≡ Does (Ask device register) rest)

ask_at : (spot : Spot) → is_ask spot ≡ true → IsAsk spot
ask_at (Does (Push v) rest) e = cc
ask_at (Does (SizeOf ty) rest) e = cc
ask_at (Does (GlobalAddress n) rest) e = cc
ask_at (Does (LiteralAddress n) rest) e = cc
ask_at (Does (LocalAddress n) rest) e = cc
ask_at (Does (Load ty v) rest) e = cc
ask_at (Does (Apply op ty v) rest) e = cc
ask_at (Does (Convert from to v) rest) e = cc
ask_at (Does (Step struct member v) rest) e = cc
ask_at (Does (Combine op first second v w) rest) e = cc
ask_at (Does (Decide op b v) rest) e = cc
ask_at (Does (Judge v) rest) e = cc
ask_at (Does (Enter f way values) rest) e = cc
ask_at (Does (Ask device register) rest) e = (device, register, rest, refl)
ask_at (Does (Tell device register v) rest) e = cc
ask_at (Does (Spawn f v) rest) e = cc
ask_at (Does (Switch v) rest) e = cc
ask_at (Does Self rest) e = cc
ask_at (Does (Store ty to v) rest) e = cc
ask_at (Does (ReadByte ty to v done) rest) e = cc
ask_at (Does (WriteByte ty to v done cell) rest) e = cc
ask_at (Does (Branch v s1 other) rest) e = cc
ask_at (Does (Test v loop) rest) e = cc
ask_at (Does (JumpBack loop) rest) e = cc
ask_at (Does Break rest) e = cc
ask_at (Does Continue rest) e = cc
ask_at (Does (Leave v) rest) e = cc
ask_at (Does FallOff rest) e = cc
ask_at (Does Stuck rest) e = cc

pub goes_made : {O S E : Type 0} (a b : List O) (x y : S) (n : Next O S E) → n ≡ Goes a x → n ≡ Goes b y → a ≡ b
goes_made a b x y n e h = cc

goes_stops : {O S E : Type 0} (a b : List O) (x : S) (f : E) (n : Next O S E) → n ≡ Goes a x → n ≡ Stops b f → ⊥
goes_stops a b x f n e h = cc

-- ---- one step of the run

module _ (p : Program) (r : Rights) (s : State) where
  -- what a load makes
  pub asking : (answer : ℕ) → (i : IsAsk s.spot) → step p r answer s ≡ asked s i.2 i.0 i.1 answer
  asking answer i = ap (perform p r answer s) i.3

  module _ (t : State) (answer : ℕ) (made : List DeviceOp) (answers : List ℕ) (e : step p r answer s ≡ Goes made t) where
    abbrev Led : Bool → Type 0
    Led b = advance p r b s (answers_of made ++ answers) ≡ Goes made (record { state = t; answers = answers })

    loaded_one : IsAsk s.spot → answers_of made ≡ answer ∷ []
    loaded_one i = ap answers_of (sym (goes_made _ _ _ _ (step p r answer s) (asking answer i) e))

    pub stepped : run_step p r (record { state = s; answers = answers_of made ++ answers }) ≡ Goes made (record { state = t; answers = answers })
    stepped = by (asks s) refl
      where
        by : (b : Bool) → asks s ≡ b → Led b
        by true h =
            ap (λ l. advance p r true s (l ++ answers)) (loaded_one (ask_at s.spot h)) ∙ ap (with_answers answers) e
        by false h =
            let same : step p r 0 s ≡ Goes made t = unasked p r 0 answer s s.spot h ∙ e in
            let none : answers_of made ≡ [] = subst Quiet e (quiet p r answer s s.spot h) in
            let f : List ℕ → Next DeviceOp SourceRun End = λ l. Goes made (record { state = t; answers = l ++ answers }) in
            ap (with_answers (answers_of made ++ answers)) same ∙ ap f none

    pub unstarved : is_starved (record { state = s; answers = answers_of made ++ answers }) ≡ false
    unstarved = by (asks s) refl
      where
        by : (b : Bool) → asks s ≡ b → b && lacks (answers_of made ++ answers) ≡ false
        by true h = ap (λ l. lacks (l ++ answers)) (loaded_one (ask_at s.spot h))
        by false h = refl

  -- a step that ends the run, whatever its answer were, is no load
  module _ (f : End) (e : (answer : ℕ) → step p r answer s ≡ Stops [] f) where
    pub no_load : asks s ≡ false
    no_load = by (asks s) refl
      where
        by : (b : Bool) → asks s ≡ b → b ≡ false
        by true h = absurd (goes_stops _ _ _ _ (step p r 0 s) (asking 0 (ask_at s.spot h)) (e 0))
        by false h = refl

    pub stopped : (answers : List ℕ) → run_step p r (record { state = s; answers = answers }) ≡ Stops [] f
    stopped answers = ap (λ b. advance p r b s answers) no_load ∙ ap (with_answers answers) (e 0)

    pub fed_to_end : (answers : List ℕ) → is_starved (record { state = s; answers = answers }) ≡ false
    fed_to_end answers = ap (λ b. b && lacks answers) no_load
