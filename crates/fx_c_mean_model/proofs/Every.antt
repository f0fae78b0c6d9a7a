-- What holds of every step that holds of each way in which a step comes to its outcome.
use Rattle.std.proofs.Common.{◌≡◌, ℕ, Bool, true, false, List, [], ◌∷◌, Option, Some, None, Result, Ok, Err, if◌then◌else◌, refl, subst}
use Rattle.fx_outcomes.specs.Runs.{Goes, Stops}
use Rattle.fx_base.specs.declared.device_op.DeviceOp.{DeviceOp}
use Rattle.fx_c_mean_blocks.specs.declared.value.Value.{Value}
use Rattle.fx_c_mean_blocks.specs.declared.value.Value.TheVariants.{Number}
use Rattle.fx_c_mean_blocks.specs.declared.value.Cell.{Cell}
use Rattle.fx_c_mean_blocks.specs.declared.block.Place.{Place}
use Rattle.fx_c_mean_blocks.specs.declared.block.Place.TheVariants.{Global, Literal, Local}
use Rattle.fx_c_mean_blocks.specs.declared.fault.Fault.{Fault}
use Rattle.fx_c_mean_blocks.specs.declared.fault.Fault.TheVariants as fault
use Rattle.fx_c_mean_blocks.specs.declared.block.Object.{Object}
use Rattle.fx_c_mean_blocks.specs.Blocks.{and_then, reached, unless_literal, width, byte_read, loaded, writable}
use Rattle.fx_c_mean_model.specs.declared.end.End.{End}
use Rattle.fx_c_mean_model.specs.declared.rights.Rights.{Rights}
use Rattle.fx_c_mean_model.specs.Programs.{Program, function_at}
use Rattle.fx_c_mean_model.specs.States.{Frame, Caller, Spot, Does, Push, SizeOf, GlobalAddress, LiteralAddress, LocalAddress, Load, Apply, Convert, Step, Combine, Decide, Judge, Enter, Ask, Tell, Spawn, Switch, Self, Store, ReadByte, WriteByte, Branch, Test, JumpBack, Break, Continue, Leave, FallOff, Stuck, unwind, give}
use Rattle.fx_c_mean_model.specs.Steps.{Thread, Running, Waiting, Ended, State, Outcome, if_value, granted, perform, step, told, switch, resume, ended, returned, stores, further, left, value_at_end}
use Rattle.fx_c_mean_model.specs.Laws.{IsNoDenial}

-- a fact that each way to an outcome has or keeps
pub record Closed (p : Program) (r : Rights) (P : Outcome → Type 0) : Type 0 where
  pub goes : (s : State) → P (Goes [] s)
  pub makes : (op : DeviceOp) (s : State) → P (Goes (op ∷ []) s)
  pub stops : (e : End) → IsNoDenial e → P (Stops [] e)
  pub reads : (s : State) (v : Value) (place : Place) (done : Outcome) → P done → P (granted p r s v false place done)
  pub writes : (s : State) (v : Value) (place : Place) (done : Outcome) → unless_literal place ≡ Ok place → P done → P (granted p r s v true place done)

either : (P : Outcome → Type 0) (b : Bool) (x y : Outcome) → P x → P y → P (if b then x else y)
either P true x y h k = h
either P false x y h k = k

value : (p : Program) (r : Rights) (P : Outcome → Type 0) → Closed p r P → {A : Type 0} (x : Result A Fault) (go : A → Outcome) → ((a : A) → P (go a)) → P (if_value x go)
value p r P c (Ok a) go h = h a
value p r P c (Err fault.Divide) go h = c.stops _ tt
value p r P c (Err fault.Undefined) go h = c.stops _ tt

unless : (place : Place) (named : Place) → unless_literal place ≡ Ok named → unless_literal named ≡ Ok named
unless (Literal n) named e = cc
unless (Global n) named e = let h : Global n ≡ named = cc in subst (λ x. unless_literal x ≡ Ok x) h refl
unless (Local f n) named e = let h : Local f n ≡ named = cc in subst (λ x. unless_literal x ≡ Ok x) h refl

to_write : (x : Result Object Fault) (place : Place) → and_then x (λ o. unless_literal o.place) ≡ Ok place → unless_literal place ≡ Ok place
to_write (Ok o) place e = unless o.place place e
to_write (Err f) place e = cc

value_is : (p : Program) (r : Rights) (P : Outcome → Type 0) → Closed p r P → {A : Type 0} (x : Result A Fault) (go : A → Outcome) → ((a : A) → x ≡ Ok a → P (go a)) → P (if_value x go)
value_is p r P c (Ok a) go h = h a refl
value_is p r P c (Err fault.Divide) go h = c.stops _ tt
value_is p r P c (Err fault.Undefined) go h = c.stops _ tt

stored : (p : Program) (r : Rights) (P : Outcome → Type 0) → Closed p r P → (s : State) (to : Value) (bytes : ℕ) (cells : List Cell) (next : Spot) → P (stores p r s to bytes cells next)
stored p r P c s to bytes cells next =
    value_is p r P c (writable s.memory to bytes) _ (λ place e. c.writes s to place _ (to_write (reached s.memory to bytes) place e) (c.goes _))

resumed : (p : Program) (r : Rights) (P : Outcome → Type 0) → Closed p r P → (s : State) (left : Thread) (t : ℕ) (x : Option Thread) → P (resume s left t x)
resumed p r P c s left t (Some (Waiting spot call)) = c.goes _
resumed p r P c s left t (Some Running) = c.stops _ tt
resumed p r P c s left t (Some Ended) = c.stops _ tt
resumed p r P c s left t None = c.stops _ tt

switched : (p : Program) (r : Rights) (P : Outcome → Type 0) → Closed p r P → (s : State) (rest : List Frame) (v : Value) → P (switch s rest v)
switched p r P c s rest (Number t) = either P _ _ _ (c.goes _) (resumed p r P c s _ t _)
switched p r P c s rest _ = c.stops _ tt

tells : (p : Program) (r : Rights) (P : Outcome → Type 0) → Closed p r P → (s : State) (rest : List Frame) (d g : ℕ) (v : Value) → P (told s rest d g v)
tells p r P c s rest d g (Number w) = c.makes _ _
tells p r P c s rest d g _ = c.stops _ tt

ends : (p : Program) (r : Rights) (P : Outcome → Type 0) → Closed p r P → (s : State) (v : Value) → P (ended p s v)
ends p r P c s v = either P _ _ _ (c.stops _ tt) (resumed p r P c s _ _ _)

returns : (p : Program) (r : Rights) (P : Outcome → Type 0) → Closed p r P → (s : State) (v : Value) (rest : List Frame) → P (returned p s v rest)
returns p r P c s v (Caller call crosses ∷ rest) = c.goes _
returns p r P c s v _ = ends p r P c s v

performed : (p : Program) (r : Rights) (P : Outcome → Type 0) → Closed p r P → (answer : ℕ) (s : State) (spot : Spot) → P (perform p r answer s spot)
performed p r P c answer s (Does (Push v) rest) = c.goes _
performed p r P c answer s (Does (SizeOf ty) rest) = c.goes _
performed p r P c answer s (Does (GlobalAddress n) rest) = c.goes _
performed p r P c answer s (Does (LiteralAddress n) rest) = c.goes _
performed p r P c answer s (Does (LocalAddress n) rest) = c.goes _
performed p r P c answer s (Does (Load ty v) rest) = value p r P c (loaded s.memory ty v) _ (λ x. c.reads s v x.1 _ (c.goes (record s { spot = give x.0 rest })))
performed p r P c answer s (Does (Apply op ty v) rest) = value p r P c _ _ (λ w. c.goes _)
performed p r P c answer s (Does (Convert from to v) rest) = value p r P c _ _ (λ w. c.goes _)
performed p r P c answer s (Does (Step struct member v) rest) = value p r P c _ _ (λ w. c.goes _)
performed p r P c answer s (Does (Combine op first second v w) rest) = value p r P c _ _ (λ w. c.goes _)
performed p r P c answer s (Does (Decide op b v) rest) = c.goes _
performed p r P c answer s (Does (Judge v) rest) = c.goes _
performed p r P c answer s (Does (Enter f way values) rest) = either P _ _ _ (c.goes _) (c.stops _ tt)
performed p r P c answer s (Does (Ask device register) rest) = c.makes _ _
performed p r P c answer s (Does (Tell device register v) rest) = tells p r P c s rest device register v
performed p r P c answer s (Does (Spawn f v) rest) = either P _ _ _ (c.goes _) (c.stops _ tt)
performed p r P c answer s (Does (Switch v) rest) = switched p r P c s rest v
performed p r P c answer s (Does Self rest) = c.goes _
performed p r P c answer s (Does (Store ty to v) rest) = stored p r P c s to (width ty) _ _
performed p r P c answer s (Does (ReadByte ty to v done) rest) = value p r P c (byte_read s.memory (further v done)) _ (λ x. c.reads s (further v done) x.1 _ (c.goes (record s { spot = Does (WriteByte ty to v done x.0) rest })))
performed p r P c answer s (Does (WriteByte ty to v done cell) rest) = stored p r P c s (further to done) 1 _ _
performed p r P c answer s (Does (Branch v s1 other) rest) = c.goes _
performed p r P c answer s (Does (Test v loop) rest) = c.goes _
performed p r P c answer s (Does (JumpBack loop) rest) = c.goes _
performed p r P c answer s (Does Break rest) = c.goes _
performed p r P c answer s (Does Continue rest) = c.goes _
performed p r P c answer s (Does (Leave v) rest) = returns p r P c (left p s) v (unwind rest)
performed p r P c answer s (Does FallOff rest) = returns p r P c (left p s) (value_at_end (function_at p s.call.function).gives) (unwind rest)
performed p r P c answer s (Does Stuck rest) = c.stops _ tt

pub every_step : (p : Program) (r : Rights) (P : Outcome → Type 0) → Closed p r P → (answer : ℕ) (s : State) → P (step p r answer s)
every_step p r P c answer s = performed p r P c answer s s.spot
