-- What is seen of a run: the operations, and the end.
use Rattle.std.specs.Prelude.{ℕ, zero, suc, ◌%◌, List, [], ◌∷◌, ◌++◌, Option, Some, None}

-- One step: on to a state, or the end. A step that waits for an answer that is not there goes on to
-- its own state and makes nothing.
pub data Next (Operation State End : Type 0) : Type 0 where
  Goes : (made : List Operation) (after : State) → Next Operation State End
  Stops : (made : List Operation) (with_end : End) → Next Operation State End

pub record Outcome (Operation End : Type 0) : Type 0 where
  pub made : List Operation
  pub finish : Option End

abbrev pub nothing : {O E : Type 0} → Outcome O E
nothing = record { made = []; finish = None }

abbrev pub before : {O E : Type 0} → List O → Outcome O E → Outcome O E
before o x = record { made = o ++ x.made; finish = x.finish }

abbrev pub act : {O S E : Type 0} → Next O S E → (S → Outcome O E) → Outcome O E
act (Goes o t) go = before o (go t)
act (Stops o e) go = record { made = o; finish = Some e }

-- A source within a budget, where the next step is done after `wait` more units of cost and one.
abbrev pub within : {O S E : Type 0} (step : S → Next O S E) (extra : S → ℕ) (budget wait : ℕ) → S → Outcome O E
within step extra zero wait s = nothing
within step extra (suc k) (suc wait) s = within step extra k wait s
within step extra (suc k) zero s = act (step s) (λ t. within step extra k (extra t) t)

-- The operations and the end of the steps whose summed cost is at most the budget. A step at s costs
-- extra s + 1.
abbrev pub expected : {O S E : Type 0} (step : S → Next O S E) (extra : S → ℕ) (budget : ℕ) → S → Outcome O E
expected step extra k s = within step extra k (extra s) s

-- A machine of so many processors, by a schedule of processor numbers. A stop ends the run.
abbrev pub run : {O M T : Type 0} (turn : ℕ → M → Next O M T) (processors : ℕ) → List ℕ → M → Outcome O T
run turn v [] m = nothing
run turn v (u ∷ us) m = act (turn (u % v) m) (λ n. run turn v us n)

-- The state that a turn leads to: a stop leaves the state that it was made in.
abbrev pub left : {O M T : Type 0} → Next O M T → M → M
left (Goes o n) m = n
left (Stops o t) m = m

-- What comes of the state after a turn; after a stop nothing changes it.
abbrev pub later : {O M T A : Type 0} → Next O M T → A → (M → A) → A
later (Goes o n) stopped go = go n
later (Stops o t) stopped go = stopped

-- The state after a schedule.
abbrev pub after : {O M T : Type 0} (turn : ℕ → M → Next O M T) (processors : ℕ) → List ℕ → M → M
after turn v [] m = m
after turn v (u ∷ us) m = later (turn (u % v) m) m (λ n. after turn v us n)

-- The number of turns made by a schedule until the stop, the one that stops included.
abbrev pub turns : {O M T : Type 0} (turn : ℕ → M → Next O M T) (processors : ℕ) → List ℕ → M → ℕ
turns turn v [] m = 0
turns turn v (u ∷ us) m = suc (later (turn (u % v) m) 0 (λ n. turns turn v us n))
