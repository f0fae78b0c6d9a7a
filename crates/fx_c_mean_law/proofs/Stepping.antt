-- A source within a budget that reaches past its next step, and a run's operations on its bus.
use Rattle.std.proofs.Common.{◌≡◌, ℕ, zero, suc, ◌+◌, ◌≤◌, List, [], ◌∷◌, ◌++◌, length, Bool, true, false, cond, refl, ap, sym, ◌∙◌, subst, arith, append_assoc, append-nil}
use Rattle.fx_outcomes.specs.Runs.{Next, Goes, Outcome, before, act, within, expected}
use Rattle.fx_base.specs.declared.device_op.DeviceOp.{DeviceOp}
use Rattle.fx_device.specs.Bus.{BusState, operation}
use Rattle.fx_c_mean_model.specs.Laws.{IsOneOperation}
use Rattle.fx_c_mean_model.specs.declared.rights.Rights.{Rights}
use Rattle.fx_c_mean_model.specs.Programs.{Program}
use Rattle.fx_c_mean_model.specs.Steps.{State, step}
use Rattle.fx_c_mean_model.proofs.Every.{every_step}
use Rattle.fx_c_mean_model.proofs.Denials.{one_made}
use Rattle.fx_c_mean.specs.Walks.{is_console, request_of, Notes, Makes}
use Rattle.fx_c_mean_law.specs.Counting.{answers_of}

-- ---- the budget

past : {O S E : Type 0} (step : S → Next O S E) (extra : S → ℕ) (w k : ℕ) (s : S) → within step extra (w + suc k) w s ≡ act (step s) (λ t. expected step extra k t)
past step extra zero k s = let e : 0 + suc k ≡ suc k = omega arith in ap (λ n. within step extra n 0 s) e
past step extra (suc w) k s = let e : suc w + suc k ≡ suc (w + suc k) = omega arith in ap (λ n. within step extra n (suc w) s) e ∙ past step extra w k s

-- a budget that reaches past the next step of a source
pub reached_past : {O S E : Type 0} (step : S → Next O S E) (extra : S → ℕ) (k : ℕ) (s : S) → expected step extra (extra s + suc k) s ≡ act (step s) (λ t. expected step extra k t)
reached_past step extra k s = past step extra (extra s) k s

pub before-append : {O E : Type 0} (a b : List O) (x : Outcome O E) → before (a ++ b) x ≡ before a (before b x)
before-append {O} {E} a b x =
    let f : List O → Outcome O E = λ l. record { made = l; finish = x.finish } in
    ap f (append_assoc a b x.made)

-- ---- the answers

pub answers-append : (xs ys : List DeviceOp) → answers_of (xs ++ ys) ≡ answers_of xs ++ answers_of ys
answers-append [] ys = refl
answers-append (op ∷ xs) ys =
    let own = cond op.write [] (op.value ∷ []) in
    ap (λ l. own ++ l) (answers-append xs ys) ∙ sym (append_assoc own (answers_of xs) (answers_of ys))

-- ---- the bus

module _ (device reg value : ℕ) where
  abbrev Op : Bool → DeviceOp
  Op w = record { device = device; reg = reg; write = w; value = value }

  same_op : (w : Bool) → operation device (request_of (Op w)) value ≡ Op w
  same_op true = refl
  same_op false = refl

pub requested : (op : DeviceOp) → operation op.device (request_of op) op.value ≡ op
requested op = same_op op.device op.reg op.value op.write

noted : (console : Bool) (op : DeviceOp) (old new : BusState) → Notes console op old new → new.transcript ≡ old.transcript ++ op ∷ []
noted true op old new h = ap (λ (b : BusState). b.transcript) h
noted false op old new h = h.transcript ∙ ap (λ o. old.transcript ++ o ∷ []) (requested op)

one_op : (op : DeviceOp) (ops : List DeviceOp) → length (op ∷ ops) ≤ 1 → ops ≡ []
one_op op [] h = refl
one_op op (next ∷ more) h = absurd (omega (arith, h))

pub made_more : (made : List DeviceOp) (old new : BusState) → length made ≤ 1 → Makes made old new → new.transcript ≡ old.transcript ++ made
made_more [] old new one h = ap (λ (b : BusState). b.transcript) h ∙ sym (append-nil old.transcript)
made_more (op ∷ ops) old new one h = noted (is_console op.device op.reg) op old new h ∙ ap (λ l. old.transcript ++ op ∷ l) (sym (one_op op ops one))

-- a step makes one operation at most
pub one_of : (p : Program) (r : Rights) (answer : ℕ) (s t : State) (made : List DeviceOp) → step p r answer s ≡ Goes made t → length made ≤ 1
one_of p r answer s t made e = subst IsOneOperation e (every_step p r IsOneOperation (one_made p r) answer s)
