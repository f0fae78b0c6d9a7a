-- What an operation does to the devices' parts of a run.
use Rattle.std.proofs.Common.{◌≡◌, ◌≢◌, ℕ, zero, suc, ◌+◌, ◌≤◌, ◌<◌, ◌⊎◌, inl, inr, List, [], ◌∷◌, ◌++◌, length, take, drop, Option, Some, None, Ok, Bool, true, false, cond, nat_eq, refl, ap, sym, ◌∙◌, subst, arith, length-append}
use Rattle.std.specs.Prelude.{not, ◌&&◌, ◌==◌}
use Rattle.std.proofs.lemmas.Bool.{cond-true}
use Rattle.std.proofs.lemmas.Bool.Decides.{nat_tests, eqb_tells}
use Rattle.std.proofs.lemmas.List.{append-nil, take-append-le}
use Rattle.std.proofs.lemmas.List.Elements.{filter-append}
use Rattle.std.proofs.Math.Seq.{take-length}
use Rattle.fx_base.specs.declared.device_op.DeviceOp.{DeviceOp}
use Rattle.fx_device.specs.Rules.{Meaning, left_in, load, store}
use Rattle.fx_device.specs.Bus.{BusState, box_of, with_box, operation, operations_of, silence, Ends, Lands, Carries, Leads, answered}
use Rattle.fx_device.proofs.Boxes.{box_of-with_box, box_of-with_box_other, box_of-with_none}
use Rattle.fx_machine_model.specs.Moves.{all_ones}
use Rattle.fx_machine.specs.Turns.{request_of, console_load}
use Rattle.fx_run_core.specs.Ran.{AllOnes, console_others, plug_of, IsPlugged}
use Rattle.fx_run_core.specs.Reached.{Served, ServedOrDue, Devices, DevicesDue}
use Rattle.fx_outcomes.proofs.Follows.{nat_split}

-- ---- lists of operations

pub ones-append : (xs : List DeviceOp) (op : DeviceOp) → AllOnes xs → (op.write ≡ false → op.value ≡ all_ones) → AllOnes (xs ++ op ∷ [])
ones-append [] op h e = (e, tt)
ones-append (x ∷ xs) op h e = (h.0, ones-append xs op h.1 e)

drop-append : (n : ℕ) (xs : List DeviceOp) (op : DeviceOp) → n ≤ length xs → drop n (xs ++ op ∷ []) ≡ drop n xs ++ op ∷ []
drop-append zero xs op h = refl
drop-append (suc n) [] op h = absurd (omega arith)
drop-append (suc n) (x ∷ xs) op h = drop-append n xs op (omega arith)

drop-all : (xs : List DeviceOp) → drop (length xs) xs ≡ []
drop-all [] = refl
drop-all (x ∷ xs) = drop-all xs

-- the operation that a request of an operation is
module _ (device reg value : ℕ) where
  abbrev Op : Bool → DeviceOp
  Op w = record { device = device; reg = reg; write = w; value = value }

  same_op : (w : Bool) → operation device (cond w (store reg value) (load reg)) value ≡ Op w
  same_op true = refl
  same_op false = refl

pub requested : (op : DeviceOp) → operation op.device (request_of op) op.value ≡ op
requested op = same_op op.device op.reg op.value op.write

-- what is answered where there is no box
silent : (w : Bool) (reg value v : ℕ) → w ≡ false → v ≡ silence (cond w (store reg value) (load reg)) → v ≡ all_ones
silent true reg value v e h = cc
silent false reg value v e h = h

-- ---- one operation

pub own : (ops : List DeviceOp) (op : DeviceOp) (d : ℕ) → op.device ≡ d → operations_of d (ops ++ op ∷ []) ≡ operations_of d ops ++ op ∷ []
own ops op d e = let t : nat_eq op.device d ≡ true = grind (arith, nat_tests) in rw (filter-append (λ (o : DeviceOp). nat_eq o.device d) ops (op ∷ []), t) refl

pub other : (ops : List DeviceOp) (op : DeviceOp) (d : ℕ) → op.device ≢ d → operations_of d (ops ++ op ∷ []) ≡ operations_of d ops
other ops op d ne = let t : nat_eq op.device d ≡ false = grind (arith, nat_tests) in rw (filter-append (λ (o : DeviceOp). nat_eq o.device d) ops (op ∷ []), t) (append-nil (operations_of d ops))

due_next : (plug : Option ℕ) (ops : List DeviceOp) (op : DeviceOp) → IsPlugged plug ops → IsPlugged plug (ops ++ op ∷ []) ⊎ ((plug ≡ Some (length (ops ++ op ∷ []))) × (length ops < length (ops ++ op ∷ [])))
due_next None ops op h = inl tt
due_next (Some n) ops op h =
    let e = length-append ops (op ∷ []) in
    elim (nat_split n (length ops + 1)) [
      | inl le ↦ let same : n ≡ length (ops ++ op ∷ []) = omega arith in inr (ap Some same, omega arith)
      | inr (k, f) ↦ inl (omega arith)
    ]

pub served_due : (first : Option Meaning) (plug : Option ℕ) (before ops : List DeviceOp) (now : Option Meaning) → Served first plug ops now → ServedOrDue first plug before ops now
served_due None plug before ops now h = h
served_due (Some b) plug before ops (Some c) h = (h.0, inl h.1)
served_due (Some b) plug before ops None h = h

-- an operation of the device itself
served_own : (first : Option Meaning) (plug : Option ℕ) (ops : List DeviceOp) (op : DeviceOp) (now content after : Option Meaning)
    → Served first plug ops now → Ends op.device (request_of op) (Ok op.value) now content → (now ≡ None → after ≡ None) → ((c : Meaning) → now ≡ Some c → after ≡ content) → ServedOrDue first plug ops (ops ++ op ∷ []) after
served_own None plug ops op None content after h ends empty held = (empty refl, ones-append ops op h.1 (λ e. silent op.write op.reg op.value op.value e ends.0))
served_own None plug ops op (Some c) content after h ends empty held = let x = h.0 in cc
served_own (Some b) plug ops op (Some c) content after h ends empty held =
    let more : Leads b (ops ++ operation op.device (request_of op) op.value ∷ []) (left_in c ends.0) = answered op.device (request_of op) op.value ends.0 ops c h.0 ends.1 in
    let led : Leads b (ops ++ op ∷ []) (left_in c ends.0) = subst (λ o. Leads b (ops ++ o ∷ []) (left_in c ends.0)) (requested op) more in
    subst (ServedOrDue (Some b) plug ops (ops ++ op ∷ [])) (sym (held c refl ∙ ends.2)) (led, due_next plug ops op h.1)
served_own (Some b) plug ops op None content after h ends empty held =
    let (n, is, le, led, ones) = h in
    let size = length-append ops (op ∷ []) in
    let front : take n ops ≡ take n (ops ++ op ∷ []) = sym (take-append-le n ops (op ∷ []) le) in
    let back : drop n ops ++ op ∷ [] ≡ drop n (ops ++ op ∷ []) = sym (drop-append n ops op le) in
    subst (ServedOrDue (Some b) plug ops (ops ++ op ∷ [])) (sym (empty refl))
    (n, is, omega arith, (led.0, subst (λ l. Leads b l led.0) front led.1), subst AllOnes back (ones-append (drop n ops) op ones (λ e. silent op.write op.reg op.value op.value e ends.0)))

pub served_carried : (first : Option Meaning) (plug : Option ℕ) (d : ℕ) (op : DeviceOp) (old new : BusState)
    → Carries op.device (request_of op) (Ok op.value) old new → Served first plug (operations_of d old.transcript) (box_of d old.boxes) → ServedOrDue first plug (operations_of d old.transcript) (operations_of d new.transcript) (box_of d new.boxes)
served_carried first plug d op old new carries h = elim (eqb_tells op.device d) [
  | inl (t, same) ↦
      let is : operations_of d new.transcript ≡ operations_of d old.transcript ++ op ∷ [] = ap (operations_of d) made ∙ own old.transcript op d same in
      subst (λ l. ServedOrDue first plug (operations_of d old.transcript) l (box_of d new.boxes)) (sym is)
      (served_own first plug (operations_of d old.transcript) op (box_of d old.boxes) lands.content (box_of d new.boxes) h
      (subst (λ k. Ends op.device (request_of op) (Ok op.value) (box_of k old.boxes) lands.content) same lands.ends)
      (λ e. ap (box_of d) boxes ∙ ap (λ k. box_of d (with_box k lands.content old.boxes)) same ∙ emptied same e)
      (λ c e. ap (box_of d) boxes ∙ ap (λ k. box_of d (with_box k lands.content old.boxes)) same ∙ box_of-with_box old.boxes d c lands.content e))
  | inr (t, apart) ↦
      let is : operations_of d new.transcript ≡ operations_of d old.transcript = ap (operations_of d) made ∙ other old.transcript op d apart in
      let ne : d ≢ op.device = λ e. apart (sym e) in
      let kept : box_of d new.boxes ≡ box_of d old.boxes = ap (box_of d) boxes ∙ box_of-with_box_other old.boxes op.device d lands.content ne in
      subst (λ l. ServedOrDue first plug (operations_of d old.transcript) l (box_of d new.boxes)) (sym is) (subst (ServedOrDue first plug (operations_of d old.transcript) (operations_of d old.transcript)) (sym kept) (served_due first plug (operations_of d old.transcript) (operations_of d old.transcript) (box_of d old.boxes) h))
]
  where
    lands : Lands op.device (request_of op) (Ok op.value) old.boxes new.boxes
    lands = carries.boxes

    boxes : new.boxes ≡ with_box op.device lands.content old.boxes
    boxes = lands.boxes

    made : new.transcript ≡ old.transcript ++ op ∷ []
    made = carries.transcript ∙ ap (λ o. old.transcript ++ o ∷ []) (requested op)

    emptied : op.device ≡ d → box_of d old.boxes ≡ None → box_of d (with_box d lands.content old.boxes) ≡ None
    emptied same e =
        let at : Ends op.device (request_of op) (Ok op.value) None lands.content = subst (λ x. Ends op.device (request_of op) (Ok op.value) x lands.content) (ap (λ k. box_of k old.boxes) same ∙ e) lands.ends in
        ap (λ k. box_of d (with_box d k old.boxes)) at.1 ∙ box_of-with_none old.boxes d e

-- ---- the console

console_append : (ops : List DeviceOp) (op : DeviceOp) → AllOnes (console_others ops) → ((op.device == 0) && not (op.reg == 0) ≡ true → op.write ≡ false → op.value ≡ all_ones) → AllOnes (console_others (ops ++ op ∷ []))
console_append ops op h silent = subst AllOnes (sym (filter-append (λ (o : DeviceOp). (o.device == 0) && not (o.reg == 0)) ops (op ∷ []))) (by ((op.device == 0) && not (op.reg == 0)) refl)
  where
    by : (t : Bool) → ((op.device == 0) && not (op.reg == 0)) ≡ t → AllOnes (console_others ops ++ cond t (op ∷ []) [])
    by true e = ones-append (console_others ops) op h (silent e)
    by false e = subst AllOnes (sym (append-nil (console_others ops))) h

front : (a b : Bool) → a && b ≡ true → a ≡ true
front true b e = refl
front false b e = cc

-- the console has no box
console_silent : (op : DeviceOp) (old new : BusState) → Carries op.device (request_of op) (Ok op.value) old new → (op.device == 0) && not (op.reg == 0) ≡ true → op.write ≡ false → op.value ≡ all_ones
console_silent op old new carries there write =
    let lands = carries.boxes in
    let first : (op.device == 0) ≡ true = front (op.device == 0) (not (op.reg == 0)) there in
    let no_box : box_of op.device old.boxes ≡ None = cond-true _ _ _ first in
    let at : Ends op.device (request_of op) (Ok op.value) None lands.content = subst (λ x. Ends op.device (request_of op) (Ok op.value) x lands.content) no_box lands.ends in
    silent op.write op.reg op.value op.value write at.0

pub devices_carried : (boxes : List (Option Meaning)) (unplug : Option (ℕ × ℕ)) (op : DeviceOp) (old new : BusState) → Carries op.device (request_of op) (Ok op.value) old new → Devices boxes unplug old → DevicesDue boxes unplug old.transcript new
devices_carried boxes unplug op old new carries h = record {
  each = λ d ne. served_carried (box_of d boxes) (plug_of unplug d) d op old new carries (h.each d ne);
  console = subst (λ t. AllOnes (console_others t)) (sym (carries.transcript ∙ ap (λ o. old.transcript ++ o ∷ []) (requested op))) (console_append old.transcript op h.console (console_silent op old new carries));
}

pub devices_same : (boxes : List (Option Meaning)) (unplug : Option (ℕ × ℕ)) (old : BusState) → Devices boxes unplug old → DevicesDue boxes unplug old.transcript old
devices_same boxes unplug old h = record {
  each = λ d ne. served_due (box_of d boxes) (plug_of unplug d) (operations_of d old.transcript) (operations_of d old.transcript) (box_of d old.boxes) (h.each d ne);
  console = h.console;
}

pub devices_noted : (boxes : List (Option Meaning)) (unplug : Option (ℕ × ℕ)) (answer : ℕ) (old : BusState) → Devices boxes unplug old → DevicesDue boxes unplug old.transcript (record old { transcript = old.transcript ++ console_load answer ∷ [] })
devices_noted boxes unplug answer old h = record {
  each = λ d ne.
      let none : operations_of d (old.transcript ++ console_load answer ∷ []) ≡ operations_of d old.transcript = other old.transcript (console_load answer) d (λ e. ne (sym e)) in
      subst (λ l. ServedOrDue (box_of d boxes) (plug_of unplug d) (operations_of d old.transcript) l (box_of d old.boxes)) (sym none) (served_due (box_of d boxes) (plug_of unplug d) (operations_of d old.transcript) (operations_of d old.transcript) (box_of d old.boxes) (h.each d ne));
  console = console_append old.transcript (console_load answer) h.console (λ e. cc);
}

-- ---- unplugging

pub led_whole : (b c : Meaning) (n : ℕ) (ops : List DeviceOp) → n ≡ length ops → Leads b ops c → ((x : Meaning) × Leads b (take n ops) x) × AllOnes (drop n ops)
led_whole b c n ops is led = (
  (c, subst (λ l. Leads b l c) (sym (ap (λ k. take k ops) is ∙ take-length ops)) led),
  subst AllOnes (sym (ap (λ k. drop k ops) is ∙ drop-all ops)) tt,
)

-- a device that isn't due goes on as it is
pub not_due : (first : Option Meaning) (plug : Option ℕ) (before ops : List DeviceOp) (now : Option Meaning) → ((plug ≡ Some (length ops)) → length before < length ops → ⊥) → ServedOrDue first plug before ops now → Served first plug ops now
not_due None plug before ops now never h = h
not_due (Some b) plug before ops (Some c) never (led, inl in_box) = (led, in_box)
not_due (Some b) plug before ops (Some c) never (led, inr due) = absurd (never due.0 due.1)
not_due (Some b) plug before ops None never h = h

-- one that is due is dropped
pub dropped : (first : Option Meaning) (plug : Option ℕ) (before ops : List DeviceOp) (now : Option Meaning) → plug ≡ Some (length ops) → ServedOrDue first plug before ops now → Served first plug ops None
dropped None plug before ops now is h = (refl, h.1)
dropped (Some b) plug before ops (Some c) is h = let w = led_whole b c (length ops) ops refl h.0 in (length ops, is, omega arith, w.0, w.1)
dropped (Some b) plug before ops None is h = h

some_same : (a b : ℕ) → Some a ≡ Some b → a ≡ b
some_same a b e = cc

pub plug_at : (u : ℕ × ℕ) (d : ℕ) → u.0 ≡ d → plug_of (Some u) d ≡ Some u.1
plug_at u d e = let t : nat_eq u.0 d ≡ true = grind (arith, nat_tests) in cond-true _ _ _ t

pub plug_other : (u : ℕ × ℕ) (d : ℕ) (n : ℕ) → plug_of (Some u) d ≡ Some n → (u.0 ≡ d) × (u.1 ≡ n)
plug_other u d n e = by (nat_eq u.0 d) refl e
  where
    by : (t : Bool) → nat_eq u.0 d ≡ t → cond t (Some u.1) None ≡ Some n → (u.0 ≡ d) × (u.1 ≡ n)
    by true q e = let s : u.0 ≡ d = grind (arith, nat_tests) in (s, some_same u.1 n e)
    by false q e = cc
