-- What an operation does to the devices' parts of a run.
use Rattle.std.proofs.Common.{◌≡◌, ◌≢◌, ℕ, inl, inr, List, [], ◌∷◌, ◌++◌, Option, Some, None, Ok, Err, Bool, true, false, cond, nat_eq, refl, ap, sym, ◌∙◌, subst, arith, append-nil}
use Rattle.std.specs.Prelude.{not, ◌&&◌, ◌==◌}
use Rattle.std.proofs.lemmas.Bool.{cond-true}
use Rattle.std.proofs.lemmas.Bool.Decides.{nat_tests, eqb_tells}
use Rattle.std.proofs.lemmas.List.Elements.{filter-append}
use Rattle.fx_base.specs.declared.device_op.DeviceOp.{DeviceOp}
use Rattle.fx_device.specs.Rules.{Meaning, Held, Failed, Request, left_in, load, store}
use Rattle.fx_device.specs.Bus.{BusState, box_of, with_box, operation, operations_of, silence, Ends, Lands, Carries, Leads, none, answered}
use Rattle.fx_device.specs.declared.bus_error.BusError.TheVariants as errors
use Rattle.fx_device.proofs.Boxes.{box_of-with_box, box_of-with_box_other, box_of-with_none}
use Rattle.fx_c_mean.specs.Walks.{request_of, is_console, Notes, Makes}
use Rattle.fx_c_mean_law.proofs.Stepping.{requested}
use Rattle.fx_cmd_single.specs.Streams.{all_ones}
use Rattle.fx_cmd_single.specs.Devices.{AllOnes, console_others, Part, Served, Devices}

-- ---- lists of operations

ones-append : (xs : List DeviceOp) (op : DeviceOp) → AllOnes xs → (op.write ≡ false → op.value ≡ all_ones) → AllOnes (xs ++ op ∷ [])
ones-append [] op h e = (e, tt)
ones-append (x ∷ xs) op h e = (h.0, ones-append xs op h.1 e)

-- what is answered where there is no box
silent : (w : Bool) (reg value v : ℕ) → w ≡ false → v ≡ silence (elim w as (λ _. Request) [ true ↦ store reg value | false ↦ load reg ]) → v ≡ all_ones
silent true reg value v e h = cc
silent false reg value v e h = h

own : (ops : List DeviceOp) (op : DeviceOp) (d : ℕ) → op.device ≡ d → operations_of d (ops ++ op ∷ []) ≡ operations_of d ops ++ op ∷ []
own ops op d e = let t : nat_eq op.device d ≡ true = grind (arith, nat_tests) in rw (filter-append (λ (o : DeviceOp). nat_eq o.device d) ops (op ∷ []), t) refl

other : (ops : List DeviceOp) (op : DeviceOp) (d : ℕ) → op.device ≢ d → operations_of d (ops ++ op ∷ []) ≡ operations_of d ops
other ops op d ne = let t : nat_eq op.device d ≡ false = grind (arith, nat_tests) in rw (filter-append (λ (o : DeviceOp). nat_eq o.device d) ops (op ∷ []), t) (append-nil (operations_of d ops))

-- ---- one operation that the bus carried out

served_own : (first : Option Meaning) (ops : List DeviceOp) (op : DeviceOp) (now content after : Option Meaning)
    → Served first ops now → Ends op.device (request_of op) (Ok op.value) now content → (now ≡ None → after ≡ None) → ((c : Meaning) → now ≡ Some c → after ≡ content) → Served first (ops ++ op ∷ []) after
served_own None ops op None content after h ends empty held = (empty refl, ones-append ops op h.1 (λ e. silent op.write op.reg op.value op.value e ends.0))
served_own None ops op (Some c) content after h ends empty held = let x = h.0 in cc
served_own (Some b) ops op (Some c) content after h ends empty held =
    let more : Leads b (ops ++ operation op.device (request_of op) op.value ∷ []) (left_in c ends.0) = answered op.device (request_of op) op.value ends.0 ops c h ends.1 in
    let led : Leads b (ops ++ op ∷ []) (left_in c ends.0) = subst (λ o. Leads b (ops ++ o ∷ []) (left_in c ends.0)) (requested op) more in
    subst (Served (Some b) (ops ++ op ∷ [])) (sym (held c refl ∙ ends.2)) led
served_own (Some b) ops op None content after h ends empty held = absurd h

served_carried : (first : Option Meaning) (d : ℕ) (op : DeviceOp) (old new : BusState)
    → Carries op.device (request_of op) (Ok op.value) old new → Served first (operations_of d old.transcript) (box_of d old.boxes) → Served first (operations_of d new.transcript) (box_of d new.boxes)
served_carried first d op old new carries h = elim (eqb_tells op.device d) [
  | inl (t, same) ↦
      let is : operations_of d new.transcript ≡ operations_of d old.transcript ++ op ∷ [] = ap (operations_of d) made ∙ own old.transcript op d same in
      subst (λ l. Served first l (box_of d new.boxes)) (sym is)
      (served_own first (operations_of d old.transcript) op (box_of d old.boxes) lands.content (box_of d new.boxes) h
      (subst (λ k. Ends op.device (request_of op) (Ok op.value) (box_of k old.boxes) lands.content) same lands.ends)
      (λ e. ap (box_of d) boxes ∙ ap (λ k. box_of d (with_box k lands.content old.boxes)) same ∙ emptied same e)
      (λ c e. ap (box_of d) boxes ∙ ap (λ k. box_of d (with_box k lands.content old.boxes)) same ∙ box_of-with_box old.boxes d c lands.content e))
  | inr (t, apart) ↦
      let is : operations_of d new.transcript ≡ operations_of d old.transcript = ap (operations_of d) made ∙ other old.transcript op d apart in
      let ne : d ≢ op.device = λ e. apart (sym e) in
      let kept : box_of d new.boxes ≡ box_of d old.boxes = ap (box_of d) boxes ∙ box_of-with_box_other old.boxes op.device d lands.content ne in
      subst (λ l. Served first l (box_of d new.boxes)) (sym is) (subst (Served first (operations_of d old.transcript)) (sym kept) h)
]
  where
    lands : Lands op.device (request_of op) (Ok op.value) old.boxes new.boxes
    lands = carries.boxes

    boxes : new.boxes ≡ with_box op.device lands.content old.boxes
    boxes = lands.boxes

    made : new.transcript ≡ old.transcript ++ op ∷ []
    made = carries.transcript ∙ ap (λ o. old.transcript ++ o ∷ []) (requested op)

    emptied : op.device ≡ d → box_of d old.boxes ≡ None → box_of d (with_box d lands.content old.boxes) ≡ None
    emptied same e =
        let at : Ends op.device (request_of op) (Ok op.value) None lands.content = subst (λ x. Ends op.device (request_of op) (Ok op.value) x lands.content) (ap (λ k. box_of k old.boxes) same ∙ e) lands.ends in
        ap (λ k. box_of d (with_box d k old.boxes)) at.1 ∙ box_of-with_none old.boxes d e

-- ---- the console

console_append : (ops : List DeviceOp) (op : DeviceOp) → AllOnes (console_others ops) → ((op.device == 0) && not (op.reg == 0) ≡ true → op.write ≡ false → op.value ≡ all_ones) → AllOnes (console_others (ops ++ op ∷ []))
console_append ops op h silent = subst AllOnes (sym (filter-append (λ (o : DeviceOp). (o.device == 0) && not (o.reg == 0)) ops (op ∷ []))) (by ((op.device == 0) && not (op.reg == 0)) refl)
  where
    by : (t : Bool) → ((op.device == 0) && not (op.reg == 0)) ≡ t → AllOnes (console_others ops ++ cond t (op ∷ []) [])
    by true e = ones-append (console_others ops) op h (silent e)
    by false e = subst AllOnes (sym (append-nil (console_others ops))) h

front : (a b : Bool) → a && b ≡ true → a ≡ true
front true b e = refl
front false b e = cc

is_zero : (n : ℕ) → (n == 0) ≡ true → n ≡ 0
is_zero n e = grind (arith, nat_tests)

both : (a b : Bool) → a && b ≡ true → a && not b ≡ true → ⊥
both true true e h = cc
both true false e h = cc
both false b e h = cc

console_silent : (op : DeviceOp) (old new : BusState) → Carries op.device (request_of op) (Ok op.value) old new → (op.device == 0) && not (op.reg == 0) ≡ true → op.write ≡ false → op.value ≡ all_ones
console_silent op old new carries there write =
    let lands = carries.boxes in
    let first : (op.device == 0) ≡ true = front (op.device == 0) (not (op.reg == 0)) there in
    let no_box : box_of op.device old.boxes ≡ None = cond-true _ _ _ first in
    let at : Ends op.device (request_of op) (Ok op.value) None lands.content = subst (λ x. Ends op.device (request_of op) (Ok op.value) x lands.content) no_box lands.ends in
    silent op.write op.reg op.value op.value write at.0

-- ---- one step's operations

devices_carried : (boxes : List (Option Meaning)) (op : DeviceOp) (old new : BusState) → Carries op.device (request_of op) (Ok op.value) old new → Devices boxes old → Devices boxes new
devices_carried boxes op old new carries h = record {
  each = λ d ne. served_carried (box_of d boxes) d op old new carries (h.each d ne);
  console = subst (λ t. AllOnes (console_others t)) (sym (carries.transcript ∙ ap (λ o. old.transcript ++ o ∷ []) (requested op))) (console_append old.transcript op h.console (console_silent op old new carries));
}

-- an operation of the console's register 0 is written down alone
devices_noted : (boxes : List (Option Meaning)) (op : DeviceOp) (old : BusState) → (op.device == 0) && (op.reg == 0) ≡ true → Devices boxes old → Devices boxes (record old { transcript = old.transcript ++ op ∷ [] })
devices_noted boxes op old is h =
    let t : (op.device == 0) ≡ true = front (op.device == 0) (op.reg == 0) is in
    let zero_is : op.device ≡ 0 = is_zero op.device t in
    record {
      each = λ d ne.
          let same : operations_of d (old.transcript ++ op ∷ []) ≡ operations_of d old.transcript = other old.transcript op d (λ e. ne (sym e ∙ zero_is)) in
          subst (λ l. Served (box_of d boxes) l (box_of d old.boxes)) (sym same) (h.each d ne);
      console = console_append old.transcript op h.console (λ there. absurd (both (op.device == 0) (op.reg == 0) is there));
    }

by_notes : (boxes : List (Option Meaning)) (c : Bool) (op : DeviceOp) (old new : BusState) → is_console op.device op.reg ≡ c → Notes c op old new → Devices boxes old → Devices boxes new
by_notes boxes true op old new is notes h = subst (Devices boxes) (sym notes) (devices_noted boxes op old is h)
by_notes boxes false op old new is notes h = devices_carried boxes op old new notes h

pub devices_made : (boxes : List (Option Meaning)) (made : List DeviceOp) (old new : BusState) → Makes made old new → Devices boxes old → Devices boxes new
devices_made boxes [] old new makes h = subst (Devices boxes) (sym makes) h
devices_made boxes (op ∷ ops) old new makes h = by_notes boxes (is_console op.device op.reg) op old new refl makes h

-- ---- the start and the end

served_first : (first : Option Meaning) → Served first [] first
served_first None = (refl, tt)
served_first (Some b) = none

pub devices_first : (bus : BusState) → bus.transcript ≡ [] → Devices bus.boxes bus
devices_first bus empty = record {
  each = λ d ne. subst (λ t. Served (box_of d bus.boxes) (operations_of d t) (box_of d bus.boxes)) (sym empty) (served_first (box_of d bus.boxes));
  console = subst (λ t. AllOnes (console_others t)) (sym empty) tt;
}

served_part : (first : Option Meaning) (ops : List DeviceOp) (now : Option Meaning) → Served first ops now → Part first ops
served_part None ops now h = h.1
served_part (Some b) ops (Some c) h = (c, h)
served_part (Some b) ops None h = absurd h

pub parts : (boxes : List (Option Meaning)) (bus : BusState) → Devices boxes bus → (device : ℕ) → device ≢ 0 → Part (box_of device boxes) (operations_of device bus.transcript)
parts boxes bus h device ne = served_part (box_of device boxes) (operations_of device bus.transcript) (box_of device bus.boxes) (h.each device ne)

-- ---- a device that fails

abbrev pub Fails : List (Option Meaning) → List DeviceOp → ℕ → Request → Type 0
Fails boxes made i request = (b : Meaning) × (box_of i boxes ≡ Some b) × (c : Meaning) × Leads b (operations_of i made) c × (now : Held) × Failed c request now

fails_by : (boxes : List (Option Meaning)) (made : List DeviceOp) (i : ℕ) (request : Request) (first now content : Option Meaning) → box_of i boxes ≡ first → Served first (operations_of i made) now → Ends i request (Err (errors.Device i)) now content → Fails boxes made i request
fails_by boxes made i request first None content is served ends = absurd ends
fails_by boxes made i request None (Some c) content is served ends = let x = served.0 in cc
fails_by boxes made i request (Some b) (Some c) content is served ends = (b, is, c, served, ends.1.0, ends.1.1)

no_console : (i : ℕ) (request : Request) (boxes : List (Option Meaning)) (content : Option Meaning) → Ends i request (Err (errors.Device i)) (box_of i boxes) content → i ≢ 0
no_console i request boxes content ends zero_is =
    let t : (i == 0) ≡ true = grind (arith, nat_tests) in
    subst (λ x. Ends i request (Err (errors.Device i)) x content) (cond-true _ _ _ t) ends

pub fails : (boxes : List (Option Meaning)) (i : ℕ) (request : Request) (old new : BusState) → Carries i request (Err (errors.Device i)) old new → Devices boxes old → Fails boxes old.transcript i request
fails boxes i request old new carries devices =
    let lands = carries.boxes in
    fails_by boxes old.transcript i request (box_of i boxes) (box_of i old.boxes) lands.content refl (devices.each i (no_console i request old.boxes lands.content lands.ends)) lands.ends

pub fault_kept : (i : ℕ) (request : Request) (old new : BusState) → Carries i request (Err (errors.Device i)) old new → new.transcript ≡ old.transcript
fault_kept i request old new carries = carries.transcript ∙ append-nil old.transcript
