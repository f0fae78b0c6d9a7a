-- The bus keeps its law: each device in its box has the state that its operations led to.
use Rattle.std.proofs.Common.{◌≡◌, ◌≢◌, ℕ, zero, suc, nat_eq, true, false, List, [], ◌∷◌, ◌++◌, ◌⊎◌, Option, Some, None, Result, Ok, Err, refl, ap, arith, subst, inl, inr}
use Rattle.std.proofs.lemmas.Bool.{cases_Bool}
use Rattle.std.proofs.lemmas.Bool.Decides.{nat_tests}
use Rattle.std.proofs.lemmas.List.{append-nil}
use Rattle.std.proofs.lemmas.List.Elements.{filter-append}
use Rattle.fx_base.specs.declared.device_op.DeviceOp.{DeviceOp}
use Rattle.fx_device.specs.Rules.{Held, Meaning, left_in, Request, load, store, Answered, Failed}
use Rattle.fx_device.specs.Bus.{BusState, box_of, with_box, operation, operations_of, written, Ends, Reaches, Carries, none, answered, failed, IsLed, BusLaw}
use Rattle.fx_device.specs.declared.bus_error.BusError.{BusError}
use Rattle.fx_device.specs.declared.bus_error.BusError.TheVariants.{Device, OutOfMemory}
use Rattle.fx_device.proofs.Boxes.{box_of-with_box, box_of-with_box_other, box_of-with_none}

same_number : (device : ℕ) → nat_eq device device ≡ true
same_number device = grind (arith, nat_tests)

other_number : (device other : ℕ) → other ≢ device → nat_eq device other ≡ false
other_number device other h = grind (arith, nat_tests)

device_of : (device : ℕ) (request : Request) (value : ℕ) → (operation device request value).device ≡ device
device_of device (load reg) value = refl
device_of device (store reg v) value = refl

-- the operations of a device, and those of another, behind one more
own : (ops : List DeviceOp) (device : ℕ) (request : Request) (value : ℕ) → operations_of device (ops ++ operation device request value ∷ []) ≡ operations_of device ops ++ operation device request value ∷ []
own ops device request value = rw (filter-append (λ (op : DeviceOp). nat_eq op.device device) ops (operation device request value ∷ []), device_of device request value, same_number device) refl

not_own : (ops : List DeviceOp) (device other : ℕ) (request : Request) (value : ℕ) → other ≢ device → operations_of other (ops ++ operation device request value ∷ []) ≡ operations_of other ops
not_own ops device other request value apart = rw (filter-append (λ (op : DeviceOp). nat_eq op.device other) ops (operation device request value ∷ []), device_of device request value, other_number device other apart) (append-nil (operations_of other ops))

led_answered : (device : ℕ) (ops : List DeviceOp) (first : Option Meaning) (b : Meaning) (request : Request) (value : ℕ) (now : Held) → IsLed ops first (Some b) → Answered b request value now → IsLed (ops ++ operation device request value ∷ []) first (Some (left_in b now))
led_answered device ops None b request value now led here = led
led_answered device ops (Some a) b request value now led here = answered device request value now ops b led here

led_failed : (ops : List DeviceOp) (first : Option Meaning) (b : Meaning) (request : Request) (now : Held) → IsLed ops first (Some b) → Failed b request now → IsLed ops first (Some (left_in b now))
led_failed ops None b request now led here = led
led_failed ops (Some a) b request now led here = failed request now ops b led here

-- what the device of the request holds after it
target : (device : ℕ) (request : Request) (result : Result ℕ BusError) (ops : List DeviceOp) (first before content after : Option Meaning) → Ends device request result before content → IsLed (operations_of device ops) first before
    → ((b : Meaning) → before ≡ Some b → after ≡ content) → (before ≡ None → content ≡ None → after ≡ None) → IsLed (operations_of device (ops ++ written device request result)) first after
target device request (Ok value) ops first None content after ends led held empty = rw (empty refl ends.1) tt
target device request (Ok value) ops first (Some b) content after ends led held empty = rw (own ops device request value, held b refl, ends.2) (led_answered device (operations_of device ops) first b request value ends.0 led ends.1)
target device request (Err (Device number)) ops first None content after ends led held empty = absurd ends
target device request (Err (Device number)) ops first (Some b) content after ends led held empty = rw (append-nil ops, held b refl, ends.1.2) (led_failed (operations_of device ops) first b request ends.1.0 led ends.1.1)
target device request (Err OutOfMemory) ops first before content after ends led held empty = absurd ends

-- what another device holds after it
bystander : (device other : ℕ) (request : Request) (result : Result ℕ BusError) (ops : List DeviceOp) → other ≢ device → operations_of other (ops ++ written device request result) ≡ operations_of other ops
bystander device other request (Ok value) ops apart = not_own ops device other request value apart
bystander device other request (Err e) ops apart = ap (operations_of other) (append-nil ops)

apart_from : (device other : ℕ) → nat_eq other device ≡ false → other ≢ device
apart_from device other h = grind (arith, nat_tests)

equal_from : (device other : ℕ) → nat_eq other device ≡ true → device ≡ other
equal_from device other h = grind (arith, nat_tests)

pub law-Reaches : (first : List (Option Meaning)) (device : ℕ) (request : Request) (result : Result ℕ BusError) (old new : BusState) → Reaches device request result old new → BusLaw first old → BusLaw first new
law-Reaches first device request result old new r law = record {
  each = λ other. at other (cases_Bool (nat_eq other device));
}
  where
    filled : (b : Meaning) → box_of device old.boxes ≡ Some b → box_of device (with_box device r.boxes.content old.boxes) ≡ r.boxes.content
    filled b e = box_of-with_box old.boxes device b r.boxes.content e

    emptied : box_of device old.boxes ≡ None → r.boxes.content ≡ None → box_of device (with_box device r.boxes.content old.boxes) ≡ None
    emptied e n = rw n (box_of-with_none old.boxes device e)

    here : IsLed (operations_of device new.transcript) (box_of device first) (box_of device new.boxes)
    here = rw (r.transcript, r.boxes.boxes) (target device request result old.transcript (box_of device first) (box_of device old.boxes) r.boxes.content _ r.boxes.ends (law.each device) filled emptied)

    at : (other : ℕ) → (nat_eq other device ≡ true) ⊎ (nat_eq other device ≡ false) → IsLed (operations_of other new.transcript) (box_of other first) (box_of other new.boxes)
    at other (inl same) = subst (λ n. IsLed (operations_of n new.transcript) (box_of n first) (box_of n new.boxes)) (equal_from device other same) here
    at other (inr apart) =
        let away = apart_from device other apart in
        rw (r.transcript, r.boxes.boxes, bystander device other request result old.transcript away, box_of-with_box_other old.boxes device other r.boxes.content away) (law.each other)

pub law-Carries : (first : List (Option Meaning)) (device : ℕ) (request : Request) (result : Result ℕ BusError) (old new : BusState) → Carries device request result old new → BusLaw first old → BusLaw first new
law-Carries first device request (Ok value) old new r law = law-Reaches first device request (Ok value) old new r law
law-Carries first device request (Err (Device number)) old new r law = law-Reaches first device request (Err (Device number)) old new r law
law-Carries first device request (Err OutOfMemory) old new same law = rw same law

-- a bus that was made follows its law from its own boxes
led_itself : (o : Option Meaning) → IsLed [] o o
led_itself None = tt
led_itself (Some b) = none

pub law-start : (boxes : List (Option Meaning)) → BusLaw boxes (record { boxes = boxes; transcript = [] })
law-start boxes = record { each = λ device. led_itself (box_of device boxes) }

-- an operation of the console is one of no box
away_from_console : (ops : List DeviceOp) (op : DeviceOp) (other : ℕ) → nat_eq op.device other ≡ false → operations_of other (ops ++ op ∷ []) ≡ operations_of other ops
away_from_console ops op other h = rw (filter-append (λ (o : DeviceOp). nat_eq o.device other) ops (op ∷ []), h) (append-nil (operations_of other ops))

zero_is_not : (n other : ℕ) → n ≡ 0 → nat_eq n (suc other) ≡ false
zero_is_not n other h = grind (arith, nat_tests)

pub law-note : (first boxes : List (Option Meaning)) (ops : List DeviceOp) (op : DeviceOp) → op.device ≡ 0 → BusLaw first (record { boxes = boxes; transcript = ops }) → BusLaw first (record { boxes = boxes; transcript = ops ++ op ∷ [] })
law-note first boxes ops op console law = record { each = λ device. at device }
  where
    at : (device : ℕ) → IsLed (operations_of device (ops ++ op ∷ [])) (box_of device first) (box_of device boxes)
    at zero = tt
    at (suc device) = rw (away_from_console ops op (suc device) (zero_is_not op.device device console)) (law.each (suc device))

-- an unplugged device is in no box
nothing_in : (bs : List (Option Meaning)) (device : ℕ) (o : Option Meaning) → box_of device bs ≡ o → box_of device (with_box device None bs) ≡ None
nothing_in bs device None e = box_of-with_none bs device e
nothing_in bs device (Some b) e = box_of-with_box bs device b None e

pub law-unplug : (first boxes : List (Option Meaning)) (ops : List DeviceOp) (device : ℕ) → BusLaw first (record { boxes = boxes; transcript = ops }) → BusLaw first (record { boxes = with_box device None boxes; transcript = ops })
law-unplug first boxes ops device law = record { each = λ other. at other (cases_Bool (nat_eq other device)) }
  where
    at : (other : ℕ) → (nat_eq other device ≡ true) ⊎ (nat_eq other device ≡ false) → IsLed (operations_of other ops) (box_of other first) (box_of other (with_box device None boxes))
    at other (inl same) = subst (λ n. IsLed (operations_of n ops) (box_of n first) (box_of n (with_box device None boxes))) (equal_from device other same) (rw (nothing_in boxes device _ refl) tt)
    at other (inr apart) = rw (box_of-with_box_other boxes device other None (apart_from device other apart)) (law.each other)
