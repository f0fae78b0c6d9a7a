-- Watching a device over a turn.
use Rattle.std.proofs.Common.{◌≡◌, ◌≢◌, ℕ, ◌+◌, ◌≤◌, ◌<◌, ◌⊎◌, inl, inr, List, [], ◌∷◌, ◌++◌, length, Option, Some, None, true, false, nat_eq, refl, ap, sym, ◌∙◌, subst, arith, length-append}
use Rattle.std.specs.Prelude.{slice_get}
use Rattle.std.proofs.lemmas.List.{append-nil}
use Rattle.std.proofs.lemmas.Bool.Decides.{eqb_tells}
use Rattle.fx_base.specs.declared.device_op.DeviceOp.{DeviceOp}
use Rattle.fx_device.specs.Rules.{Meaning}
use Rattle.fx_device.specs.Bus.{BusState, box_of, with_box, operations_of}
use Rattle.fx_device.proofs.Boxes.{box_of-with_box, box_of-with_box_other, box_of-with_none}
use Rattle.fx_run_core.specs.Ran.{plug_of}
use Rattle.fx_run_core.specs.Reached.{Served, Devices, DevicesDue, Watching}
use Rattle.fx_run_core.specs.declared.watch.Watch.{Watch}
use Rattle.fx_run_core.proofs.Serving.{own, other, not_due, dropped, plug_at, plug_other}

-- ---- the operation that a turn made

got_at : (before made : List DeviceOp) → slice_get (before ++ made) (length before) ≡ slice_get made 0
got_at [] made = refl
got_at (x ∷ xs) made = got_at xs made

pub made_some : (before made : List DeviceOp) (op : DeviceOp) → length made ≤ 1 → slice_get (before ++ made) (length before) ≡ Some op → made ≡ op ∷ []
made_some before [] op one e = let x : None ≡ Some op = sym (got_at before []) ∙ e in cc
made_some before (y ∷ []) op one e = let x : Some y ≡ Some op = sym (got_at before (y ∷ [])) ∙ e in same y op x
  where
    same : (a b : DeviceOp) → Some a ≡ Some b → a ∷ [] ≡ b ∷ []
    same a b q = cc
made_some before (y ∷ z ∷ zs) op one e = absurd (omega arith)

pub made_none : (before made : List DeviceOp) → length made ≤ 1 → slice_get (before ++ made) (length before) ≡ None → made ≡ []
made_none before [] one e = refl
made_none before (y ∷ ys) one e = let x : Some y ≡ None = sym (got_at before (y ∷ ys)) ∙ e in cc

-- ---- devices that aren't due

module _ (unplug : Option (ℕ × ℕ)) (before T : List DeviceOp) where
  abbrev NoneDue : Type 0
  NoneDue = (d n : ℕ) → plug_of unplug d ≡ Some n → n ≡ length (operations_of d T) → length (operations_of d before) < length (operations_of d T) → ⊥

  pub settled : (boxes : List (Option Meaning)) (bus : BusState) → bus.transcript ≡ T → NoneDue → DevicesDue boxes unplug before bus → Devices boxes unplug bus
  settled boxes bus is never h = record {
    each = λ d ne. not_due (box_of d boxes) (plug_of unplug d) (operations_of d before) (operations_of d bus.transcript) (box_of d bus.boxes)
        (λ due lt.
        let size : length (operations_of d bus.transcript) ≡ length (operations_of d T) = ap (λ t. length (operations_of d t)) is in
        never d (length (operations_of d bus.transcript)) due size (omega arith))
        (h.each d ne);
    console = h.console;
  }

never_plugged : (d n : ℕ) → plug_of None d ≡ Some n → ⊥
never_plugged d n e = cc

grows : (before made : List DeviceOp) (d : ℕ) → length made ≤ 1 → length (operations_of d before) ≤ length (operations_of d (before ++ made))
grows before [] d one = let e = ap (λ t. length (operations_of d t)) (append-nil before) in omega arith
grows before (op ∷ []) d one = elim (eqb_tells op.device d) [
  | inl (t, same) ↦ let e = ap length (own before op d same) in let n = length-append (operations_of d before) (op ∷ []) in omega arith
  | inr (t, apart) ↦ let e = ap length (other before op d apart) in omega arith
]
grows before (op ∷ next ∷ more) d one = absurd (omega arith)

-- no device is watched
pub unwatched : (unplug : Option (ℕ × ℕ)) (before made : List DeviceOp) → length made ≤ 1 → Watching unplug None before → Watching unplug None (before ++ made) × NoneDue unplug before (before ++ made)
unwatched None before made one w = (tt, λ d n e size lt. never_plugged d n e)
unwatched (Some u) before made one w = (
  (let g = grows before made u.0 one in omega arith),
  λ d n e size lt.
      let p = plug_other u d n e in
      let at : length (operations_of u.0 before) ≡ length (operations_of d before) = ap (λ k. length (operations_of k before)) p.0 in
      omega (arith, p.1),
)

-- the watched device made no operation
pub quiet : (unplug : Option (ℕ × ℕ)) (w : Watch) (before made : List DeviceOp) → operations_of w.device (before ++ made) ≡ operations_of w.device before → Watching unplug (Some w) before → Watching unplug (Some w) (before ++ made) × NoneDue unplug before (before ++ made)
quiet None w before made same h = absurd h
quiet (Some u) w before made same h =
    let here : length (operations_of u.0 (before ++ made)) ≡ length (operations_of u.0 before) = subst (λ k. length (operations_of k (before ++ made)) ≡ length (operations_of k before)) h.0 (ap length same) in (
      (h.0, (let e = h.1 in omega arith), h.2),
      λ d n e size lt.
          let p = plug_other u d n e in
          let at : length (operations_of u.0 before) ≡ length (operations_of d before) = ap (λ k. length (operations_of k before)) p.0 in
          let now : length (operations_of u.0 (before ++ made)) ≡ length (operations_of d (before ++ made)) = ap (λ k. length (operations_of k (before ++ made))) p.0 in
          omega arith,
    )

-- it made one, and more are to come
pub counted : (unplug : Option (ℕ × ℕ)) (w x : Watch) (before : List DeviceOp) (op : DeviceOp) → op.device ≡ w.device → x.device ≡ w.device → x.left + 1 ≡ w.left → 0 < x.left → Watching unplug (Some w) before → Watching unplug (Some x) (before ++ op ∷ []) × NoneDue unplug before (before ++ op ∷ [])
counted None w x before op on is less some h = absurd h
counted (Some u) w x before op on is less some h =
    let e = h.1 in
    let n = length-append (operations_of u.0 before) (op ∷ []) in
    let here : length (operations_of u.0 (before ++ op ∷ [])) ≡ length (operations_of u.0 before ++ op ∷ []) = ap length (own before op u.0 (on ∙ h.0)) in (
      (is ∙ h.0, omega arith, some),
      λ d m q size lt.
          let p = plug_other u d m q in
          let last = p.1 in
          let now : length (operations_of u.0 (before ++ op ∷ [])) ≡ length (operations_of d (before ++ op ∷ [])) = ap (λ k. length (operations_of k (before ++ op ∷ []))) p.0 in
          omega arith,
    )

-- it made the last one, and is unplugged
pub ended : (unplug : Option (ℕ × ℕ)) (w : Watch) (before : List DeviceOp) (op : DeviceOp) → op.device ≡ w.device → w.left ≡ 1 → Watching unplug (Some w) before
    → Watching unplug None (before ++ op ∷ []) × ((boxes : List (Option Meaning)) (bus : BusState) → bus.transcript ≡ before ++ op ∷ [] → DevicesDue boxes unplug before bus → Devices boxes unplug (record bus { boxes = with_box w.device None bus.boxes }))
ended None w before op on one h = absurd h
ended (Some u) w before op on one h = (omega (arith, whole), λ boxes bus is due. record { each = λ d ne. by boxes bus is due d ne (eqb_tells d w.device); console = due.console })
  where
    n : length (operations_of u.0 before ++ op ∷ []) ≡ length (operations_of u.0 before) + 1
    n = length-append (operations_of u.0 before) (op ∷ [])

    here : length (operations_of u.0 (before ++ op ∷ [])) ≡ length (operations_of u.0 before ++ op ∷ [])
    here = ap length (own before op u.0 (on ∙ h.0))

    whole : length (operations_of u.0 (before ++ op ∷ [])) ≡ u.1
    whole = let e = h.1 in omega (arith, n, here)

    no_box : (bs : List (Option Meaning)) (d : ℕ) (b : Option Meaning) → box_of d bs ≡ b → box_of d (with_box d None bs) ≡ None
    no_box bs d None e = box_of-with_none bs d e
    no_box bs d (Some b) e = box_of-with_box bs d b None e

    by : (boxes : List (Option Meaning)) (bus : BusState) → bus.transcript ≡ before ++ op ∷ [] → DevicesDue boxes (Some u) before bus → (d : ℕ) → d ≢ 0 → ((nat_eq d w.device ≡ true) × (d ≡ w.device)) ⊎ ((nat_eq d w.device ≡ false) × (d ≢ w.device))
        → Served (box_of d boxes) (plug_of (Some u) d) (operations_of d bus.transcript) (box_of d (with_box w.device None bus.boxes))
    by boxes bus is due d ne (inl (t, same)) =
        let size : length (operations_of d bus.transcript) ≡ u.1 = ap (λ x. length (operations_of d x)) is ∙ ap (λ k. length (operations_of k (before ++ op ∷ []))) (same ∙ h.0) ∙ whole in
        let plug : plug_of (Some u) d ≡ Some (length (operations_of d bus.transcript)) = plug_at u d (sym (same ∙ h.0)) ∙ ap Some (sym size) in
        let gone : box_of d (with_box w.device None bus.boxes) ≡ None = ap (λ k. box_of d (with_box k None bus.boxes)) (sym same) ∙ no_box bus.boxes d (box_of d bus.boxes) refl in
        subst (Served (box_of d boxes) (plug_of (Some u) d) (operations_of d bus.transcript)) (sym gone) (dropped (box_of d boxes) (plug_of (Some u) d) (operations_of d before) (operations_of d bus.transcript) (box_of d bus.boxes) plug (due.each d ne))
    by boxes bus is due d ne (inr (t, apart)) =
        let kept : box_of d (with_box w.device None bus.boxes) ≡ box_of d bus.boxes = box_of-with_box_other bus.boxes w.device d None apart in
        subst (Served (box_of d boxes) (plug_of (Some u) d) (operations_of d bus.transcript)) (sym kept)
        (not_due (box_of d boxes) (plug_of (Some u) d) (operations_of d before) (operations_of d bus.transcript) (box_of d bus.boxes)
        (λ q lt. let p = plug_other u d (length (operations_of d bus.transcript)) q in apart (sym p.0 ∙ sym h.0))
        (due.each d ne))
