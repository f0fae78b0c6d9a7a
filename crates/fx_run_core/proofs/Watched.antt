-- Watching a device from the boot and over each turn.
use Rattle.std.proofs.Common.{◌≡◌, ◌≢◌, ℕ, zero, suc, ◌-◌, ◌≤◌, ◌<◌, ◌⊎◌, inl, inr, List, [], ◌∷◌, ◌++◌, length, Option, Some, None, true, false, nat_eq, refl, ap, sym, ◌∙◌, subst, arith}
use Rattle.std.specs.Prelude.{slice_get, slice_index_or}
use Rattle.std.proofs.lemmas.List.{append-nil}
use Rattle.std.proofs.lemmas.Bool.Decides.{eqb_tells}
use Rattle.fx_base.specs.declared.device_op.DeviceOp.{DeviceOp}
use Rattle.fx_device.specs.Rules.{Meaning}
use Rattle.fx_device.specs.Bus.{BusState, box_of, with_box, operations_of, none}
use Rattle.fx_device.proofs.Boxes.{box_of-with_box, box_of-with_box_other, box_of-with_none}
use Rattle.fx_run_core.specs.Ran.{plug_of, AllOnes, console_others}
use Rattle.fx_run_core.specs.Reached.{Served, Devices, Watching, Watched}
use Rattle.fx_run_core.specs.declared.watch.Watch.{Watch}
use Rattle.fx_run_core.proofs.Serving.{other, plug_at, plug_other}
use Rattle.fx_run_core.proofs.Watching.{made_some, made_none, settled, unwatched, quiet, counted, ended}

-- ---- over a turn

at_count : (bus : BusState) (count : ℕ) (before made : List DeviceOp) (x : Option DeviceOp) → bus.transcript ≡ before ++ made → count ≡ length before → slice_get bus.transcript count ≡ x → slice_get (before ++ made) (length before) ≡ x
at_count bus count before made x is at got = sym (ap (λ t. slice_get t count) is ∙ ap (slice_get (before ++ made)) at) ∙ got

-- what a slice lends at an index
pub got_some : (xs : List DeviceOp) (i : ℕ) (x : DeviceOp) → i < length xs → ((d : DeviceOp) → x ≡ slice_index_or xs i d) → slice_get xs i ≡ Some x
got_some [] i x less h = absurd (omega (arith, less))
got_some (y ∷ ys) zero x less h = ap Some (sym (h y))
got_some (y ∷ ys) (suc i) x less h = got_some ys i x (omega (arith, less)) h

pub got_none : (xs : List DeviceOp) (i : ℕ) → length xs ≤ i → slice_get xs i ≡ None
got_none [] i le = refl
got_none (y ∷ ys) zero le = absurd (omega (arith, le))
got_none (y ∷ ys) (suc i) le = got_none ys i (omega (arith, le))

pub watched_none : (count : ℕ) (bus : BusState) → Watched count None None bus bus
watched_none count bus = λ unplug before made is one at w.
    let u = unwatched unplug before made one w in
    (u.0, λ boxes due. settled unplug before (before ++ made) boxes bus is u.1 due)

pub watched_past : (count : ℕ) (w : Watch) (bus : BusState) → slice_get bus.transcript count ≡ None → Watched count (Some w) (Some w) bus bus
watched_past count w bus got = λ unplug before made is one at h.
    let empty : made ≡ [] = made_none before made one (at_count bus count before made None is at got) in
    let same : operations_of w.device (before ++ made) ≡ operations_of w.device before = ap (λ m. operations_of w.device (before ++ m)) empty ∙ ap (operations_of w.device) (append-nil before) in
    let u = quiet unplug w before made same h in
    (u.0, λ boxes due. settled unplug before (before ++ made) boxes bus is u.1 due)

pub watched_other : (count : ℕ) (w : Watch) (op : DeviceOp) (bus : BusState) → slice_get bus.transcript count ≡ Some op → op.device ≢ w.device → Watched count (Some w) (Some w) bus bus
watched_other count w op bus got apart = λ unplug before made is one at h.
    let single : made ≡ op ∷ [] = made_some before made op one (at_count bus count before made (Some op) is at got) in
    let same : operations_of w.device (before ++ made) ≡ operations_of w.device before = ap (λ m. operations_of w.device (before ++ m)) single ∙ other before op w.device apart in
    let u = quiet unplug w before made same h in
    (u.0, λ boxes due. settled unplug before (before ++ made) boxes bus is u.1 due)

pub watched_more : (count : ℕ) (w : Watch) (op : DeviceOp) (bus : BusState) → slice_get bus.transcript count ≡ Some op → op.device ≡ w.device → 1 < w.left → Watched count (Some w) (Some (record { device = w.device; left = w.left - 1 })) bus bus
watched_more count w op bus got on more = λ unplug before made is one at h.
    let single : made ≡ op ∷ [] = made_some before made op one (at_count bus count before made (Some op) is at got) in
    let x : Watch = record { device = w.device; left = w.left - 1 } in
    let u = counted unplug w x before op on refl (omega arith) (omega arith) h in
    let there : bus.transcript ≡ before ++ op ∷ [] = is ∙ ap (λ m. before ++ m) single in
    (subst (λ m. Watching unplug (Some x) (before ++ m)) (sym single) u.0, λ boxes due. settled unplug before (before ++ op ∷ []) boxes bus there u.1 due)

pub watched_last : (count : ℕ) (w : Watch) (op : DeviceOp) (bus new : BusState) → slice_get bus.transcript count ≡ Some op → op.device ≡ w.device → w.left ≤ 1 → new ≡ record bus { boxes = with_box w.device None bus.boxes } → Watched count (Some w) None bus new
watched_last count w op bus new got on last gone = λ unplug before made is one at h.
    let single : made ≡ op ∷ [] = made_some before made op one (at_count bus count before made (Some op) is at got) in
    let there : bus.transcript ≡ before ++ op ∷ [] = is ∙ ap (λ m. before ++ m) single in
    let u = ended unplug w before op on (exactly unplug before h) h in
    (subst (λ m. Watching unplug None (before ++ m)) (sym single) u.0, λ boxes due. subst (λ (b : BusState). Devices boxes unplug b) (sym gone) (u.1 boxes bus there due))
  where
    exactly : (unplug : Option (ℕ × ℕ)) (before : List DeviceOp) → Watching unplug (Some w) before → w.left ≡ 1
    exactly None before h = absurd h
    exactly (Some u) before h = let some = h.2 in omega arith

-- ---- at the boot

begun : (first : Option Meaning) (plug : Option ℕ) → ((n : ℕ) → plug ≡ Some n → 0 < n) → Served first plug [] first
begun None plug some = (refl, tt)
begun (Some b) None some = (none, tt)
begun (Some b) (Some n) some = (none, some n refl)

begun_dropped : (first : Option Meaning) (plug : Option ℕ) → plug ≡ Some 0 → Served first plug [] None
begun_dropped None plug is = (refl, tt)
begun_dropped (Some b) plug is = (0, is, omega arith, (b, none), tt)

pub devices_begin : (boxes : List (Option Meaning)) (unplug : Option (ℕ × ℕ)) (bus : BusState) → bus.boxes ≡ boxes → bus.transcript ≡ [] → ((d n : ℕ) → plug_of unplug d ≡ Some n → 0 < n) → Devices boxes unplug bus
devices_begin boxes unplug bus same empty some = record {
  each = λ d ne.
      subst (λ t. Served (box_of d boxes) (plug_of unplug d) (operations_of d t) (box_of d bus.boxes)) (sym empty)
      (subst (λ bs. Served (box_of d boxes) (plug_of unplug d) [] (box_of d bs)) (sym same) (begun (box_of d boxes) (plug_of unplug d) (some d)));
  console = subst (λ t. AllOnes (console_others t)) (sym empty) tt;
}

pub devices_dropped : (boxes : List (Option Meaning)) (device left : ℕ) (bus : BusState) → left ≡ 0 → bus.boxes ≡ with_box device None boxes → bus.transcript ≡ [] → Devices boxes (Some (device, left)) bus
devices_dropped boxes device left bus zero_is same empty = record {
  each = λ d ne.
      subst (λ t. Served (box_of d boxes) (plug_of (Some (device, left)) d) (operations_of d t) (box_of d bus.boxes)) (sym empty)
      (subst (λ bs. Served (box_of d boxes) (plug_of (Some (device, left)) d) [] (box_of d bs)) (sym same) (by d (eqb_tells d device)));
  console = subst (λ t. AllOnes (console_others t)) (sym empty) tt;
}
  where
    no_box : (d : ℕ) (b : Option Meaning) → box_of d boxes ≡ b → box_of d (with_box d None boxes) ≡ None
    no_box d None e = box_of-with_none boxes d e
    no_box d (Some b) e = box_of-with_box boxes d b None e

    by : (d : ℕ) → ((nat_eq d device ≡ true) × (d ≡ device)) ⊎ ((nat_eq d device ≡ false) × (d ≢ device)) → Served (box_of d boxes) (plug_of (Some (device, left)) d) [] (box_of d (with_box device None boxes))
    by d (inl (t, is)) =
        let gone : box_of d (with_box device None boxes) ≡ None = ap (λ k. box_of d (with_box k None boxes)) (sym is) ∙ no_box d (box_of d boxes) refl in
        let plug : plug_of (Some (device, left)) d ≡ Some 0 = plug_at (device, left) d (sym is) ∙ ap Some zero_is in
        subst (Served (box_of d boxes) (plug_of (Some (device, left)) d) []) (sym gone) (begun_dropped (box_of d boxes) (plug_of (Some (device, left)) d) plug)
    by d (inr (t, apart)) =
        let kept : box_of d (with_box device None boxes) ≡ box_of d boxes = box_of-with_box_other boxes device d None apart in
        subst (Served (box_of d boxes) (plug_of (Some (device, left)) d) []) (sym kept)
        (begun (box_of d boxes) (plug_of (Some (device, left)) d) (λ n q. let p = plug_other (device, left) d n q in absurd (apart (sym p.0))))

pub devices_unwatched : (bus : BusState) → bus.transcript ≡ [] → Devices bus.boxes None bus
devices_unwatched bus empty = devices_begin bus.boxes None bus refl empty (λ d n e. absurd (never d n e))
  where
    never : (d n : ℕ) → plug_of None d ≡ Some n → ⊥
    never d n e = cc

pub devices_watched : (bus : BusState) (device left : ℕ) → left ≢ 0 → bus.transcript ≡ [] → Devices bus.boxes (Some (device, left)) bus
devices_watched bus device left some empty = devices_begin bus.boxes (Some (device, left)) bus refl empty (λ d n q. let p = plug_other (device, left) d n q in omega (arith, some, p.1))
