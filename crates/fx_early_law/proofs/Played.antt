-- What a run of an image of constants came to.
use Rattle.std.proofs.Common.{◌≡◌, ℕ, suc, pos, ◌%◌, ◌^◌, ◌<◌, List, [], ◌∷◌, ◌++◌, map, All, Option, Some, None, Bool, true, false, cond, refl, ap, sym, ◌∙◌, subst, arith, append_assoc}
use Rattle.std.specs.List.{AllByRecursion}
use Rattle.std.proofs.lemmas.List.Elements.{recursion_from_All, All-from_recursion}
use Rattle.fx_base.specs.declared.device_op.DeviceOp.{DeviceOp}
use Rattle.fx_outcomes.specs.Runs.{Outcome}
use Rattle.fx_outcomes.specs.Many.{turn}
use Rattle.fx_outcomes.specs.Keeping.{IsPrefix}
use Rattle.fx_device.specs.Rules.{Meaning}
use Rattle.fx_device.specs.Bus.{box_of}
use Rattle.fx_image.specs.declared.forms.Image.{Image}
use Rattle.fx_machine_model.specs.Boot.{boot_byte, boot_regs, vcpus}
use Rattle.fx_machine_model.specs.Moves.{all_ones, move}
use Rattle.fx_machine_model.specs.Running.{boot, run_image, image_turns, image_after}
use Rattle.fx_machine_model.specs.declared.stop.Stop.{Stop}
use Rattle.fx_machine_model.specs.declared.stop.Stop.TheVariants.{Exit}
use Rattle.fx_machine.specs.Acting.{answered}
use Rattle.fx_machine.specs.Turns.{made_of, taken_by, asked, console_load}
use Rattle.fx_early_image.specs.Source.{console_store}
use Rattle.fx_early_image.specs.Layout.{early_image}
use Rattle.fx_early_image.specs.Faithful.{RunsWriteConstants}
use Rattle.fx_machine_model.specs.declared.outcome.Outcome as outcomes
use Rattle.fx_machine_model.specs.declared.outcome.Outcome.TheVariants.{Stopped, Spent, Device, ReadFault, WriteFault, OutOfMemory}
use Rattle.fx_run_core.specs.Ran.{named, names, outputs, stop_of, RunsTo, HasCause}
use Rattle.fx_run_core.proofs.Telling.{outputs-append}
use Rattle.fx_early_law.specs.Plays.{IsOf, ones, stop_within, turns_within, Plays, EarlyRunsPlay}
use Rattle.fx_early_law.proofs.Alike.{AreStores, alike}
use Rattle.fx_early_law.proofs.Longer.{names-up_to, stopped-more, made-one_more}

-- the one answer has 64 bits
one_fits : All (λ answer. answer < 2 ^ 64) ones
one_fits = All-from_recursion (λ answer. answer < 2 ^ 64) ones (omega arith, tt)

-- ---- stores of constants

are_stores : (constants : List ℕ) → AreStores (map console_store constants)
are_stores [] = tt
are_stores (c ∷ constants) = (refl, are_stores constants)

stores_front : (xs ys : List DeviceOp) → AreStores (xs ++ ys) → AreStores xs
stores_front [] ys h = tt
stores_front (x ∷ xs) ys h = (h.0, stores_front xs ys h.1)

put_out : (constants : List ℕ) → AllByRecursion (λ c. c < 256) constants → outputs (map console_store constants) ≡ constants
put_out [] small = refl
put_out (c ∷ constants) small =
    let low : c % 256 ≡ c = omega (arith, small.0) in
    ap (λ b. b ∷ outputs (map console_store constants)) low ∙ ap (λ t. c ∷ t) (put_out constants small.1)

-- one of them, behind others, is a store to the console
one_of : (constants : List ℕ) (xs more : List DeviceOp) (op : DeviceOp) → map console_store constants ≡ xs ++ op ∷ more → (op.device ≡ 0) × (op.write ≡ true)
one_of [] [] more op e = cc
one_of [] (x ∷ xs) more op e = cc
one_of (c ∷ constants) [] more op e = first (console_store c) op (map console_store constants) more e
  where
    first : (a b : DeviceOp) (xs ys : List DeviceOp) → a ∷ xs ≡ b ∷ ys → (b.device ≡ a.device) × (b.write ≡ a.write)
    first a b xs ys e = let same : b ≡ a = cc in (ap (λ (o : DeviceOp). o.device) same, ap (λ (o : DeviceOp). o.write) same)
one_of (c ∷ constants) (x ∷ xs) more op e = one_of constants xs more op (rest (console_store c) x (map console_store constants) (xs ++ op ∷ more) e)
  where
    rest : (a b : DeviceOp) (xs ys : List DeviceOp) → a ∷ xs ≡ b ∷ ys → xs ≡ ys
    rest a b xs ys e = cc

asked_device : (op : DeviceOp) (answer : ℕ) → (asked op answer).device ≡ op.device
asked_device op answer = by op.write
  where
    by : (t : Bool) → (cond t op (answered op answer)).device ≡ op.device
    by true = refl
    by false = refl

-- a run's operations are a front of the stores, and its stop is Exit 0 with all of them
abbrev WritesThese : List ℕ → Outcome DeviceOp Stop → Type 0
WritesThese constants x =
    IsPrefix x.made (map console_store constants) × ((stop : Stop) → x.finish ≡ Some stop → (stop ≡ Exit (pos 0)) × (x.made ≡ map console_store constants))

module _ (law : RunsWriteConstants) (constants : List ℕ) (image : Image) (is : IsOf constants image) where
  writes : (us : List ℕ) → WritesThese constants (run_image image ones us)
  writes us = subst (λ i. WritesThese constants (run_image i ones us)) (sym is.value) (law constants is.few is.bytes ones one_fits us)

  stores : (us : List ℕ) → AreStores (run_image image ones us).made
  stores us = let p = (writes us).0 in stores_front (run_image image ones us).made p.0 (subst AreStores p.1 (are_stores constants))

  -- its run is the same whatever answers are left
  same_run : (answers us : List ℕ) → run_image image answers us ≡ run_image image ones us
  same_run answers us = (alike image all_ones [] answers (vcpus image) us (boot_regs image) (boot_byte image) (stores us)).0

  same_turns : (answers us : List ℕ) → image_turns image answers us ≡ image_turns image ones us
  same_turns answers us = (alike image all_ones [] answers (vcpus image) us (boot_regs image) (boot_byte image) (stores us)).1

  put_all : outputs (map console_store constants) ≡ constants
  put_all = put_out constants (recursion_from_All (λ c. c < 256) constants is.bytes)

  module _ (schedule : List ℕ) (n : ℕ) where
    abbrev us : List ℕ
    us = names schedule n

    abbrev u : ℕ
    u = named schedule n

    -- the turn behind it makes no operation but a store to the console
    next_one : (answers : List ℕ) (op : DeviceOp) → (run_image image answers us).finish ≡ None → made_of (turn (move image) (u % vcpus image) (image_after image answers us)) ≡ op ∷ []
        → (op.device ≡ 0) × (op.write ≡ true)
    next_one answers op going made =
        let longer : (run_image image ones (us ++ u ∷ [])).made ≡ (run_image image answers us).made ++ op ∷ [] =
        ap (λ (x : Outcome DeviceOp Stop). x.made) (sym (same_run answers (us ++ u ∷ [])))
        ∙ made-one_more (turn (move image)) (vcpus image) us u (boot image answers) going
        ∙ ap (λ o. (run_image image answers us).made ++ o) made in
        let p = (writes (us ++ u ∷ [])).0 in
        one_of constants (run_image image answers us).made p.0 op
        (p.1 ∙ ap (λ l. l ++ p.0) longer ∙ append_assoc (run_image image answers us).made (op ∷ []) p.0)

    module _ (budget : ℕ) (unplug : Option (ℕ × ℕ)) (boxes : List (Option Meaning)) (made : List DeviceOp) where
      abbrev RanSo : outcomes.Outcome → Type 0
      RanSo outcome = RunsTo image schedule budget unplug boxes outcome n made

      made_is : (outcome : outcomes.Outcome) → RanSo outcome → (run_image image ones us).made ≡ made
      made_is outcome r = ap (λ (x : Outcome DeviceOp Stop). x.made) (sym (same_run (taken_by made) us)) ∙ r.operations

      finish_is : (outcome : outcomes.Outcome) → RanSo outcome → (run_image image ones us).finish ≡ stop_of outcome
      finish_is outcome r = ap (λ (x : Outcome DeviceOp Stop). x.finish) (sym (same_run (taken_by made) us)) ∙ r.stop

      turns_is : (outcome : outcomes.Outcome) → RanSo outcome → image_turns image ones us ≡ n
      turns_is outcome r = sym (same_turns (taken_by made) us) ∙ r.turns

      front : (outcome : outcomes.Outcome) → RanSo outcome → IsPrefix (outputs made) constants
      front outcome r =
          let p = (writes us).0 in (
            outputs p.0,
            sym put_all ∙ ap outputs p.1 ∙ outputs-append (run_image image ones us).made p.0 ∙ ap (λ l. outputs l ++ outputs p.0) (made_is outcome r),
          )

      stops : (stop : Stop) → RanSo (Stopped stop) → Plays constants image schedule budget n made (Stopped stop)
      unfolding turns_within
      stops stop r =
          let finish = finish_is (Stopped stop) r in
          let w = (writes us).1 stop finish in
          let more = names-up_to schedule n budget r.within in
          let turns : image_turns image ones (names schedule budget) ≡ n =
          ap (λ l. image_turns image ones l) more.1 ∙ stopped-more (turn (move image)) (vcpus image) us more.0 stop (boot image ones) finish ∙ turns_is (Stopped stop) r in
          (w.0, sym turns, ap outputs (sym (made_is (Stopped stop) r) ∙ w.1) ∙ put_all)

      spends : RanSo Spent → Plays constants image schedule budget n made Spent
      unfolding stop_within
      spends r =
          let whole = r.spent refl in
          (whole, subst (λ k. (run_image image ones (names schedule k)).finish ≡ None) whole (finish_is Spent r), front Spent r)

      -- the run with one answer more goes on, too
      going : (outcome : outcomes.Outcome) → RanSo outcome → stop_of outcome ≡ None → (answers : List ℕ) → (run_image image answers us).finish ≡ None
      going outcome r none answers = ap (λ (x : Outcome DeviceOp Stop). x.finish) (same_run answers us) ∙ finish_is outcome r ∙ none

      no_device : (i : ℕ) (b : Meaning) → i ≡ 0 → box_of i boxes ≡ Some b → ⊥
      no_device i b zero_is box = none b (subst (λ d. box_of d boxes ≡ Some b) zero_is box)
        where
          none : (b : Meaning) → box_of 0 boxes ≡ Some b → ⊥
          none b e = cc

      plays : (input lost out failed : ℕ) (outcome : outcomes.Outcome) → RanSo outcome → HasCause image schedule unplug boxes n made input lost out failed outcome → Plays constants image schedule budget n made outcome
      plays input lost out failed (Stopped stop) r cause = stops stop r
      plays input lost out failed Spent r cause = spends r
      plays input lost out failed (Device i) r (op, asks, is_device, plugged, b, box, c, led, now, refuses) =
          let answers = taken_by made ++ 0 ∷ [] in
          let store = next_one answers (asked op 0) (going (Device i) r refl answers) (asks 0 []) in
          no_device i b (sym is_device ∙ sym (asked_device op 0) ∙ store.0) box
      plays input lost out failed ReadFault r cause =
          let answers = taken_by made ++ 0 ∷ [] in
          let store = next_one answers (console_load 0) (going ReadFault r refl answers) (cause.0 0 []) in
          no_load store.1
        where
          no_load : false ≡ true → ⊥
          no_load e = cc
      plays input lost out failed WriteFault r cause = front WriteFault r
      plays input lost out failed OutOfMemory r cause = front OutOfMemory r

pub early_runs_play : RunsWriteConstants → EarlyRunsPlay
early_runs_play law constants image is schedule budget unplug boxes turns made input lost out failed outcome r cause =
    plays law constants image is schedule turns budget unplug boxes made input lost out failed outcome r cause
