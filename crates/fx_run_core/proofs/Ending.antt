-- How a run ends, from the moment before its last turn.
use Rattle.std.proofs.Common.{◌≡◌, ◌≢◌, ℕ, zero, suc, ◌+◌, ◌%◌, ◌≤◌, ◌<◌, inl, inr, List, [], ◌∷◌, ◌++◌, length, take, drop, Option, Some, None, Err, Bool, true, false, cond, refl, ap, sym, ◌∙◌, subst, arith}
use Rattle.std.specs.Prelude.{◌==◌, ◌&&◌}
use Rattle.std.proofs.lemmas.Bool.{cond-true}
use Rattle.std.proofs.lemmas.Bool.Decides.{nat_tests}
use Rattle.std.proofs.lemmas.List.{append-nil}
use Rattle.fx_base.specs.declared.device_op.DeviceOp.{DeviceOp}
use Rattle.fx_outcomes.specs.Runs.{Stops, Outcome}
use Rattle.fx_device.specs.Rules.{Held, Meaning, Request, Failed}
use Rattle.fx_device.specs.Bus.{BusState, box_of, operations_of, Ends, Carries, Leads}
use Rattle.fx_device.specs.declared.bus_error.BusError.TheVariants as errors
use Rattle.fx_image.specs.declared.forms.Image.{Image}
use Rattle.fx_machine_model.specs.Boot.{vcpus}
use Rattle.fx_machine_model.specs.declared.stop.Stop.{Stop}
use Rattle.fx_machine.specs.Acting.{answered}
use Rattle.fx_machine.specs.Turns.{Running, next_of, made_of, taken_by, Asks, AsksInput, GoesOn, console_load}
use Rattle.fx_run_core.specs.Ran.{named, AllOnes, console_others, plug_of, Part, IsPlugged, stop_of, outputs, NextAsks, PutsLast, HasTurnLeft, RunsTo}
use Rattle.fx_run_core.specs.Reached.{Reached, Served, ServedOrDue, Devices, DevicesDue}
use Rattle.fx_run_core.specs.Stepping.{Reaches}
use Rattle.fx_machine_model.specs.declared.outcome.Outcome as outcomes
use Rattle.fx_machine_model.specs.declared.outcome.Outcome.TheVariants.{Stopped, Spent}
use Rattle.fx_run_core.proofs.Reaching.{run_ends, turns_end, fed_ends, next_is, run_stops, turns_stop, fed_stops}
use Rattle.fx_run_core.proofs.Serving.{requested, devices_carried, devices_same, devices_noted, led_whole}

-- ---- the parts of the devices

take-past : (n : ℕ) (ops : List DeviceOp) → length ops ≤ n → take n ops ≡ ops
take-past zero [] h = refl
take-past zero (x ∷ xs) h = absurd (omega arith)
take-past (suc n) [] h = refl
take-past (suc n) (x ∷ xs) h = ap (λ l. x ∷ l) (take-past n xs (omega arith))

drop-past : (n : ℕ) (ops : List DeviceOp) → length ops ≤ n → drop n ops ≡ []
drop-past zero [] h = refl
drop-past zero (x ∷ xs) h = absurd (omega arith)
drop-past (suc n) [] h = refl
drop-past (suc n) (x ∷ xs) h = drop-past n xs (omega arith)

served_part : (first : Option Meaning) (plug : Option ℕ) (before ops : List DeviceOp) (now : Option Meaning) → ServedOrDue first plug before ops now → Part first plug ops
served_part None plug before ops now h = h.1
served_part (Some b) None before ops (Some c) h = (c, h.0)
served_part (Some b) (Some n) before ops (Some c) (led, inl in_box) = ((c, subst (λ l. Leads b l c) (sym (take-past n ops (omega arith))) led), subst AllOnes (sym (drop-past n ops (omega arith))) tt)
served_part (Some b) (Some n) before ops (Some c) (led, inr due) = led_whole b c n ops (same n (length ops) due.0) led
  where
    same : (a b : ℕ) → Some a ≡ Some b → a ≡ b
    same a b e = cc
served_part (Some b) plug before ops None (n, is, le, led, ones) = subst (λ p. Part (Some b) p ops) (sym is) (led, ones)

pub parts : (boxes : List (Option Meaning)) (unplug : Option (ℕ × ℕ)) (before : List DeviceOp) (bus : BusState) → DevicesDue boxes unplug before bus → (device : ℕ) → device ≢ 0 → Part (box_of device boxes) (plug_of unplug device) (operations_of device bus.transcript)
parts boxes unplug before bus h device ne = served_part (box_of device boxes) (plug_of unplug device) (operations_of device before) (operations_of device bus.transcript) (box_of device bus.boxes) (h.each device ne)

pub devices_reached : (boxes : List (Option Meaning)) (unplug : Option (ℕ × ℕ)) (made : List DeviceOp) (old new : BusState) → Reaches made old new → length made ≤ 1 → Devices boxes unplug old → DevicesDue boxes unplug old.transcript new
devices_reached boxes unplug [] old new (inl makes) one h = subst (DevicesDue boxes unplug old.transcript) (sym makes) (devices_same boxes unplug old h)
devices_reached boxes unplug (op ∷ []) old new (inl makes) one h = devices_carried boxes unplug op old new makes h
devices_reached boxes unplug (op ∷ next ∷ more) old new (inl makes) one h = absurd (omega arith)
devices_reached boxes unplug made old new (inr notes) one h = subst (DevicesDue boxes unplug old.transcript) (sym notes.2) (devices_noted boxes unplug notes.0 old h)

pub made_more : (made : List DeviceOp) (old new : BusState) → Reaches made old new → length made ≤ 1 → new.transcript ≡ old.transcript ++ made
made_more [] old new (inl makes) one = ap (λ (b : BusState). b.transcript) makes ∙ sym (append-nil old.transcript)
made_more (op ∷ []) old new (inl makes) one = makes.transcript ∙ ap (λ o. old.transcript ++ o ∷ []) (requested op)
made_more (op ∷ next ∷ more) old new (inl makes) one = absurd (omega arith)
made_more made old new (inr notes) one = ap (λ (b : BusState). b.transcript) notes.2 ∙ ap (λ m. old.transcript ++ m) (sym notes.1)

-- ---- the run

module _ (image : Image) (schedule : List ℕ) (budget : ℕ) (unplug : Option (ℕ × ℕ)) (boxes : List (Option Meaning)) (m : Running) (n : ℕ) (h : Reached image schedule m n) where
  abbrev T : List DeviceOp
  T = m.bus.transcript

  -- no turn was made since
  pub ran_here : (outcome : outcomes.Outcome) (now before : List DeviceOp) (bus : BusState) → now ≡ T → bus.transcript ≡ T → DevicesDue boxes unplug before bus → stop_of outcome ≡ None → n ≤ budget → (outcome ≡ Spent → n ≡ budget) → HasTurnLeft outcome n budget → RunsTo image schedule budget unplug boxes outcome n now
  ran_here outcome now before bus same there devices none within spent left =
      subst (RunsTo image schedule budget unplug boxes outcome n) (sym same) (record {
        operations = ap (λ (x : Outcome DeviceOp Stop). x.made) (run_ends image schedule m n h);
        stop = ap (λ (x : Outcome DeviceOp Stop). x.finish) (run_ends image schedule m n h) ∙ sym none;
        turns = turns_end image schedule m n h;
        fed = fed_ends image schedule m n h;
        within = within;
        spent = spent;
        left = left;
        devices = λ d ne. subst (λ t. Part (box_of d boxes) (plug_of unplug d) (operations_of d t)) there (parts boxes unplug before bus devices d ne);
        console = subst (λ t. AllOnes (console_others t)) there devices.console;
      })

  -- the turn stopped the machine
  pub ran_stopped : (stop : Stop) (now : List DeviceOp) → now ≡ T → ((answers : List ℕ) → next_of m (named schedule n % vcpus m.image) answers ≡ Stops [] stop) → Devices boxes unplug m.bus → n < budget → RunsTo image schedule budget unplug boxes (Stopped stop) (n + 1) now
  ran_stopped stop now same stops devices more =
      subst (RunsTo image schedule budget unplug boxes (Stopped stop) (n + 1)) (sym same) (record {
        operations = ap (λ (x : Outcome DeviceOp Stop). x.made) (run_stops image schedule m n h stop stops);
        stop = ap (λ (x : Outcome DeviceOp Stop). x.finish) (run_stops image schedule m n h stop stops);
        turns = turns_stop image schedule m n h stop stops;
        fed = fed_stops image schedule m n h stop stops;
        within = omega arith;
        spent = λ e. cc;
        left = tt;
        devices = parts boxes unplug T m.bus (devices_same boxes unplug m.bus devices);
        console = devices.console;
      })

  -- what the next turn asks for
  pub asks_next : (op : DeviceOp) → Asks m (named schedule n % vcpus m.image) op → NextAsks image schedule n T op
  asks_next op asks answer rest = ap made_of (next_is image schedule m n h (answer ∷ rest)) ∙ asks answer rest

  -- the turn made a store to the console
  is_store : (a b w : Bool) (v byte : ℕ) → cond (a && b && w) (v ∷ []) [] ++ [] ≡ byte ∷ [] → (a ≡ true) × (b ≡ true) × (w ≡ true)
  is_store true true true v byte e = (refl, refl, refl)
  is_store true true false v byte e = cc
  is_store true false w v byte e = cc
  is_store false b w v byte e = cc

  is_zero : (k : ℕ) → (k == 0) ≡ true → k ≡ 0
  is_zero k e = grind (arith, nat_tests)

  -- a store is what the turn asks for, whatever is answered
  asks_store : (k : Running) (op : DeviceOp) → op.write ≡ true → GoesOn m (named schedule n % vcpus m.image) (op ∷ []) k → Asks m (named schedule n % vcpus m.image) op
  asks_store k op store goes answer rest =
      let c = named schedule n % vcpus m.image in
      let none : taken_by (op ∷ []) ≡ [] = ap (λ w. cond w [] (op.value ∷ []) ++ []) store in
      ap (λ l. made_of (next_of m c (l ++ answer ∷ rest))) (sym none)
      ∙ ap made_of (goes.moves (answer ∷ rest))
      ∙ ap (λ w. cond w op (answered op answer) ∷ []) (sym store)

  pub puts_last : (made : List DeviceOp) (k : Running) (byte : ℕ) → GoesOn m (named schedule n % vcpus m.image) made k → outputs made ≡ byte ∷ [] → PutsLast image schedule (n + 1) (T ++ made)
  puts_last [] k byte goes puts = cc
  puts_last (op ∷ []) k byte goes puts =
      let s = is_store (op.device == 0) (op.reg == 0) op.write (op.value % 256) byte puts in
      record {
        before = n;
        earlier = T;
        last = op;
        turn = refl;
        order = refl;
        asks = asks_next op (asks_store k op s.2 goes);
        console = (is_zero op.device s.0, is_zero op.reg s.1);
        store = s.2;
      }
  puts_last (op ∷ next ∷ more) k byte goes puts = let one = goes.one in absurd (omega (arith, one))

  pub asks_input : AsksInput m (named schedule n % vcpus m.image) → (answer : ℕ) (rest : List ℕ) → made_of (next_of m (named schedule n % vcpus m.image) (answer ∷ rest)) ≡ console_load answer ∷ []
  asks_input asks = asks

-- ---- a device that fails

abbrev pub Fails : List (Option Meaning) → Option (ℕ × ℕ) → List DeviceOp → ℕ → Request → Type 0
Fails boxes unplug made i request =
    IsPlugged (plug_of unplug i) (operations_of i made) × (b : Meaning) × (box_of i boxes ≡ Some b) × (c : Meaning) × Leads b (operations_of i made) c × (now : Held) × Failed c request now

fails_by : (boxes : List (Option Meaning)) (unplug : Option (ℕ × ℕ)) (made : List DeviceOp) (i : ℕ) (request : Request) (first now content : Option Meaning) → box_of i boxes ≡ first → Served first (plug_of unplug i) (operations_of i made) now → Ends i request (Err (errors.Device i)) now content → Fails boxes unplug made i request
fails_by boxes unplug made i request first None content is served ends = absurd ends
fails_by boxes unplug made i request None (Some c) content is served ends = let x = served.0 in cc
fails_by boxes unplug made i request (Some b) (Some c) content is served ends = (served.1, b, is, c, served.0, ends.1.0, ends.1.1)

no_console : (i : ℕ) (request : Request) (boxes : List (Option Meaning)) (content : Option Meaning) → Ends i request (Err (errors.Device i)) (box_of i boxes) content → i ≢ 0
no_console i request boxes content ends zero_is =
    let t : (i == 0) ≡ true = grind (arith, nat_tests) in
    subst (λ x. Ends i request (Err (errors.Device i)) x content) (cond-true _ _ _ t) ends

pub fails : (boxes : List (Option Meaning)) (unplug : Option (ℕ × ℕ)) (i : ℕ) (request : Request) (old new : BusState) → Carries i request (Err (errors.Device i)) old new → Devices boxes unplug old → Fails boxes unplug old.transcript i request
fails boxes unplug i request old new carries devices =
    let lands = carries.boxes in
    fails_by boxes unplug old.transcript i request (box_of i boxes) (box_of i old.boxes) lands.content refl (devices.each i (no_console i request old.boxes lands.content lands.ends)) lands.ends

pub fault_kept : (i : ℕ) (request : Request) (old new : BusState) → Carries i request (Err (errors.Device i)) old new → new.transcript ≡ old.transcript
fault_kept i request old new carries = carries.transcript ∙ append-nil old.transcript
