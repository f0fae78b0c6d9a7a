-- A run from its boot over each turn to its end.
use Rattle.std.proofs.Common.{◌≡◌, ℕ, zero, suc, ◌+◌, ◌≤◌, ◌<◌, ◌⊎◌, inl, inr, List, [], ◌∷◌, ◌++◌, length, Option, Some, None, refl, ap, sym, ◌∙◌, subst, arith}
use Rattle.std.proofs.lemmas.List.{append-nil}
use Rattle.fx_base.specs.declared.device_op.DeviceOp.{DeviceOp}
use Rattle.fx_base.specs.Faults.{Rose}
use Rattle.fx_base.specs.Told.{Told}
use Rattle.fx_device.specs.Rules.{Meaning}
use Rattle.fx_device.specs.Bus.{BusState, box_of, none}
use Rattle.fx_image.specs.declared.forms.Image.{Image}
use Rattle.fx_machine.specs.Turns.{Running, booted, state_of, request_of, made_of}
use Rattle.fx_machine_model.specs.declared.outcome.Outcome as outcomes
use Rattle.fx_machine_model.specs.declared.outcome.Outcome.TheVariants.{Stopped, Spent, Device, ReadFault, WriteFault, OutOfMemory}
use Rattle.fx_run_core.specs.Ran.{named, outputs, inputs, Reads, Gained, GainedButLast, plug_of, Part, RunsTo, HasCause, Output, Input, counted}
use Rattle.fx_run_core.specs.Reached.{Reached, Devices, Watching, Watched, Rebox}
use Rattle.fx_run_core.specs.Stepping.{Same, LostOne, WentOn, EndsBy}
use Rattle.fx_run_core.specs.declared.watch.Watch.{Watch}
use Rattle.fx_run_core.proofs.Reaching.{reached_first, reached_next, next_is}
use Rattle.fx_run_core.proofs.Serving.{devices_same}
use Rattle.fx_run_core.proofs.Telling.{told_same, told_join, outputs-append, inputs-append, reads-append, gained-append}
use Rattle.fx_run_core.proofs.Ending.{devices_reached, made_more, ran_here, ran_stopped, asks_next, puts_last, fails, fault_kept}

abbrev Tale : Type 0
Tale = Option (List ℕ)

pub rose_since : (first before now : ℕ) → first ≤ before → Rose before now → Rose first now
rose_since first before now le rose = grind (arith, rose)

-- A run after n turns: what it is to unplug, its devices, and what the input and the output told at its
-- start and tell now.
pub record Moment (image : Image) (schedule : List ℕ) (unplug : Option (ℕ × ℕ)) (boxes : List (Option Meaning)) (taken left : Option (List ℕ)) (m : Running) (n : ℕ) (watch : Option Watch) (gained lost : Option (List ℕ)) : Type 0 where
  pub reached : Reached image schedule m n
  pub devices : Devices boxes unplug m.bus
  pub watching : Watching unplug watch m.bus.transcript
  pub output : Told (Gained (outputs m.bus.transcript)) taken gained
  pub input : Told (Reads (inputs m.bus.transcript)) left lost

-- A run that ended so.
pub record Done (image : Image) (schedule : List ℕ) (budget : ℕ) (unplug : Option (ℕ × ℕ)) (boxes : List (Option Meaning)) (taken left : Option (List ℕ)) (input output : ℕ) (outcome : outcomes.Outcome) (n : ℕ) (now : List DeviceOp) (gained lost : Option (List ℕ)) (read put : ℕ) : Type 0 where
  pub ran : RunsTo image schedule budget unplug boxes outcome n now
  pub output_is : Told (Output outcome now) taken gained
  pub input_is : Told (Input outcome now) left lost
  pub cause : HasCause image schedule unplug boxes n now input read output put outcome

reboxed : (image : Image) (schedule : List ℕ) (k j : Running) (n : ℕ) → Reached image schedule k n → Rebox k j → Reached image schedule j n
reboxed image schedule k j n h (bs, is) =
    subst (λ (r : Running). Reached image schedule r n) (sym is) (record {
      image_is = h.image_is;
      going = h.going;
      run_is = h.run_is;
      turns_is = h.turns_is;
      fed_is = h.fed_is;
      after_is = h.after_is;
    })

-- ---- the start

pub begins : (schedule : List ℕ) (unplug : Option (ℕ × ℕ)) (watch : Option Watch) (taken left : Tale) (m k : Running) → m ≡ booted m.image m.bus → m.bus.transcript ≡ [] → Rebox m k → Watching unplug watch [] → Devices m.bus.boxes unplug k.bus → Moment m.image schedule unplug m.bus.boxes taken left k 0 watch taken left
begins schedule unplug watch taken left m k at empty box watching devices =
    let first : Reached m.image schedule m 0 = reached_first m.image schedule m refl (ap (λ (r : Running). r.stop) at) empty (λ answers. ap (λ (r : Running). state_of r answers) at) in
    let none : k.bus.transcript ≡ [] = ap (λ (r : Running). r.bus.transcript) box.1 ∙ empty in
    record {
      reached = reboxed m.image schedule m k 0 first box;
      devices = devices;
      watching = subst (Watching unplug watch) (sym none) watching;
      output = subst (λ t. Told (Gained (outputs t)) taken taken) (sym none) (told_same (Gained []) (λ x. sym (append-nil x)) taken);
      input = subst (λ t. Told (Reads (inputs t)) left left) (sym none) (told_same (Reads []) (λ x. refl) left);
    }

-- ---- a turn

module _ (image : Image) (schedule : List ℕ) (unplug : Option (ℕ × ℕ)) (boxes : List (Option Meaning)) (taken left : Tale) (m : Running) (n : ℕ) (watch : Option Watch) (gained lost : Tale) (h : Moment image schedule unplug boxes taken left m n watch gained lost) where
  abbrev T : List DeviceOp
  T = m.bus.transcript

  put_more : (made : List DeviceOp) (more : Tale) → Told (Gained (outputs made)) gained more → Told (Gained (outputs (T ++ made))) taken more
  put_more made more put =
      told_join (Gained (outputs T)) (Gained (outputs made)) (Gained (outputs (T ++ made)))
      (λ x y z g q. subst (λ o. Gained o x z) (sym (outputs-append T made)) (gained-append (outputs T) (outputs made) x y z g q)) taken gained more h.output put

  read_more : (made : List DeviceOp) (more : Tale) → Told (Reads (inputs made)) lost more → Told (Reads (inputs (T ++ made))) left more
  read_more made more read =
      told_join (Reads (inputs T)) (Reads (inputs made)) (Reads (inputs (T ++ made)))
      (λ x y z g q. subst (λ o. Reads o x z) (sym (inputs-append T made)) (reads-append (inputs T) (inputs made) x y z g q)) left lost more h.input read

  pub goes_on : (k j : Running) (count : ℕ) (next : Option Watch) (gains loses : Tale) → count ≡ length T → WentOn m (named schedule n) k gained gains lost loses → Rebox k j → Watched count watch next k.bus j.bus → Moment image schedule unplug boxes taken left j (n + 1) next gains loses
  goes_on k j count next gains loses at went box watched =
      let made = went.0 in
      let goes = went.1 in
      let reaches = went.2 in
      let more : k.bus.transcript ≡ T ++ made = made_more made m.bus k.bus reaches goes.one in
      let kept : j.bus.transcript ≡ T ++ made = ap (λ (r : Running). r.bus.transcript) box.1 ∙ more in
      let w = watched unplug T made more goes.one at h.watching in
      record {
        reached = reboxed image schedule k j (n + 1) (reached_next image schedule m n h.reached made k goes more) box;
        devices = w.1 boxes (devices_reached boxes unplug made m.bus k.bus reaches goes.one h.devices);
        watching = subst (Watching unplug next) (sym kept) w.0;
        output = subst (λ t. Told (Gained (outputs t)) taken gains) (sym kept) (put_more made gains went.3);
        input = subst (λ t. Told (Reads (inputs t)) left loses) (sym kept) (read_more made loses went.4);
      }

  pub goes_on_at : (v : ℕ) → v ≡ named schedule n → (k j : Running) (count : ℕ) (next : Option Watch) (gains loses : Tale) → count ≡ length T → WentOn m v k gained gains lost loses → Rebox k j → Watched count watch next k.bus j.bus → Moment image schedule unplug boxes taken left j (n + 1) next gains loses
  goes_on_at v is k j count next gains loses at went box watched = goes_on k j count next gains loses at (subst (λ x. WentOn m x k gained gains lost loses) is went) box watched

  -- ---- the end

  module _ (budget i0 i1 i2 o0 o1 o2 : ℕ) (in_order : i0 ≤ i1) (out_order : o0 ≤ o1) where
    abbrev Ending : outcomes.Outcome → ℕ → List DeviceOp → Tale → Tale → Type 0
    Ending outcome k now gains loses = Done image schedule budget unplug boxes taken left i0 o0 outcome k now gains loses i2 o2

    puts_same : (gains : Tale) → Told Same gained gains → Told (Gained (outputs T)) taken gains
    puts_same gains put = told_join (Gained (outputs T)) Same (Gained (outputs T)) (λ x y z g q. q ∙ g) taken gained gains h.output put

    reads_same : (loses : Tale) → Told Same lost loses → Told (Reads (inputs T)) left loses
    reads_same loses read = told_join (Reads (inputs T)) Same (Reads (inputs T)) (λ x y z g q. subst (Reads (inputs T) x) (sym q) g) left lost loses h.input read

    here : (outcome : outcomes.Outcome) (bus : BusState) → bus ≡ m.bus → RunsTo image schedule budget unplug boxes outcome n T → RunsTo image schedule budget unplug boxes outcome n bus.transcript
    here outcome bus same r = subst (λ (b : BusState). RunsTo image schedule budget unplug boxes outcome n b.transcript) (sym same) r

    pub ends : (outcome : outcomes.Outcome) (k : Running) (gains loses : Tale) → n < budget → EndsBy m (named schedule n) k gained gains lost loses i1 i2 o1 o2 outcome → Ending outcome (counted outcome n) k.bus.transcript gains loses
    ends (Stopped stop) k gains loses less (stops, same, put, read) =
        subst (λ (b : BusState). Ending (Stopped stop) (n + 1) b.transcript gains loses) (sym same) (record {
          ran = ran_stopped image schedule budget unplug boxes m n h.reached stop T refl stops h.devices less;
          output_is = puts_same gains put;
          input_is = reads_same loses read;
          cause = tt;
        })
    ends Spent k gains loses less e = absurd e
    ends (Device i) k gains loses less (op, asks, is, carries, put, read) =
        subst (λ t. Ending (Device i) n t gains loses) (sym (fault_kept i (request_of op) m.bus k.bus carries)) (record {
          ran = ran_here image schedule budget unplug boxes m n h.reached (Device i) T T m.bus refl refl (devices_same boxes unplug m.bus h.devices) refl (omega (arith, less)) (λ e. cc) less;
          output_is = puts_same gains put;
          input_is = reads_same loses read;
          cause = let f = fails boxes unplug i (request_of op) m.bus k.bus carries h.devices in (op, asks_next image schedule budget unplug boxes m n h.reached op asks, is, f.0, f.1, f.2, f.3, f.4, f.5, f.6);
        })
    ends ReadFault k gains loses less (asks, rose, same, put, read) =
        subst (λ (b : BusState). Ending ReadFault n b.transcript gains loses) (sym same) (record {
          ran = ran_here image schedule budget unplug boxes m n h.reached ReadFault T T m.bus refl refl (devices_same boxes unplug m.bus h.devices) refl (omega (arith, less)) (λ e. cc) less;
          output_is = puts_same gains put;
          input_is = reads_same loses read;
          cause = (λ answer rest. ap made_of (next_is image schedule m n h.reached (answer ∷ rest)) ∙ asks answer rest, rose_since i0 i1 i2 in_order rose);
        })
    ends WriteFault k gains loses less (made, goes, reaches, silent, byte, puts, rose, put, read) =
        let more : k.bus.transcript ≡ T ++ made = made_more made m.bus k.bus reaches goes.one in
        let outs : outputs (T ++ made) ≡ outputs T ++ byte ∷ [] = outputs-append T made ∙ ap (λ o. outputs T ++ o) puts in
        let ins : inputs (T ++ made) ≡ inputs T = inputs-append T made ∙ ap (λ o. inputs T ++ o) silent ∙ append-nil (inputs T) in
        subst (λ t. Ending WriteFault (n + 1) t gains loses) (sym more) (record {
          ran = ran_here image schedule budget unplug boxes k (n + 1) (reached_next image schedule m n h.reached made k goes more) WriteFault (T ++ made) T k.bus (sym more) refl (devices_reached boxes unplug made m.bus k.bus reaches goes.one h.devices) refl (omega (arith, less)) (λ e. cc) tt;
          output_is = told_join (Gained (outputs T)) Same (GainedButLast (outputs (T ++ made))) (λ x y z g q. (outputs T, byte, outs, q ∙ g)) taken gained gains h.output put;
          input_is = subst (λ o. Told (Reads o) left loses) (sym ins) (reads_same loses read);
          cause = (puts_last image schedule budget unplug boxes m n h.reached made k byte goes puts, rose_since o0 o1 o2 out_order rose);
        })
    ends OutOfMemory k gains loses less (same, put, read) =
        subst (λ (b : BusState). Ending OutOfMemory n b.transcript gains loses) (sym same) (record {
          ran = ran_here image schedule budget unplug boxes m n h.reached OutOfMemory T T m.bus refl refl (devices_same boxes unplug m.bus h.devices) refl (omega (arith, less)) (λ e. cc) tt;
          output_is = puts_same gains put;
          input_is = wanted loses read;
          cause = tt;
        })
      where
        wanted : (loses : Tale) → Told Same lost loses ⊎ Told LostOne lost loses → Told (Input OutOfMemory T) left loses
        wanted loses (inl read) = told_join (Reads (inputs T)) Same (Input OutOfMemory T) (λ x y z g q. inl (subst (Reads (inputs T) x) (sym q) g)) left lost loses h.input read
        wanted loses (inr read) = told_join (Reads (inputs T)) LostOne (Input OutOfMemory T) (λ x y z g q. inr (y, g, q)) left lost loses h.input read

    pub ends_at : (v : ℕ) → v ≡ named schedule n → (outcome : outcomes.Outcome) (count : ℕ) → count ≡ counted outcome n → (k : Running) (gains loses : Tale) → n < budget → EndsBy m v k gained gains lost loses i1 i2 o1 o2 outcome → Ending outcome count k.bus.transcript gains loses
    ends_at v is outcome count that k gains loses less h =
        subst (λ c. Ending outcome c k.bus.transcript gains loses) (sym that) (ends outcome k gains loses less (subst (λ x. EndsBy m x k gained gains lost loses i1 i2 o1 o2 outcome) is h))

  module _ (budget i0 i1 o0 o1 : ℕ) where
    pub spent : n ≤ budget → budget ≤ n → Done image schedule budget unplug boxes taken left i0 o0 Spent n T gained lost i1 o1
    spent within over = record {
      ran = ran_here image schedule budget unplug boxes m n h.reached Spent T T m.bus refl refl (devices_same boxes unplug m.bus h.devices) refl within (λ e. omega (arith, within, over)) tt;
      output_is = h.output;
      input_is = h.input;
      cause = tt;
    }

-- ---- a run that no machine was made for

nothing_part : (first : Option Meaning) (plug : Option ℕ) → Part first plug []
nothing_part None plug = tt
nothing_part (Some b) None = (b, none)
nothing_part (Some b) (Some zero) = ((b, none), tt)
nothing_part (Some b) (Some (suc n)) = ((b, none), tt)

pub nothing_ran : (image : Image) (schedule : List ℕ) (budget : ℕ) (unplug : Option (ℕ × ℕ)) (boxes : List (Option Meaning)) (taken left : Tale) (i0 i1 o0 o1 : ℕ) (now : List DeviceOp) → now ≡ [] → Done image schedule budget unplug boxes taken left i0 o0 OutOfMemory 0 now taken left i1 o1
nothing_ran image schedule budget unplug boxes taken left i0 i1 o0 o1 now empty =
    subst (λ t. Done image schedule budget unplug boxes taken left i0 o0 OutOfMemory 0 t taken left i1 o1) (sym empty) (record {
      ran = record {
        operations = refl;
        stop = refl;
        turns = refl;
        fed = refl;
        within = omega (arith);
        spent = λ e. cc;
        left = tt;
        devices = λ d ne. nothing_part (box_of d boxes) (plug_of unplug d);
        console = tt;
      };
      output_is = told_same (Gained []) (λ x. sym (append-nil x)) taken;
      input_is = told_same (Input OutOfMemory []) (λ x. inl refl) left;
      cause = tt;
    })
