-- A run from its start over each step to its end.
use Rattle.std.proofs.Common.{◌≡◌, ℕ, ◌+◌, ◌-◌, ◌^◌, ◌%◌, ◌≤◌, ◌<◌, ◌⊎◌, inl, inr, min, Bool, true, false, cond, List, [], ◌∷◌, ◌++◌, length, Option, Some, None, refl, ap, sym, ◌∙◌, subst, arith, append-nil}
use Rattle.std.specs.Prelude.{◌==◌, ◌&&◌}
use Rattle.std.proofs.lemmas.Bool.Decides.{nat_tests}
use Rattle.fx_base.specs.declared.device_op.DeviceOp.{DeviceOp}
use Rattle.fx_base.specs.Faults.{Rose}
use Rattle.fx_base.specs.Told.{Told}
use Rattle.fx_outcomes.specs.Runs.{Goes}
use Rattle.fx_device.specs.Rules.{Meaning}
use Rattle.fx_device.specs.Bus.{box_of, none}
use Rattle.fx_c_mean_model.specs.declared.end.End.{End}
use Rattle.fx_c_mean_model.specs.declared.rights.Rights.{Rights}
use Rattle.fx_c_mean_model.specs.Programs.{Program}
use Rattle.fx_c_mean_model.specs.Steps.{State, step, extra}
use Rattle.fx_c_mean_model.specs.Expected.{Run as SourceRun, started, run_after}
use Rattle.fx_c_mean.specs.declared.runner.Walk.{Walk}
use Rattle.fx_c_mean.specs.Walks.{Run, Finishes, first_run, more_cost, Requests, AsksInput}
use Rattle.fx_c_mean_law.specs.Counting.{answers_of, cost_of}
use Rattle.fx_c_mean_law.specs.Reached.{Reached, BegunBelow, Came}
use Rattle.fx_c_mean_law.proofs.Reaching.{cost_more, stands, comes, begun_last, advances}
use Rattle.fx_c_mean_law.proofs.Reaching as reaching
use Rattle.fx_cmd_single.specs.declared.outcome.Outcome.{Outcome}
use Rattle.fx_cmd_single.specs.declared.outcome.Outcome.TheVariants.{Ended, Spent, Device, ReadFault, WriteFault, OutOfMemory}
use Rattle.fx_cmd_base.specs.Streams.{Gained}
use Rattle.fx_cmd_single.specs.Streams.{outputs, inputs, Reads, GainedButLast, Same, LostOne}
use Rattle.fx_cmd_single.specs.Devices.{Part, Devices}
use Rattle.fx_cmd_single.specs.Ran.{end_of, state_after, HasCause, HasStepLeft, PutsLast, RunsTo, Output, Input}
use Rattle.fx_cmd_single.specs.Stepping.{WentOn, EndsBy}
use Rattle.fx_cmd_single.proofs.Telling.{told_same, told_join, outputs-append, inputs-append, reads-append, gained-append}
use Rattle.fx_cmd_single.proofs.Stepped.{one_made}
use Rattle.fx_cmd_single.proofs.Serving.{devices_first, devices_made, parts, fails, fault_kept}

abbrev Tale : Type 0
Tale = Option (List ℕ)

pub rose_since : (first before now : ℕ) → first ≤ before → Rose before now → Rose first now
rose_since first before now le rose = grind (arith, rose)

-- A run after n steps: its devices, and what the input and the output told at its start and tell now.
pub record Moment (p : Program) (r : Rights) (budget : ℕ) (boxes : List (Option Meaning)) (taken left : Option (List ℕ)) (run : Run) (gained lost : Option (List ℕ)) : Type 0 where
  pub n : ℕ
  pub spent : ℕ
  pub reached : Reached p r run n spent
  pub begun : BegunBelow p r budget run.bus.transcript n
  pub devices : Devices boxes run.bus
  pub output : Told (Gained (outputs run.bus.transcript)) taken gained
  pub input : Told (Reads (inputs run.bus.transcript)) left lost

-- A run that ended so.
pub record Done (p : Program) (r : Rights) (budget : ℕ) (boxes : List (Option Meaning)) (taken left : Option (List ℕ)) (input output : ℕ) (outcome : Outcome) (cost : ℕ) (now : List DeviceOp) (gained lost : Option (List ℕ)) (read put : ℕ) : Type 0 where
  pub ran : RunsTo p r budget boxes input read output put outcome cost now
  pub output_is : Told (Output outcome now) taken gained
  pub input_is : Told (Input outcome now) left lost

-- ---- the start

pub begins : (budget : ℕ) (taken left : Tale) (run : Run) → run ≡ first_run run.program run.rights run.bus → run.bus.transcript ≡ [] → Moment run.program run.rights budget run.bus.boxes taken left run taken left
begins budget taken left run at empty = record {
  n = 0;
  spent = 0;
  reached = subst (λ (q : Run). Reached run.program run.rights q 0 0) (sym at) (reaching.begins run.program run.rights run.bus empty);
  begun = λ answers m lt. absurd (omega (arith, lt));
  devices = devices_first run.bus empty;
  output = subst (λ t. Told (Gained (outputs t)) taken taken) (sym empty) (told_same (Gained []) (λ x. sym (append-nil x)) taken);
  input = subst (λ t. Told (Reads (inputs t)) left left) (sym empty) (told_same (Reads []) (λ x. refl) left);
}

-- ---- where it stands

-- where the steps lead is where the runner stands
pub stands_at : (p : Program) (r : Rights) (run : Run) (n spent : ℕ) → Reached p r run n spent → (answers : List ℕ) → state_after p r n run.bus.transcript answers ≡ run.state
stands_at p r run n spent h answers =
    let whole : n ≡ n + 0 = omega arith in
    ap (λ (y : SourceRun). y.state) (ap (λ m. run_after p r m (started p (answers_of run.bus.transcript ++ answers))) whole ∙ h.after_is answers 0)

-- with the answers that were given and no more
pub begun_here : (p : Program) (r : Rights) (budget n : ℕ) (made : List DeviceOp) → BegunBelow p r budget made n → (m : ℕ) → m < n → cost_of p r m (started p (answers_of made)) < budget
begun_here p r budget n made below m lt = subst (λ l. cost_of p r m (started p l) < budget) (append-nil (answers_of made)) (below [] m lt)

module _ (p : Program) (r : Rights) (budget : ℕ) (boxes : List (Option Meaning)) (taken left : Tale) (run : Run) (gained lost : Tale) (h : Moment p r budget boxes taken left run gained lost) where
  abbrev T : List DeviceOp
  T = run.bus.transcript

  -- no further step was made
  pub ran_here : (input read out put : ℕ) (outcome : Outcome) (cost : ℕ) (now : List DeviceOp) → cost ≡ run.cost → now ≡ T → None ≡ end_of outcome → (outcome ≡ Spent → budget ≤ run.cost) → HasStepLeft outcome run.cost budget → HasCause p r boxes h.n T input read out put outcome
      → RunsTo p r budget boxes input read out put outcome cost now
  ran_here input read out put outcome cost now dear same no_end over left cause =
      subst (λ c. RunsTo p r budget boxes input read out put outcome c now) (sym dear)
      (subst (RunsTo p r budget boxes input read out put outcome run.cost) (sym same) (record {
        steps = h.n;
        spent = h.spent;
        came = subst (λ (e : Option End). Came p r h.n h.spent (record { made = T; finish = e })) no_end (stands p r run h.n h.spent h.reached);
        cost_is = h.reached.cost_is;
        begun = begun_here p r budget h.n T h.begun;
        over = over;
        left = left;
        devices = parts boxes run.bus h.devices;
        console = h.devices.console;
        cause = cause;
      }))

  put_more : (made : List DeviceOp) (more : Tale) → Told (Gained (outputs made)) gained more → Told (Gained (outputs (T ++ made))) taken more
  put_more made more put =
      told_join (Gained (outputs T)) (Gained (outputs made)) (Gained (outputs (T ++ made)))
      (λ x y z g q. subst (λ o. Gained o x z) (sym (outputs-append T made)) (gained-append (outputs T) (outputs made) x y z g q)) taken gained more h.output put

  read_more : (made : List DeviceOp) (more : Tale) → Told (Reads (inputs made)) lost more → Told (Reads (inputs (T ++ made))) left more
  read_more made more read =
      told_join (Reads (inputs T)) (Reads (inputs made)) (Reads (inputs (T ++ made)))
      (λ x y z g q. subst (λ o. Reads o x z) (sym (inputs-append T made)) (reads-append (inputs T) (inputs made) x y z g q)) left lost more h.input read

  puts_same : (gains : Tale) → Told Same gained gains → Told (Gained (outputs T)) taken gains
  puts_same gains put = told_join (Gained (outputs T)) Same (Gained (outputs T)) (λ x y z g q. q ∙ g) taken gained gains h.output put

  reads_same : (loses : Tale) → Told Same lost loses → Told (Reads (inputs T)) left loses
  reads_same loses read = told_join (Reads (inputs T)) Same (Reads (inputs T)) (λ x y z g q. subst (Reads (inputs T) x) (sym q) g) left lost loses h.input read

  -- ---- a step that put a byte out

  -- the step was a store to the console
  is_store : (a b w : Bool) (v byte : ℕ) → cond ((a && b) && w) (v ∷ []) [] ++ [] ≡ byte ∷ [] → (a ≡ true) × (b ≡ true) × (w ≡ true)
  is_store true true true v byte e = (refl, refl, refl)
  is_store true true false v byte e = cc
  is_store true false w v byte e = cc
  is_store false b w v byte e = cc

  is_zero : (k : ℕ) → (k == 0) ≡ true → k ≡ 0
  is_zero k e = grind (arith, nat_tests)

  last_put : (made : List DeviceOp) (next : State) (answer byte : ℕ) → step run.program run.rights answer run.state ≡ Goes made next → length made ≤ 1 → outputs made ≡ byte ∷ [] → PutsLast p r (h.n + 1) (T ++ made)
  last_put [] next answer byte made one puts = cc
  last_put (op ∷ []) next answer byte made one puts =
      let s = is_store (op.device == 0) (op.reg == 0) op.write (op.value % 256) byte puts in
      let own : step p r answer run.state ≡ Goes (op ∷ []) next =
      ap (λ (q : Program). step q r answer run.state) (sym h.reached.program_is) ∙ ap (λ (q : Rights). step run.program q answer run.state) (sym h.reached.rights_is) ∙ made in
      record {
        before = h.n;
        earlier = T;
        last = op;
        steps = refl;
        order = refl;
        console = (is_zero op.device s.0, is_zero op.reg s.1);
        store = s.2;
        makes = λ answers. (answer, next, ap (step p r answer) (stands_at p r run h.n h.spent h.reached answers) ∙ own);
      }
  last_put (op ∷ more ∷ rest) next answer byte made one puts = absurd (omega (arith, one))

  module _ (less : run.cost < budget) (fits : budget < 2 ^ 64) where
    -- ---- a step that goes on

    pub goes_on : (k : Run) (gains loses : Tale) → WentOn run k gained gains lost loses → Moment p r budget boxes taken left k gains loses
    goes_on k gains loses (answer, said, went, put, read) =
        let a = advances p r run h.n h.spent h.reached k answer said went budget in
        record {
          n = h.n + 1;
          spent = h.spent + (extra p run.state + 1);
          reached = a.reached;
          begun = a.begun less fits h.begun;
          devices = devices_made boxes went.made run.bus k.bus went.bus h.devices;
          output = subst (λ t. Told (Gained (outputs t)) taken gains) (sym a.transcript) (put_more went.made gains put);
          input = subst (λ t. Told (Reads (inputs t)) left loses) (sym a.transcript) (read_more went.made loses read);
        }

    -- its cost is more
    pub cost_rises : (k : Run) (gains loses : Tale) → WentOn run k gained gains lost loses → run.cost < k.cost
    cost_rises k gains loses (answer, said, went, put, read) =
        let dear : k.cost ≡ more_cost run.cost (extra run.program run.state) = ap (λ (q : Run). q.cost) went.same in
        omega (arith, dear, less, fits)

    -- ---- the end

    module _ (i0 i1 i2 o0 o1 o2 : ℕ) (in_order : i0 ≤ i1) (out_order : o0 ≤ o1) where
      abbrev Ending : Outcome → ℕ → List DeviceOp → Tale → Tale → Type 0
      Ending outcome cost now gains loses = Done p r budget boxes taken left i0 o0 outcome cost now gains loses i2 o2

      ended : (k : Run) (said : Walk) (f : Finishes run said k) (gains loses : Tale) → Told Same gained gains → Told Same lost loses → Ending (Ended f.with_end) k.cost k.bus.transcript gains loses
      ended k said f gains loses put read =
          let same : k.bus.transcript ≡ T = ap (λ (q : Run). q.bus.transcript) f.same in
          let dear : k.cost ≡ min (h.spent + (extra p run.state + 1)) (2 ^ 64 - 1) =
          ap (λ (q : Run). q.cost) f.same ∙ ap (λ (q : Program). more_cost run.cost (extra q run.state)) h.reached.program_is ∙ cost_more run.cost h.spent (extra p run.state) h.reached.cost_is in
          subst (λ t. Ending (Ended f.with_end) k.cost t gains loses) (sym same) (record {
            ran = record {
              steps = h.n + 1;
              spent = h.spent + (extra p run.state + 1);
              came = comes p r run h.n h.spent h.reached k said f;
              cost_is = dear;
              begun = begun_here p r budget (h.n + 1) T (begun_last p r run h.n h.spent h.reached k said f budget less fits h.begun);
              over = λ e. cc;
              left = tt;
              devices = parts boxes run.bus h.devices;
              console = h.devices.console;
              cause = tt;
            };
            output_is = puts_same gains put;
            input_is = reads_same loses read;
          })

      pub ends : (outcome : Outcome) (k : Run) (gains loses : Tale) → EndsBy run k gained gains lost loses i1 i2 o1 o2 outcome → Ending outcome k.cost k.bus.transcript gains loses
      ends (Ended e) k gains loses (said, f, is, put, read) = subst (λ (x : End). Ending (Ended x) k.cost k.bus.transcript gains loses) is (ended k said f gains loses put read)
      ends Spent k gains loses e = absurd e
      ends (Device i) k gains loses (faults, put, read) =
          let same : k.bus.transcript ≡ T = fault_kept i faults.request run.bus k.bus faults.failed in
          let f = fails boxes i faults.request run.bus k.bus faults.failed h.devices in
          subst (λ t. Ending (Device i) k.cost t gains loses) (sym same) (record {
            ran = ran_here i0 i2 o0 o2 (Device i) k.cost T (ap (λ (q : Run). q.cost) faults.same) refl refl (λ e. cc) less
                (faults.request, (λ answers. subst (λ (s : State). Requests s i faults.request) (sym (stands_at p r run h.n h.spent h.reached answers)) faults.asked), f.0, f.1, f.2, f.3, f.4, f.5);
            output_is = puts_same gains put;
            input_is = reads_same loses read;
          })
      ends ReadFault k gains loses (asks, rose, same, put, read) =
          subst (λ (q : Run). Ending ReadFault q.cost q.bus.transcript gains loses) (sym same) (record {
            ran = ran_here i0 i2 o0 o2 ReadFault run.cost T refl refl refl (λ e. cc) less
                ((λ answers. subst AsksInput (sym (stands_at p r run h.n h.spent h.reached answers)) asks), rose_since i0 i1 i2 in_order rose);
            output_is = puts_same gains put;
            input_is = reads_same loses read;
          })
      ends WriteFault k gains loses (answer, said, went, silent, byte, puts, rose, put, read) =
          let a = advances p r run h.n h.spent h.reached k answer said went budget in
          let outs : outputs (T ++ went.made) ≡ outputs T ++ byte ∷ [] = outputs-append T went.made ∙ ap (λ o. outputs T ++ o) puts in
          let ins : inputs (T ++ went.made) ≡ inputs T = inputs-append T went.made ∙ ap (λ o. inputs T ++ o) silent ∙ append-nil (inputs T) in
          let served = devices_made boxes went.made run.bus k.bus went.bus h.devices in
          record {
            ran = record {
              steps = h.n + 1;
              spent = h.spent + (extra p run.state + 1);
              came = stands p r k (h.n + 1) (h.spent + (extra p run.state + 1)) a.reached;
              cost_is = a.reached.cost_is;
              begun = begun_here p r budget (h.n + 1) k.bus.transcript (a.begun less fits h.begun);
              over = λ e. cc;
              left = tt;
              devices = parts boxes k.bus served;
              console = served.console;
              cause = (subst (PutsLast p r (h.n + 1)) (sym a.transcript) (last_put went.made k.state answer byte went.step (one_made run k answer said went) puts), rose_since o0 o1 o2 out_order rose);
            };
            output_is = subst (λ t. Told (GainedButLast (outputs t)) taken gains) (sym a.transcript)
                (told_join (Gained (outputs T)) Same (GainedButLast (outputs (T ++ went.made))) (λ x y z g q. (outputs T, byte, outs, q ∙ g)) taken gained gains h.output put);
            input_is = subst (λ t. Told (Reads (inputs t)) left loses) (sym a.transcript) (subst (λ o. Told (Reads o) left loses) (sym ins) (reads_same loses read));
          }
      ends OutOfMemory k gains loses (same, put, read) =
          subst (λ (q : Run). Ending OutOfMemory q.cost q.bus.transcript gains loses) (sym same) (record {
            ran = ran_here i0 i2 o0 o2 OutOfMemory run.cost T refl refl refl (λ e. cc) tt tt;
            output_is = puts_same gains put;
            input_is = wanted loses read;
          })
        where
          wanted : (loses : Tale) → Told Same lost loses ⊎ Told LostOne lost loses → Told (Input OutOfMemory T) left loses
          wanted loses (inl read) = told_join (Reads (inputs T)) Same (Input OutOfMemory T) (λ x y z g q. inl (subst (Reads (inputs T) x) (sym q) g)) left lost loses h.input read
          wanted loses (inr read) = told_join (Reads (inputs T)) LostOne (Input OutOfMemory T) (λ x y z g q. inr (y, g, q)) left lost loses h.input read

  pub all_spent : (i0 i1 o0 o1 : ℕ) → budget ≤ run.cost → Done p r budget boxes taken left i0 o0 Spent run.cost T gained lost i1 o1
  all_spent i0 i1 o0 o1 over = record {
    ran = ran_here i0 i1 o0 o1 Spent run.cost T refl refl refl (λ e. over) tt tt;
    output_is = h.output;
    input_is = h.input;
  }

-- ---- a run that no memory was there for

nothing_part : (first : Option Meaning) → Part first []
nothing_part None = tt
nothing_part (Some b) = (b, none)

pub nothing_ran : (p : Program) (r : Rights) (budget : ℕ) (boxes : List (Option Meaning)) (taken left : Tale) (i0 i1 o0 o1 cost : ℕ) (now : List DeviceOp) → cost ≡ 0 → now ≡ [] → Done p r budget boxes taken left i0 o0 OutOfMemory cost now taken left i1 o1
nothing_ran p r budget boxes taken left i0 i1 o0 o1 cost now free empty =
    subst (λ c. Done p r budget boxes taken left i0 o0 OutOfMemory c now taken left i1 o1) (sym free)
    (subst (λ t. Done p r budget boxes taken left i0 o0 OutOfMemory 0 t taken left i1 o1) (sym empty) (record {
      ran = record {
        steps = 0;
        spent = 0;
        came = record { expected_is = refl; spent_is = refl; fed_is = refl };
        cost_is = omega arith;
        begun = λ m lt. absurd (omega (arith, lt));
        over = λ e. cc;
        left = tt;
        devices = λ d ne. nothing_part (box_of d boxes);
        console = tt;
        cause = tt;
      };
      output_is = told_same (Gained []) (λ x. sym (append-nil x)) taken;
      input_is = told_same (Input OutOfMemory []) (λ x. inl refl) left;
    }))
