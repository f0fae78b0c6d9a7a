-- How a turn ends, by what was done of its instruction.
use Rattle.std.proofs.Common.{◌≡◌, ℕ, ◌%◌, ◌<◌, true, false, Option, None, Ok, Err, List, [], ◌∷◌, length, refl, sym, ap, ◌∙◌, subst, arith, lit≤, length-set, cond}
use Rattle.std.specs.Prelude.{slice_set, slice_index_or}
use Rattle.std.proofs.lemmas.List.{set-get_or, get_or_default}
use Rattle.fx_outcomes.specs.Many.{placed}
use Rattle.fx_base.specs.declared.device_op.DeviceOp.{DeviceOp}
use Rattle.fx_device.specs.Rules.{Meaning}
use Rattle.fx_device.specs.Bus.{BusState, bus_state}
use Rattle.fx_x64_forms.specs.declared.inst.Inst.{Inst}
use Rattle.fx_cpu.specs.Registers.{past}
use Rattle.fx_cpu.specs.Does.{finish}
use Rattle.fx_cpu.specs.declared.registers.Regs.{Regs}
use Rattle.fx_image.specs.declared.forms.Image.{Image}
use Rattle.fx_machine_model.specs.Boot.{boot_regs, vcpus}
use Rattle.fx_machine_model.specs.Moves.{Move, move}
use Rattle.fx_machine_model.specs.Turns.{answer_to}
use Rattle.fx_machine_model.specs.declared.stop.Stop.{Stop}
use Rattle.fx_machine_model.specs.declared.stop.Turn.{Turn}
use Rattle.fx_machine_model.specs.declared.stop.Turn.TheVariants as turns
use Rattle.fx_machine.specs.Acting.{world, answered, ActsBy}
use Rattle.fx_machine.specs.Memory.{memory_of}
use Rattle.fx_machine.specs.Operations.{Operated}
use Rattle.fx_machine.specs.Turns.{Running, running_of, cpus_of, made_of, asked, console_load, GoesOn, MakesTurn, Turned, Waits}
use Rattle.fx_machine.specs.declared.memory.Memory.{Memory}
use Rattle.fx_machine.specs.declared.act.Act.{Act}
use Rattle.fx_machine.specs.declared.act.Act.TheVariants.{Done, Operation, Halts}
use Rattle.fx_machine.proofs.Turning.{same_running, goes_on, makes_op, asks_op, turned_done, turned_operation, turned_input, turned_fault, turned_starved}

module _ (image : Image) (memory new : Memory) (cpus cpus2 : List Regs) (c : ℕ) (lt : c < length cpus)
    (e_cpus : cpus2 ≡ slice_set cpus c (cpus_of image cpus2 c)) where
  abbrev r0 : Regs
  r0 = cpus_of image cpus c

  abbrev moves : List ℕ → Move
  moves answers = move image c r0 (world (memory_of image memory) answers)

  abbrev pub Acts : Act → Type 0
  Acts act = ActsBy moves r0 (memory_of image memory) act (cpus_of image cpus2 c) (memory_of image new)

  -- the registers are as they were
  back : cpus_of image cpus2 c ≡ r0 → cpus2 ≡ cpus
  back same = e_cpus ∙ ap (slice_set cpus c) same ∙ set-get_or cpus c (boot_regs image c)

  -- the registers that stand in the list
  read_at : (at : ℕ) (x : Regs) → at ≡ c → x ≡ slice_index_or cpus2 at x → x ≡ cpus_of image cpus2 c
  read_at at x is read =
      let n : length cpus2 ≡ length cpus = ap length e_cpus ∙ length-set cpus c (cpus_of image cpus2 c) in
      read ∙ ap (λ k. slice_index_or cpus2 k x) is ∙ get_or_default cpus2 c x (boot_regs image c) (omega arith)

  pub done_turn : (bus : BusState) → Acts Done → MakesTurn (running_of image memory cpus bus None) c turns.Went (running_of image new cpus2 bus None)
  done_turn bus acts =
      subst (λ l. MakesTurn (running_of image memory cpus bus None) c turns.Went (running_of image new l bus None)) (sym e_cpus)
      (turned_done image memory cpus bus c lt (cpus_of image cpus2 c) new acts)

  -- where the operation isn't made yet, nothing changed
  same : (bus : BusState) (list : List Regs) (stop : Option Stop) → memory_of image new ≡ memory_of image memory → running_of image new list bus stop ≡ running_of image memory list bus stop
  same bus list stop e = same_running image (cpus_of image list) (cpus_of image list) (memory_of image new) (memory_of image memory) bus bus stop stop refl e refl refl

  module _ (i : Inst) (len : ℕ) (op : DeviceOp) (acts : Acts (Operation i len op)) where
    abbrev done : ℕ → Regs
    done value = finish i (past r0 len) value

    set_back : (r : Regs) → slice_set cpus2 c r ≡ slice_set cpus c r
    set_back r = ap (λ l. slice_set l c r) (back acts.1)

    pub ok_turn : (bus now : BusState) (t : Turn) (value : ℕ) (r : Regs) → r ≡ done value → t ≡ answer_to (op ∷ []) → Operated op (Ok value) bus now
        → MakesTurn (running_of image memory cpus bus None) c t (running_of image new (slice_set cpus2 c r) now None)
    ok_turn bus now t value r is said h =
        subst (λ x. MakesTurn (running_of image memory cpus bus None) c t x)
        (sym (ap (λ l. running_of image new l now None) (set_back r ∙ ap (slice_set cpus c) is) ∙ same now (slice_set cpus c (done value)) None acts.2))
        (turned_operation image memory cpus bus c lt i len op acts.0 t value now said h)

    finished : (at : ℕ) (x r : Regs) (value : ℕ) → at ≡ c → x ≡ slice_index_or cpus2 at x → r ≡ finish i (past x len) value → r ≡ done value
    finished at x r value is read e = e ∙ ap (λ q. finish i (past q len) value) (read_at at x is read ∙ acts.1)

    pub ok_at : (bus now : BusState) (t : Turn) (value at : ℕ) (x r : Regs) → at ≡ c → x ≡ slice_index_or cpus2 at x → r ≡ finish i (past x len) value → t ≡ answer_to (op ∷ []) → Operated op (Ok value) bus now
        → MakesTurn (running_of image memory cpus bus None) c t (running_of image new (slice_set cpus2 at r) now None)
    ok_at bus now t value at x r is read e said h =
        subst (λ k. MakesTurn (running_of image memory cpus bus None) c t (running_of image new (slice_set cpus2 k r) now None)) (sym is) (ok_turn bus now t value r (finished at x r value is read e) said h)

    unmade : (bus now : BusState) (t : Turn) → MakesTurn (running_of image memory cpus bus None) c t (running_of image memory cpus now None) → MakesTurn (running_of image memory cpus bus None) c t (running_of image new cpus2 now None)
    unmade bus now t h =
        subst (λ x. MakesTurn (running_of image memory cpus bus None) c t x) (sym (ap (λ l. running_of image new l now None) (back acts.1) ∙ same now cpus None acts.2)) h

    pub err_turn : (bus now : BusState) (t : Turn) → Operated op (Err t) bus now → MakesTurn (running_of image memory cpus bus None) c t (running_of image new cpus2 now None)
    err_turn bus now turns.Went h = absurd h
    err_turn bus now (turns.Stopped s) h = absurd h
    err_turn bus now (turns.DeviceFault n) h = unmade bus now (turns.DeviceFault n) (turned_fault image memory cpus bus c lt i len op acts.0 n now h)
    err_turn bus now turns.Input h =
        unmade bus now turns.Input
        (subst (λ b. MakesTurn (running_of image memory cpus bus None) c turns.Input (running_of image memory cpus b None)) (sym h.3) (turned_input image memory cpus bus c lt i len op acts.0 (h.0, h.1, h.2, refl)))
    err_turn bus now (turns.Output b) h = absurd h
    err_turn bus now turns.OutOfMemory h =
        unmade bus now turns.OutOfMemory
        (subst (λ b. MakesTurn (running_of image memory cpus bus None) c turns.OutOfMemory (running_of image memory cpus b None)) (sym h) (turned_starved image memory cpus bus c lt i len op acts.0))

    -- the load that waits was answered
    module _ (asks : (answer : ℕ) (rest : List ℕ) → made_of (placed (cpus_of image cpus) c (moves (answer ∷ rest))) ≡ console_load answer ∷ []) where
      loads : (answer : ℕ) → asked op answer ≡ console_load answer
      loads answer =
          let (made, n, go, is) = asks_op moves r0 (memory_of image memory) i len op acts.0 answer [] in
          let m : made ≡ console_load answer ∷ [] = sym (ap (λ x. made_of (placed (cpus_of image cpus) c x)) go) ∙ asks answer [] in
          let l : asked op answer ∷ [] ≡ console_load answer ∷ [] = sym is ∙ m in
          one (asked op answer) (console_load answer) l
        where
          one : (a b : DeviceOp) → a ∷ [] ≡ b ∷ [] → a ≡ b
          one a b e = cc

      no_store : op.write ≡ true → (v : ℕ) → v ≡ 0
      no_store write v =
          let l = loads 0 in
          let w : asked op 0 ≡ op = ap (λ t. cond t op (answered op 0)) write in
          let x : true ≡ false = sym write ∙ sym (ap (λ (o : DeviceOp). o.write) w) ∙ ap (λ (o : DeviceOp). o.write) l in
          cc

      pub given : (bus now : BusState) (answer : ℕ) (r : Regs) → r ≡ done answer → GoesOn (running_of image memory cpus bus None) c (console_load answer ∷ []) (running_of image new (slice_set cpus2 c r) now None)
      given bus now answer r is =
          subst (λ x. GoesOn (running_of image memory cpus bus None) c (console_load answer ∷ []) x)
          (sym (ap (λ l. running_of image new l now None) (set_back r ∙ ap (slice_set cpus c) is) ∙ same now (slice_set cpus c (done answer)) None acts.2))
          (subst (λ o. GoesOn (running_of image memory cpus bus None) c (o ∷ []) (running_of image memory (slice_set cpus c (done answer)) now None)) (loads answer)
          (goes_on image memory cpus bus c lt (asked op answer ∷ []) (lit≤ tt) (done answer) memory now (makes_op moves r0 (memory_of image memory) i len op acts.0 answer (λ w. no_store w answer))))

      pub given_at : (bus now : BusState) (answer at : ℕ) (x r : Regs) → at ≡ c → x ≡ slice_index_or cpus2 at x → r ≡ finish i (past x len) answer → GoesOn (running_of image memory cpus bus None) c (console_load answer ∷ []) (running_of image new (slice_set cpus2 at r) now None)
      given_at bus now answer at x r is read e =
          subst (λ k. GoesOn (running_of image memory cpus bus None) c (console_load answer ∷ []) (running_of image new (slice_set cpus2 k r) now None)) (sym is) (given bus now answer r (finished at x r answer is read e))

  -- an instruction that is no operation asks for no input
  pub not_done : ((answer : ℕ) (rest : List ℕ) → made_of (placed (cpus_of image cpus) c (moves (answer ∷ rest))) ≡ console_load answer ∷ []) → Acts Done → ⊥
  not_done asks acts = let x : [] ≡ console_load 0 ∷ [] = sym (ap (λ x. made_of (placed (cpus_of image cpus) c x)) (acts (0 ∷ []))) ∙ asks 0 [] in cc

  pub not_halts : (stop : Stop) → ((answer : ℕ) (rest : List ℕ) → made_of (placed (cpus_of image cpus) c (moves (answer ∷ rest))) ≡ console_load answer ∷ []) → Acts (Halts stop) → ⊥
  not_halts stop asks acts = let x : [] ≡ console_load 0 ∷ [] = sym (ap (λ x. made_of (placed (cpus_of image cpus) c x)) (acts.0 (0 ∷ []))) ∙ asks 0 [] in cc

-- ---- the whole turn

-- the bus, where the boxes come first
abbrev pub bus_with : {A : Type 0} → List (Option A) → List DeviceOp → (A → Meaning) → BusState
bus_with boxes ops meaning = bus_state meaning boxes ops

pub turned_by : (image image2 : Image) (memory new : Memory) (cpus list : List Regs) (bus now : BusState) (stop stop2 : Option Stop) (v c : ℕ) (t : Turn) → stop ≡ None → c ≡ v % vcpus image → image2 ≡ image → stop2 ≡ stop
    → MakesTurn (running_of image memory cpus bus None) c t (running_of image new list now None) → Turned (running_of image memory cpus bus stop) v t (running_of image2 new list now stop2)
turned_by image image2 memory new cpus list bus now stop stop2 v c t going is same kept h =
    let none : stop2 ≡ None = kept ∙ going in
    subst (λ s. Turned (running_of image memory cpus bus s) v t (running_of image2 new list now stop2)) (sym going)
    (subst (λ s. Turned (running_of image memory cpus bus None) v t (running_of image2 new list now s)) (sym none)
    (subst (λ i. Turned (running_of image memory cpus bus None) v t (running_of i new list now None)) (sym same)
    (subst (λ k. MakesTurn (running_of image memory cpus bus None) k t (running_of image new list now None)) is h)))

-- a turn of the machine as it was, where nothing has changed that contracts see
pub turned_from : (image image2 : Image) (memory memory2 : Memory) (cpus cpus2 : List Regs) (bus : BusState) (stop stop2 : Option Stop) (v : ℕ) (t : Turn) (after : Running) → image2 ≡ image → memory2 ≡ memory → cpus2 ≡ cpus → stop2 ≡ stop
    → Turned (running_of image2 memory2 cpus2 bus stop2) v t after → Turned (running_of image memory cpus bus stop) v t after
turned_from image image2 memory memory2 cpus cpus2 bus stop stop2 v t after p q r s h =
    subst (λ x. Turned (running_of image memory cpus bus x) v t after) s
    (subst (λ x. Turned (running_of image memory x bus stop2) v t after) r
    (subst (λ x. Turned (running_of image x cpus2 bus stop2) v t after) q
    (subst (λ x. Turned (running_of x memory2 cpus2 bus stop2) v t after) p h)))

pub gave_by : (image image2 : Image) (memory new : Memory) (cpus list : List Regs) (bus now : BusState) (stop stop2 : Option Stop) (v c answer : ℕ) → stop ≡ None → c ≡ v % vcpus image → image2 ≡ image → stop2 ≡ stop
    → GoesOn (running_of image memory cpus bus None) c (console_load answer ∷ []) (running_of image new list now None) → GoesOn (running_of image memory cpus bus stop) (v % vcpus image) (console_load answer ∷ []) (running_of image2 new list now stop2)
gave_by image image2 memory new cpus list bus now stop stop2 v c answer going is same kept h =
    let none : stop2 ≡ None = kept ∙ going in
    subst (λ s. GoesOn (running_of image memory cpus bus s) (v % vcpus image) (console_load answer ∷ []) (running_of image2 new list now stop2)) (sym going)
    (subst (λ s. GoesOn (running_of image memory cpus bus None) (v % vcpus image) (console_load answer ∷ []) (running_of image2 new list now s)) (sym none)
    (subst (λ i. GoesOn (running_of image memory cpus bus None) (v % vcpus image) (console_load answer ∷ []) (running_of i new list now None)) (sym same)
    (subst (λ k. GoesOn (running_of image memory cpus bus None) k (console_load answer ∷ []) (running_of image new list now None)) is h)))

-- ---- a load that waits

abbrev pub AsksAt : Image → Memory → List Regs → ℕ → Type 0
AsksAt image memory cpus c = (answer : ℕ) (rest : List ℕ) → made_of (placed (cpus_of image cpus) c (move image c (cpus_of image cpus c) (world (memory_of image memory) (answer ∷ rest)))) ≡ console_load answer ∷ []

pub asks_at : (image : Image) (memory : Memory) (cpus : List Regs) (bus : BusState) (stop : Option Stop) (v c : ℕ) → c ≡ v % vcpus image → Waits (running_of image memory cpus bus stop) v → AsksAt image memory cpus c
asks_at image memory cpus bus stop v c is h = subst (AsksAt image memory cpus) (sym is) h.asks
