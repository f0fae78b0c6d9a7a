-- What is done of an instruction, and its operation, is a turn of the machine.
use Rattle.std.proofs.Common.{◌≡◌, ℕ, ◌%◌, ◌+◌, ◌<◌, ◌≤◌, ◌⊎◌, inl, inr, Bool, true, false, Option, None, Some, Ok, Err, List, [], ◌∷◌, ◌++◌, length, refl, sym, ap, ◌∙◌, subst, cond, arith, lit≤}
use Rattle.std.specs.Prelude.{◌==◌, ◌&&◌, slice_set, slice_index_or}
use Rattle.std.proofs.Math.Path.{fun_ext}
use Rattle.std.proofs.lemmas.List.{get_or-set_same, get_or-set_other, get_or_past}
use Rattle.fx_outcomes.proofs.Follows.{nat_split}
use Rattle.std.proofs.lemmas.Bool.Decides.{eqb_tells}
use Rattle.fx_outcomes.specs.Runs.{Goes, Stops}
use Rattle.fx_outcomes.specs.Many.{Many, put, placed}
use Rattle.fx_base.specs.declared.device_op.DeviceOp.{DeviceOp}
use Rattle.fx_device.specs.Bus.{BusState}
use Rattle.fx_x64_forms.specs.declared.inst.Inst.{Inst}
use Rattle.fx_cpu.specs.Registers.{past}
use Rattle.fx_cpu.specs.Does.{finish}
use Rattle.fx_cpu.specs.declared.registers.Regs.{Regs}
use Rattle.fx_image.specs.declared.forms.Image.{Image}
use Rattle.fx_machine_model.specs.Boot.{boot_byte, boot_regs, vcpus}
use Rattle.fx_machine_model.specs.Moves.{World, Move, move}
use Rattle.fx_machine_model.specs.Turns.{answer_to}
use Rattle.fx_machine_model.specs.declared.stop.Stop.{Stop}
use Rattle.fx_machine_model.specs.declared.stop.Turn.{Turn}
use Rattle.fx_machine_model.specs.declared.stop.Turn.TheVariants as turns
use Rattle.fx_machine.specs.Acting.{world, answered, Operates, ActsBy}
use Rattle.fx_machine.specs.Memory.{memory_of}
use Rattle.fx_machine.specs.Operations.{Operated}
use Rattle.fx_machine.specs.Turns.{Running, running_of, cpus_of, booted, taken_by, asked, made_of, Makes, Asks, console_load, GoesOn, MakesTurn}
use Rattle.fx_machine.specs.declared.memory.Memory.{Memory}
use Rattle.fx_machine.specs.declared.act.Act.TheVariants.{Done}

-- ---- the registers of one vCPU are set

pub puts : (image : Image) (cpus : List Regs) (c : ℕ) (r : Regs) → c < length cpus → cpus_of image (slice_set cpus c r) ≡ put (cpus_of image cpus) c r
puts image cpus c r lt = fun_ext (λ d. elim (eqb_tells d c) [
  | inl (t, same) ↦
      ap (λ k. slice_index_or (slice_set cpus c r) k (boot_regs image k)) same ∙ get_or-set_same cpus c r (boot_regs image c) lt
      ∙ sym (ap (λ b. cond b r (cpus_of image cpus d)) t)
  | inr (t, other) ↦
      get_or-set_other cpus c d r (boot_regs image d) other
      ∙ sym (ap (λ b. cond b r (cpus_of image cpus d)) t)
])

pub same_running : (image : Image) (f g : ℕ → Regs) (m n : ℕ → ℕ) (a b : BusState) (s t : Option Stop) → f ≡ g → m ≡ n → a ≡ b → s ≡ t
    → ◌≡◌ {A = Running} (record { image = image; cpus = f; memory = m; bus = a; stop = s }) (record { image = image; cpus = g; memory = n; bus = b; stop = t })
same_running image f g m n a b s t p q u v = rw (p, q, u, v) refl

cpus_at_boot : (image : Image) (cpus : List Regs) → length cpus ≡ vcpus image → ((k : ℕ) (d : Regs) → k < vcpus image → slice_index_or cpus k d ≡ boot_regs image k) → cpus_of image cpus ≡ boot_regs image
cpus_at_boot image cpus many each = fun_ext (λ k. cases k (nat_split (length cpus) k))
  where
    cases : (k : ℕ) → (length cpus ≤ k) ⊎ ((j : ℕ) × (length cpus ≡ k + 1 + j)) → cpus_of image cpus k ≡ boot_regs image k
    cases k (inl past) = get_or_past cpus k (boot_regs image k) past
    cases k (inr (j, e)) = each k (boot_regs image k) (omega (arith, many))

pub running_at_boot : (image : Image) (memory : Memory) (cpus : List Regs) (bus : BusState) → memory_of image memory ≡ boot_byte image → length cpus ≡ vcpus image → ((k : ℕ) (d : Regs) → k < vcpus image → slice_index_or cpus k d ≡ boot_regs image k)
    → running_of image memory cpus bus None ≡ booted image bus
running_at_boot image memory cpus bus e many each = same_running image (cpus_of image cpus) (boot_regs image) (memory_of image memory) (boot_byte image) bus bus None None (cpus_at_boot image cpus many each) e refl refl

-- ---- an operation

module _ (go : List ℕ → Move) (r : Regs) (memory : ℕ → ℕ) (i : Inst) (len : ℕ) (op : DeviceOp) (o : Operates go r memory i len op) where
  abbrev After : DeviceOp → ℕ → List ℕ → Type 0
  After made value rest = go (taken_by (made ∷ []) ++ rest) ≡ Goes (made ∷ []) (finish i (past r len) value, world memory rest)

  pub makes_op : (value : ℕ) → (op.write ≡ true → value ≡ 0) → (rest : List ℕ) → After (asked op value) value rest
  makes_op value zero rest = by op.write refl
    where
      by : (t : Bool) → op.write ≡ t → After (asked op value) value rest
      by true e =
          let a : op ≡ asked op value = sym (ap (λ t. cond t op (answered op value)) e) in
          let none : taken_by (op ∷ []) ++ rest ≡ rest = ap (λ t. (cond t [] (op.value ∷ []) ++ []) ++ rest) e in
          subst (λ x. After x value rest) a (ap go none ∙ o.stores e rest ∙ ap (λ v. Goes (op ∷ []) (finish i (past r len) v, world memory rest)) (sym (zero e)))
      by false e =
          let a : answered op value ≡ asked op value = sym (ap (λ t. cond t op (answered op value)) e) in
          subst (λ x. After x value rest) a (o.loads e value rest)

  pub asks_op : (answer : ℕ) (rest : List ℕ) → (made : List DeviceOp) × (n : Regs × World) × (go (answer ∷ rest) ≡ Goes made n) × (made ≡ asked op answer ∷ [])
  asks_op answer rest = by op.write refl
    where
      by : (t : Bool) → op.write ≡ t → (made : List DeviceOp) × (n : Regs × World) × (go (answer ∷ rest) ≡ Goes made n) × (made ≡ asked op answer ∷ [])
      by true e = (op ∷ [], _, o.stores e (answer ∷ rest), ap (λ x. x ∷ []) (sym (ap (λ t. cond t op (answered op answer)) e)))
      by false e = (answered op answer ∷ [], _, o.loads e answer rest, ap (λ x. x ∷ []) (sym (ap (λ t. cond t op (answered op answer)) e)))

-- ---- a turn

module _ (image : Image) (memory : Memory) (cpus : List Regs) (bus : BusState) (c : ℕ) (lt : c < length cpus) where
  abbrev before : Running
  before = running_of image memory cpus bus None

  abbrev moves : List ℕ → Move
  moves answers = move image c (cpus_of image cpus c) (world (memory_of image memory) answers)

  abbrev old : ℕ → ℕ
  old = memory_of image memory

  pub goes_on : (made : List DeviceOp) → length made ≤ 1 → (r : Regs) (new : Memory) (now : BusState) → ((rest : List ℕ) → moves (taken_by made ++ rest) ≡ Goes made (r, world (memory_of image new) rest))
      → GoesOn before c made (running_of image new (slice_set cpus c r) now None)
  goes_on made one r new now h = record {
    one = one;
    moves = λ rest.
        ap (placed (cpus_of image cpus) c) (h rest)
        ∙ ap (λ f. let n : Many Regs World = record { cpus = f; world = world (memory_of image new) rest } in Goes made n) (sym (puts image cpus c r lt));
    image = refl;
    stop = refl;
  }

  pub turned_done : (r : Regs) (new : Memory) → ActsBy moves (cpus_of image cpus c) old Done r (memory_of image new) → MakesTurn before c turns.Went (running_of image new (slice_set cpus c r) bus None)
  turned_done r new h = ([], goes_on [] (lit≤ tt) r new bus h, refl, refl)

  pub turned_halts : (stop : Stop) → ((answers : List ℕ) → moves answers ≡ Stops [] stop) → MakesTurn before c (turns.Stopped stop) (running_of image memory cpus bus (Some stop))
  turned_halts stop h = (λ answers. ap (placed (cpus_of image cpus) c) (h answers), refl)

  module _ (i : Inst) (len : ℕ) (op : DeviceOp) (o : Operates moves (cpus_of image cpus c) old i len op) where
    abbrev done : ℕ → Regs
    done value = finish i (past (cpus_of image cpus c) len) value

    asks : Asks before c op
    asks answer rest =
        let (made, n, go, is) = asks_op moves (cpus_of image cpus c) old i len op o answer rest in
        ap (λ x. made_of (placed (cpus_of image cpus) c x)) go ∙ is

    went : (t : Turn) (value : ℕ) (now : BusState) → (answer_to (asked op value ∷ []) ≡ t) → Makes (asked op value ∷ []) bus now → (op.write ≡ true → value ≡ 0)
        → (made : List DeviceOp) × GoesOn before c made (running_of image memory (slice_set cpus c (done value)) now None) × (answer_to made ≡ t) × Makes made bus now
    went t value now is makes zero = (asked op value ∷ [], goes_on (asked op value ∷ []) (lit≤ tt) (done value) memory now (makes_op moves (cpus_of image cpus c) old i len op o value zero), is, makes)

    -- an operation's answer is none of the others
    never : (d b : Bool) (v : ℕ) (t : Turn) → cond d (cond b (turns.Output v) turns.Input) turns.Went ≡ t → (t ≡ turns.Went) ⊎ ((t ≡ turns.Output v) ⊎ (t ≡ turns.Input))
    never true true v t e = inr (inl (sym e))
    never true false v t e = inr (inr (sym e))
    never false b v t e = inl (sym e)

    abbrev Ends : ℕ → BusState → Turn → Type 0
    Ends value now u = MakesTurn before c u (running_of image memory (slice_set cpus c (done value)) now None)

    pub turned_operation : (t : Turn) (value : ℕ) (now : BusState) → t ≡ answer_to (op ∷ []) → Operated op (Ok value) bus now → MakesTurn before c t (running_of image memory (slice_set cpus c (done value)) now None)
    turned_operation t value now is h = elim (never ((op.device == 0) && (op.reg == 0)) op.write (op.value % 256) t (sym is)) [
      | inl w ↦ subst (Ends value now) (sym w) (went turns.Went value now (made ∙ w) h.0 h.1)
      | inr (inl w) ↦ subst (Ends value now) (sym w) (went (turns.Output (op.value % 256)) value now (made ∙ w) h.0 h.1)
      | inr (inr w) ↦ absurd (h.3 (sym is ∙ w))
    ]
      where
        made : answer_to (asked op value ∷ []) ≡ t
        made = h.2 ∙ sym is

    pub turned_input : Operated op (Err turns.Input) bus bus → MakesTurn before c turns.Input before
    turned_input h = ((λ answer rest. asks answer rest ∙ ap (λ x. x ∷ []) (loaded answer)), refl)
      where
        loaded : (answer : ℕ) → asked op answer ≡ console_load answer
        loaded answer = ap (λ t. cond t op (answered op answer)) h.2 ∙ rw (h.0, h.1) refl

    pub turned_fault : (number : ℕ) (now : BusState) → Operated op (Err (turns.DeviceFault number)) bus now → MakesTurn before c (turns.DeviceFault number) (running_of image memory cpus now None)
    turned_fault number now h = (op, asks, h.0, h.1, refl)

    pub turned_starved : MakesTurn before c turns.OutOfMemory before
    turned_starved = (op, asks, refl)

pub booted_by : (image copy : Image) (memory : Memory) (cpus : List Regs) (bus : BusState) → copy ≡ image → memory_of image memory ≡ boot_byte image → length cpus ≡ vcpus image → ((k : ℕ) (d : Regs) → k < vcpus image → slice_index_or cpus k d ≡ boot_regs image k)
    → running_of copy memory cpus bus None ≡ booted image bus
booted_by image copy memory cpus bus same bytes many each = ap (λ i. running_of i memory cpus bus None) same ∙ running_at_boot image memory cpus bus bytes many each
