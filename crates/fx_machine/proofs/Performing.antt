-- What an instruction does, by what it asks of memory and what comes of that.
use Rattle.std.proofs.Common.{◌≡◌, ℕ, List, [], ◌∷◌, Option, None, Some, true, false, refl, sym, ap, ◌∙◌}
use Rattle.fx_outcomes.specs.Runs.{Goes}
use Rattle.fx_x64_forms.specs.Numbers.{width_bytes}
use Rattle.fx_x64_forms.specs.declared.operand.Width.{Width}
use Rattle.fx_x64_forms.specs.declared.inst.Inst.{Inst}
use Rattle.fx_vm_pages.specs.Access.{access_check, page_of}
use Rattle.fx_vm_pages.specs.declared.access.Refusal.{Refusal}
use Rattle.fx_vm_pages.specs.declared.access.Access.TheVariants.{Read, Write, Fetch}
use Rattle.fx_cpu.specs.Registers.{past}
use Rattle.fx_cpu.specs.Memory.{stored, word_at}
use Rattle.fx_cpu.specs.Does.{need, finish}
use Rattle.fx_cpu.specs.declared.registers.Regs.{Regs}
use Rattle.fx_cpu.specs.declared.need.Need.TheVariants as needs
use Rattle.fx_cpu.specs.declared.trap.Trap.{Trap}
use Rattle.fx_image.specs.declared.forms.Image.{Image}
use Rattle.fx_machine_model.specs.Layout.{page_entry}
use Rattle.fx_machine_model.specs.Moves.{Move, perform, perform_need, checked, read, write, device_at, operation, refused, trapped, move, move_by, fetched}
use Rattle.fx_machine_model.specs.declared.fetched.Fetched.{Fetched}
use Rattle.fx_machine_model.specs.declared.fetched.Fetched.TheVariants.{Found, RefusedAt, Unspelled}
use Rattle.fx_machine_model.specs.declared.stop.Stop.TheVariants.{Invalid}
use Rattle.fx_machine_model.proofs.Executing.{quiet, reads, writes}
use Rattle.fx_machine_model.proofs.Fetching.{move_is}
use Rattle.fx_machine.specs.Acting.{world, ActsBy}
use Rattle.fx_machine.specs.Reaching.{reach_by, reach_of}
use Rattle.fx_machine.specs.declared.act.Act.{Act}
use Rattle.fx_machine.specs.declared.act.Act.TheVariants.{Done, Operation, Halts}
use Rattle.fx_machine.specs.declared.check.Reach.TheVariants as reaches

-- ---- what comes of an access

pub memory_free : (x : Option (ℕ × Refusal)) (d : Option ℕ) → reach_by x d ≡ reaches.Memory → (x ≡ None) × (d ≡ None)
memory_free None None e = (refl, refl)
memory_free None (Some d) e = cc
memory_free (Some first) d e = cc

device_free : (x : Option (ℕ × Refusal)) (d : Option ℕ) (n : ℕ) → reach_by x d ≡ reaches.Device n → (x ≡ None) × (d ≡ Some n)
device_free None None n e = cc
device_free None (Some d) n e = (refl, same d n e) where
  same : (d n : ℕ) → reaches.Device d ≡ reaches.Device n → Some d ≡ Some n
  same d n e = cc
device_free (Some first) d n e = cc

first_refused : (x : Option (ℕ × Refusal)) (d : Option ℕ) (f : ℕ × Refusal) → reach_by x d ≡ reaches.Refused f → x ≡ Some f
first_refused None None f e = cc
first_refused None (Some d) f e = cc
first_refused (Some first) d f e = same first f e where
  same : (a b : ℕ × Refusal) → reaches.Refused a ≡ reaches.Refused b → Some a ≡ Some b
  same a b e = cc

-- ---- one instruction

module _ (image : Image) (vcpu : ℕ) (i : Inst) (len : ℕ) (r : Regs) (memory : ℕ → ℕ) where
  abbrev go : List ℕ → Move
  go answers = perform image vcpu i len r (world memory answers)

  pub acts_quiet : need i (past r len) ≡ needs.Quiet → ActsBy go r memory Done (finish i (past r len) 0) memory
  acts_quiet e = λ answers. quiet image vcpu i len r (world memory answers) e

  pub acts_trap : (trap : Trap) → need i (past r len) ≡ needs.Stops trap → ActsBy go r memory (Halts (trapped trap r)) r memory
  acts_trap trap e = (λ answers. ap (λ n. perform_need image vcpu n i len r (world memory answers)) e, refl, refl)

  pub acts_read : (w : Width) (a : ℕ) → need i (past r len) ≡ needs.Reads w a → reach_of (page_entry image vcpu) r.pkru Read a (width_bytes w) ≡ reaches.Memory
      → ActsBy go r memory Done (finish i (past r len) (word_at memory w a)) memory
  acts_read w a e at =
      let free = memory_free (access_check (page_entry image vcpu) r.pkru Read a (width_bytes w)) (device_at (page_entry image vcpu (page_of a)) a) at in
      λ answers. reads image vcpu i len r (world memory answers) w a None e free.0 free.1

  pub acts_load : (w : Width) (a device : ℕ) → need i (past r len) ≡ needs.Reads w a → reach_of (page_entry image vcpu) r.pkru Read a (width_bytes w) ≡ reaches.Device device
      → ActsBy go r memory (Operation i len (operation device a false 0)) r memory
  acts_load w a device e at =
      let free = device_free (access_check (page_entry image vcpu) r.pkru Read a (width_bytes w)) (device_at (page_entry image vcpu (page_of a)) a) device at in
      (record { stores = λ write. cc; loads = λ write answer rest. reads image vcpu i len r (world memory (answer ∷ rest)) w a (Some device) e free.0 free.1 }, refl, refl)

  pub acts_unread : (w : Width) (a : ℕ) (first : ℕ × Refusal) → need i (past r len) ≡ needs.Reads w a → reach_of (page_entry image vcpu) r.pkru Read a (width_bytes w) ≡ reaches.Refused first
      → ActsBy go r memory (Halts (refused image vcpu r.pkru Read first)) r memory
  acts_unread w a first e at =
      let not = first_refused (access_check (page_entry image vcpu) r.pkru Read a (width_bytes w)) (device_at (page_entry image vcpu (page_of a)) a) first at in (
        λ answers.
            ap (λ n. perform_need image vcpu n i len r (world memory answers)) e
            ∙ ap (λ x. checked image vcpu r.pkru Read x (read i len r (world memory answers) w a (device_at (page_entry image vcpu (page_of a)) a))) not,
        refl,
        refl,
      )

  pub acts_store : (w : Width) (a v : ℕ) (new : ℕ → ℕ) → need i (past r len) ≡ needs.Writes w a v → reach_of (page_entry image vcpu) r.pkru Write a (width_bytes w) ≡ reaches.Memory → new ≡ stored memory w a v
      → ActsBy go r memory Done (finish i (past r len) 0) new
  acts_store w a v new e at is =
      let free = memory_free (access_check (page_entry image vcpu) r.pkru Write a (width_bytes w)) (device_at (page_entry image vcpu (page_of a)) a) at in
      λ answers. writes image vcpu i len r (world memory answers) w a v None e free.0 free.1 ∙ ap (λ m. Goes [] (finish i (past r len) 0, world m answers)) (sym is)

  pub acts_put : (w : Width) (a v device : ℕ) → need i (past r len) ≡ needs.Writes w a v → reach_of (page_entry image vcpu) r.pkru Write a (width_bytes w) ≡ reaches.Device device
      → ActsBy go r memory (Operation i len (operation device a true v)) r memory
  acts_put w a v device e at =
      let free = device_free (access_check (page_entry image vcpu) r.pkru Write a (width_bytes w)) (device_at (page_entry image vcpu (page_of a)) a) device at in
      (record { stores = λ write answers. writes image vcpu i len r (world memory answers) w a v (Some device) e free.0 free.1; loads = λ write. cc }, refl, refl)

  pub acts_unwritten : (w : Width) (a v : ℕ) (first : ℕ × Refusal) → need i (past r len) ≡ needs.Writes w a v → reach_of (page_entry image vcpu) r.pkru Write a (width_bytes w) ≡ reaches.Refused first
      → ActsBy go r memory (Halts (refused image vcpu r.pkru Write first)) r memory
  acts_unwritten w a v first e at =
      let not = first_refused (access_check (page_entry image vcpu) r.pkru Write a (width_bytes w)) (device_at (page_entry image vcpu (page_of a)) a) first at in (
        λ answers.
            ap (λ n. perform_need image vcpu n i len r (world memory answers)) e
            ∙ ap (λ x. checked image vcpu r.pkru Write x (write i len r (world memory answers) w a v (device_at (page_entry image vcpu (page_of a)) a))) not,
        refl,
        refl,
      )

-- ---- the instruction at RIP

same_go : (go other : List ℕ → Move) (r : Regs) (memory : ℕ → ℕ) (act : Act) (after : Regs) (new : ℕ → ℕ) → ((answers : List ℕ) → go answers ≡ other answers) → ActsBy other r memory act after new → ActsBy go r memory act after new
same_go go other r memory Done after new same h = λ answers. same answers ∙ h answers
same_go go other r memory (Operation i len op) after new same h =
    (record { stores = λ write answers. same answers ∙ h.0.stores write answers; loads = λ write answer rest. same (answer ∷ rest) ∙ h.0.loads write answer rest }, h.1, h.2)
same_go go other r memory (Halts stop) after new same h = (λ answers. same answers ∙ h.0 answers, h.1, h.2)

module _ (image : Image) (vcpu : ℕ) (r : Regs) (memory : ℕ → ℕ) where
  abbrev moves : List ℕ → Move
  moves answers = move image vcpu r (world memory answers)

  moves_by : (found : Fetched) → fetched (page_entry image vcpu) r.pkru memory r.rip 15 [] ≡ found → (answers : List ℕ) → moves answers ≡ move_by image vcpu found r (world memory answers)
  moves_by found e answers = move_is image vcpu r (world memory answers) ∙ ap (λ f. move_by image vcpu f r (world memory answers)) e

  pub acts_found : (i : Inst) (len : ℕ) (act : Act) (after : Regs) (new : ℕ → ℕ) → fetched (page_entry image vcpu) r.pkru memory r.rip 15 [] ≡ Found i len
      → ActsBy (λ answers. perform image vcpu i len r (world memory answers)) r memory act after new → ActsBy moves r memory act after new
  acts_found i len act after new e h = same_go moves (λ answers. perform image vcpu i len r (world memory answers)) r memory act after new (moves_by (Found i len) e) h

  pub acts_unfetched : (first : ℕ × Refusal) → fetched (page_entry image vcpu) r.pkru memory r.rip 15 [] ≡ RefusedAt first → ActsBy moves r memory (Halts (refused image vcpu r.pkru Fetch first)) r memory
  acts_unfetched first e = (moves_by (RefusedAt first) e, refl, refl)

  pub acts_unspelled : fetched (page_entry image vcpu) r.pkru memory r.rip 15 [] ≡ Unspelled → ActsBy moves r memory (Halts Invalid) r memory
  acts_unspelled e = (moves_by Unspelled e, refl, refl)
