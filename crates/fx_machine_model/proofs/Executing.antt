-- What one turn of an instruction that stands at RIP does, where there is one address space.
use Rattle.std.proofs.Common.{◌≡◌, ◌≢◌, ℕ, ◌+◌, ◌/◌, ◌%◌, ◌^◌, ◌<◌, ◌≤◌, true, false, List, [], ◌∷◌, Option, None, Some, ap, ◌∙◌, arith}
use Rattle.fx_outcomes.specs.Runs.{Goes}
use Rattle.fx_base.specs.declared.device_op.DeviceOp.{DeviceOp}
use Rattle.fx_x64_forms.specs.Numbers.{width_bytes}
use Rattle.fx_x64_forms.specs.declared.operand.Width.{Width}
use Rattle.fx_x64_forms.specs.declared.operand.Width.TheVariants.{W8, W16, W32, W64}
use Rattle.fx_x64_forms.specs.declared.inst.Inst.{Inst}
use Rattle.fx_vm_pages.specs.Access.{access_check, page_of, is_locked}
use Rattle.fx_vm_pages.specs.declared.access.Access.TheVariants.{Read, Write, Fetch}
use Rattle.fx_cpu.specs.Registers.{past}
use Rattle.fx_cpu.specs.Memory.{stored, word_at}
use Rattle.fx_cpu.specs.Does.{need, finish}
use Rattle.fx_cpu.specs.declared.registers.Regs.{Regs}
use Rattle.fx_cpu.specs.declared.need.Need.TheVariants as needs
use Rattle.fx_image.specs.Layout.{stack_low, stack_bytes, stack_count}
use Rattle.fx_image.specs.declared.forms.Image.{Image}
use Rattle.fx_machine_model.specs.Layout.{page_entry, is_ept, owner_of, private_key}
use Rattle.fx_machine_model.specs.Moves.{World, perform, perform_need, checked, read, read_device, write, device_at}
use Rattle.fx_machine_model.specs.Standing.{Fits}
use Rattle.fx_machine_model.proofs.Regions.{register_address, device_register, use_register, low_key, device_stack, use_stack}

some_width : (width : Width) → width_bytes width ≢ 0
some_width W8 = λ e. cc
some_width W16 = λ e. cc
some_width W32 = λ e. cc
some_width W64 = λ e. cc

one_at_least : (width : Width) → 1 ≤ width_bytes width
one_at_least width = let e = some_width width in omega arith

module _ (image : Image) (vcpu : ℕ) (i : Inst) (len : ℕ) (r : Regs) (w : World) where
  -- an instruction that asks nothing of memory
  pub quiet : need i (past r len) ≡ needs.Quiet → perform image vcpu i len r w ≡ Goes [] (finish i (past r len) 0, w)
  quiet e = ap (λ n. perform_need image vcpu n i len r w) e

  -- one that stores to memory, and one that stores to a device
  pub writes : (width : Width) (a v : ℕ) (device : Option ℕ) → need i (past r len) ≡ needs.Writes width a v
      → access_check (page_entry image vcpu) r.pkru Write a (width_bytes width) ≡ None → device_at (page_entry image vcpu (page_of a)) a ≡ device
      → perform image vcpu i len r w ≡ write i len r w width a v device
  writes width a v device e free at =
      ap (λ n. perform_need image vcpu n i len r w) e
      ∙ ap (λ x. checked image vcpu r.pkru Write x (write i len r w width a v (device_at (page_entry image vcpu (page_of a)) a))) free
      ∙ ap (write i len r w width a v) at

  pub reads : (width : Width) (a : ℕ) (device : Option ℕ) → need i (past r len) ≡ needs.Reads width a
      → access_check (page_entry image vcpu) r.pkru Read a (width_bytes width) ≡ None → device_at (page_entry image vcpu (page_of a)) a ≡ device
      → perform image vcpu i len r w ≡ read i len r w width a device
  reads width a device e free at =
      ap (λ n. perform_need image vcpu n i len r w) e
      ∙ ap (λ x. checked image vcpu r.pkru Read x (read i len r w width a (device_at (page_entry image vcpu (page_of a)) a))) free
      ∙ ap (read i len r w width a) at

  module _ (f : Fits image) (single : is_ept image ≡ false) where
    -- a store to the low half of stack k, as a push or a call makes it
    pub writes_stack : (k : ℕ) (width : Width) (a v : ℕ) → need i (past r len) ≡ needs.Writes width a v
        → k < stack_count image → stack_low image k ≤ a → a + width_bytes width ≤ stack_low image k + stack_bytes image → stack_low image k + stack_bytes image ≤ 2 ^ 64 → is_locked r.pkru (low_key image k) Write ≡ false
        → perform image vcpu i len r w ≡ Goes [] (finish i (past r len) 0, record w { memory = stored w.memory width a v })
    writes_stack k width a v e small from to top free =
        let some : width_bytes width ≢ 0 = some_width width in
        let n = one_at_least width in
        let kind : Write ≢ Fetch = λ x. cc in
        writes width a v None e (use_stack image vcpu k a (width_bytes width) r.pkru Write f single small from to top some kind free) (device_stack image vcpu k a f single small from (omega arith))

    -- a load from there, as a pop or a return makes it
    pub reads_stack : (k : ℕ) (width : Width) (a : ℕ) → need i (past r len) ≡ needs.Reads width a
        → k < stack_count image → stack_low image k ≤ a → a + width_bytes width ≤ stack_low image k + stack_bytes image → stack_low image k + stack_bytes image ≤ 2 ^ 64 → is_locked r.pkru (low_key image k) Read ≡ false
        → perform image vcpu i len r w ≡ Goes [] (finish i (past r len) (word_at w.memory width a), w)
    reads_stack k width a e small from to top free =
        let some : width_bytes width ≢ 0 = some_width width in
        let n = one_at_least width in
        let kind : Read ≢ Fetch = λ x. cc in
        reads width a None e (use_stack image vcpu k a (width_bytes width) r.pkru Read f single small from to top some kind free) (device_stack image vcpu k a f single small from (omega arith))

    -- a store to a device's register is one operation
    pub writes_register : (device register v : ℕ) → need i (past r len) ≡ needs.Writes W64 (register_address device register) v
        → device < 16 → register < 512 → is_locked r.pkru (private_key image (owner_of image device)) Write ≡ false
        → perform image vcpu i len r w ≡ Goes (record { device = device; reg = register; write = true; value = v } ∷ []) (finish i (past r len) 0, w)
    writes_register device register v e small few free =
        let kind : Write ≢ Fetch = λ x. cc in
        let reg : register_address device register % 4096 / 8 ≡ register = omega arith in
        writes W64 (register_address device register) v (Some device) e (use_register image vcpu device register r.pkru Write f single small few kind free) (device_register image vcpu device register f single small few)
        ∙ ap (λ n. let op : DeviceOp = record { device = device; reg = n; write = true; value = v } in Goes (op ∷ []) (finish i (past r len) 0, w)) reg

    -- a load of a device's register takes the next answer
    pub asks_register : (device register answer : ℕ) (rest : List ℕ) → need i (past r len) ≡ needs.Reads W64 (register_address device register)
        → device < 16 → register < 512 → is_locked r.pkru (private_key image (owner_of image device)) Read ≡ false → w.answers ≡ answer ∷ rest
        → perform image vcpu i len r w ≡ Goes (record { device = device; reg = register; write = false; value = answer } ∷ []) (finish i (past r len) answer, record w { answers = rest })
    asks_register device register answer rest e small few free next =
        let kind : Read ≢ Fetch = λ x. cc in
        let reg : register_address device register % 4096 / 8 ≡ register = omega arith in
        reads W64 (register_address device register) (Some device) e (use_register image vcpu device register r.pkru Read f single small few kind free) (device_register image vcpu device register f single small few)
        ∙ ap (read_device i len r w device (register_address device register)) next
        ∙ ap (λ n. let op : DeviceOp = record { device = device; reg = n; write = false; value = answer } in Goes (op ∷ []) (finish i (past r len) answer, record w { answers = rest })) reg

    -- where no answer is left it changes nothing
    pub waits_register : (device register : ℕ) → need i (past r len) ≡ needs.Reads W64 (register_address device register)
        → device < 16 → register < 512 → is_locked r.pkru (private_key image (owner_of image device)) Read ≡ false → w.answers ≡ []
        → perform image vcpu i len r w ≡ Goes [] (r, w)
    waits_register device register e small few free none =
        let kind : Read ≢ Fetch = λ x. cc in
        reads W64 (register_address device register) (Some device) e (use_register image vcpu device register r.pkru Read f single small few kind free) (device_register image vcpu device register f single small few)
        ∙ ap (read_device i len r w device (register_address device register)) none
