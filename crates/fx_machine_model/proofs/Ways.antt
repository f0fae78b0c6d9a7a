-- The ways in which a turn goes on.
use Rattle.std.proofs.Common.{◌≡◌, ℕ, true, false, List, [], ◌∷◌, Option, None, Some, refl, sym, ◌∙◌, subst}
use Rattle.fx_outcomes.specs.Runs.{Goes}
use Rattle.fx_base.specs.declared.device_op.DeviceOp.{DeviceOp}
use Rattle.fx_x64_forms.specs.Numbers.{width_bytes}
use Rattle.fx_x64_forms.specs.declared.operand.Width.{Width}
use Rattle.fx_x64_forms.specs.declared.inst.Inst.{Inst}
use Rattle.fx_vm_pages.specs.Access.{access_check, page_of}
use Rattle.fx_vm_pages.specs.declared.entry.Pkru.{Pkru}
use Rattle.fx_vm_pages.specs.declared.access.Access.{Access}
use Rattle.fx_vm_pages.specs.declared.access.Access.TheVariants.{Read, Write}
use Rattle.fx_vm_pages.specs.declared.access.Refusal.{Refusal}
use Rattle.fx_cpu.specs.Registers.{past}
use Rattle.fx_cpu.specs.Memory.{stored, word_at}
use Rattle.fx_cpu.specs.Does.{need, finish}
use Rattle.fx_cpu.specs.declared.registers.Regs.{Regs}
use Rattle.fx_cpu.specs.declared.need.Need.{Need}
use Rattle.fx_cpu.specs.declared.need.Need.TheVariants as needs
use Rattle.fx_image.specs.declared.forms.Image.{Image}
use Rattle.fx_machine_model.specs.Layout.{page_entry}
use Rattle.fx_machine_model.specs.Moves.{World, Move, move, move_by, perform_need, operation, checked, read, read_device, write, device_at}
use Rattle.fx_machine_model.specs.declared.fetched.Fetched.{Fetched}
use Rattle.fx_machine_model.specs.declared.fetched.Fetched.TheVariants.{Found, RefusedAt, Unspelled}
use Rattle.fx_machine_model.proofs.Fetching.{move_is}
use Rattle.fx_machine_model.specs.Touches.{found_at}

abbrev pub Made : Type 1
Made = List DeviceOp → Regs → World → Type 0

-- What holds of each way in which a turn goes on: nothing is asked of memory; a load of memory; one of
-- a device, with an answer and without one; a store to memory; one to a device.
pub record Ways (image : Image) (vcpu : ℕ) (r : Regs) (w : World) (P : Made) : Type 0 where
  pub quiet : (i : Inst) (len : ℕ) → found_at image vcpu r w ≡ Found i len → need i (past r len) ≡ needs.Quiet → P [] (finish i (past r len) 0) w
  pub loads : (i : Inst) (len : ℕ) → found_at image vcpu r w ≡ Found i len → (width : Width) (a : ℕ) → need i (past r len) ≡ needs.Reads width a
      → access_check (page_entry image vcpu) r.pkru Read a (width_bytes width) ≡ None → device_at (page_entry image vcpu (page_of a)) a ≡ None → P [] (finish i (past r len) (word_at w.memory width a)) w
  pub asks : (i : Inst) (len : ℕ) → found_at image vcpu r w ≡ Found i len → (width : Width) (a : ℕ) → need i (past r len) ≡ needs.Reads width a
      → access_check (page_entry image vcpu) r.pkru Read a (width_bytes width) ≡ None → (device : ℕ) → device_at (page_entry image vcpu (page_of a)) a ≡ Some device → (answer : ℕ) (rest : List ℕ) → w.answers ≡ answer ∷ rest
      → P (operation device a false answer ∷ []) (finish i (past r len) answer) (record w { answers = rest })
  pub waits : (i : Inst) (len : ℕ) → found_at image vcpu r w ≡ Found i len → (width : Width) (a : ℕ) → need i (past r len) ≡ needs.Reads width a
      → access_check (page_entry image vcpu) r.pkru Read a (width_bytes width) ≡ None → (device : ℕ) → device_at (page_entry image vcpu (page_of a)) a ≡ Some device → P [] r w
  pub stores : (i : Inst) (len : ℕ) → found_at image vcpu r w ≡ Found i len → (width : Width) (a v : ℕ) → need i (past r len) ≡ needs.Writes width a v
      → access_check (page_entry image vcpu) r.pkru Write a (width_bytes width) ≡ None → device_at (page_entry image vcpu (page_of a)) a ≡ None → P [] (finish i (past r len) 0) (record w { memory = stored w.memory width a v })
  pub tells : (i : Inst) (len : ℕ) → found_at image vcpu r w ≡ Found i len → (width : Width) (a v : ℕ) → need i (past r len) ≡ needs.Writes width a v
      → access_check (page_entry image vcpu) r.pkru Write a (width_bytes width) ≡ None → (device : ℕ) → device_at (page_entry image vcpu (page_of a)) a ≡ Some device → P (operation device a true v ∷ []) (finish i (past r len) 0) w

module _ (image : Image) (vcpu : ℕ) (r : Regs) (w : World) (P : Made) (ways : Ways image vcpu r w P) where
  abbrev Holds : Move → Type 0
  Holds go = (o : List DeviceOp) (q : Regs) (y : World) → go ≡ Goes o (q, y) → P o q y

  exactly : (u : List DeviceOp) (p : Regs) (x : World) → P u p x → Holds (Goes u (p, x))
  exactly u p x h o q y e =
      let s : ◌≡◌ {A = Regs × World} (p, x) (q, y) = cc in
      let t : u ≡ o = cc in
      subst (λ (z : Regs × World). P o z.0 z.1) s (subst (λ z. P z p x) t h)

  when : (pkru : Pkru) (access : Access) (x : Option (ℕ × Refusal)) (go : Move) → (x ≡ None → Holds go) → Holds (checked image vcpu pkru access x go)
  when pkru access None go h o q y e = h refl o q y e
  when pkru access (Some first) go h o q y e = cc

  module _ (i : Inst) (len : ℕ) (found : found_at image vcpu r w ≡ Found i len) where
    by_answers : (width : Width) (a device : ℕ) (answers : List ℕ) → need i (past r len) ≡ needs.Reads width a → access_check (page_entry image vcpu) r.pkru Read a (width_bytes width) ≡ None → device_at (page_entry image vcpu (page_of a)) a ≡ Some device → w.answers ≡ answers → Holds (read_device i len r w device a answers)
    by_answers width a device [] n free at is o q y e = exactly [] r w (ways.waits i len found width a n free device at) o q y e
    by_answers width a device (answer ∷ rest) n free at is o q y e = exactly (operation device a false answer ∷ []) (finish i (past r len) answer) (record w { answers = rest }) (ways.asks i len found width a n free device at answer rest is) o q y e

    by_read : (width : Width) (a : ℕ) (device : Option ℕ) → need i (past r len) ≡ needs.Reads width a → access_check (page_entry image vcpu) r.pkru Read a (width_bytes width) ≡ None → device_at (page_entry image vcpu (page_of a)) a ≡ device → Holds (read i len r w width a device)
    by_read width a None n free at o q y e = exactly [] (finish i (past r len) (word_at w.memory width a)) w (ways.loads i len found width a n free at) o q y e
    by_read width a (Some device) n free at o q y e = by_answers width a device w.answers n free at refl o q y e

    by_write : (width : Width) (a v : ℕ) (device : Option ℕ) → need i (past r len) ≡ needs.Writes width a v → access_check (page_entry image vcpu) r.pkru Write a (width_bytes width) ≡ None → device_at (page_entry image vcpu (page_of a)) a ≡ device → Holds (write i len r w width a v device)
    by_write width a v None n free at o q y e = exactly [] (finish i (past r len) 0) (record w { memory = stored w.memory width a v }) (ways.stores i len found width a v n free at) o q y e
    by_write width a v (Some device) n free at o q y e = exactly (operation device a true v ∷ []) (finish i (past r len) 0) w (ways.tells i len found width a v n free device at) o q y e

    by_need : (asked : Need) → need i (past r len) ≡ asked → Holds (perform_need image vcpu asked i len r w)
    by_need needs.Quiet n o q y e = exactly [] (finish i (past r len) 0) w (ways.quiet i len found n) o q y e
    by_need (needs.Reads width a) n o q y e = when r.pkru Read (access_check (page_entry image vcpu) r.pkru Read a (width_bytes width)) _ (λ free. by_read width a (device_at (page_entry image vcpu (page_of a)) a) n free refl) o q y e
    by_need (needs.Writes width a v) n o q y e = when r.pkru Write (access_check (page_entry image vcpu) r.pkru Write a (width_bytes width)) _ (λ free. by_write width a v (device_at (page_entry image vcpu (page_of a)) a) n free refl) o q y e
    by_need (needs.Stops trap) n o q y e = cc

  by_found : (x : Fetched) → found_at image vcpu r w ≡ x → Holds (move_by image vcpu x r w)
  by_found (Found i len) found o q y e = by_need i len found (need i (past r len)) refl o q y e
  by_found (RefusedAt first) found o q y e = cc
  by_found Unspelled found o q y e = cc

  -- What holds of each way holds of a turn that goes on.
  pub goes : (o : List DeviceOp) (q : Regs) (y : World) → move image vcpu r w ≡ Goes o (q, y) → P o q y
  goes o q y e = by_found (found_at image vcpu r w) refl o q y (sym (move_is image vcpu r w) ∙ e)
