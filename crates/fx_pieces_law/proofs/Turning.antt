-- One piece's turn.
use Rattle.std.proofs.Common.{◌≡◌, ℕ, ◌+◌, ◌-◌, ◌*◌, ◌%◌, ◌^◌, ◌≤◌, ◌<◌, true, false, List, [], ◌∷◌, length, None, Some, refl, ap, sym, ◌∙◌, subst}
use Rattle.fx_outcomes.specs.Runs.{Goes, Stops}
use Rattle.fx_x64_forms.specs.Numbers.{width_bytes}
use Rattle.fx_x64_forms.specs.declared.operand.Width.{Width}
use Rattle.fx_x64_forms.specs.declared.piece.Piece.{Piece}
use Rattle.fx_x64_code.specs.Spelling.{spelling}
use Rattle.fx_vm_pages.specs.Access.{access_check, page_of, is_locked}
use Rattle.fx_vm_pages.specs.declared.access.Access.TheVariants.{Read, Write}
use Rattle.fx_cpu.specs.Registers.{past}
use Rattle.fx_cpu.specs.Memory.{stored, word_at}
use Rattle.fx_cpu.specs.Does.{need, finish}
use Rattle.fx_cpu.specs.declared.registers.Regs.{Regs}
use Rattle.fx_cpu.specs.declared.need.Need.{Need}
use Rattle.fx_cpu.specs.declared.need.Need.TheVariants as needs
use Rattle.fx_image.specs.declared.forms.Image.{Image}
use Rattle.fx_machine_model.specs.Layout.{page_entry, maps_code, is_ept, owner_of, private_key}
use Rattle.fx_machine_model.specs.Moves.{World, Move, move, perform, perform_need, checked, refused, trapped, read, write, device_at}
use Rattle.fx_vm_pages.specs.declared.access.Refusal.{Refusal}
use Rattle.fx_cpu.specs.declared.trap.Trap.{Trap}
use Rattle.fx_machine_model.specs.Standing.{Fits}
use Rattle.fx_machine_model.specs.Standing.{HoldsCode, StandsAt}
use Rattle.fx_machine_model.proofs.Standing.{executes_mapped}
use Rattle.fx_machine_model.proofs.Executing.{quiet, reads, writes, writes_register, asks_register}
use Rattle.fx_machine_model.proofs.Regions.{register_address}
use Rattle.fx_x64_forms.specs.declared.operand.Width.TheVariants.{W64}
use Rattle.fx_pieces.specs.Running.{Places, done, behind}
use Rattle.fx_pieces_law.specs.Linked.{Placed, TurnsBy, PieceTurns}

module _ (image : Image) (vcpu : ℕ) (at : Places) (f : Fits image) (n : ℕ) (p : Piece) (r : Regs) (w : World) (placed : Placed image vcpu at n p) (here : r.rip ≡ at.place n) (holds : HoldsCode image w.memory) where
  abbrev next : ℕ
  next = at.place (n + 1)

  abbrev to : ℕ
  to = at.target p.target

  abbrev len : ℕ
  len = length (spelling placed.inst)

  stands : move image vcpu r w ≡ perform image vcpu placed.inst len r w
  stands =
      executes_mapped image vcpu r w placed.inst f holds placed.row
      (subst (λ a. 0x40_0000 ≤ a) (sym here) placed.from)
      (subst (λ a. StandsAt image.code (a - 0x40_0000) (spelling placed.inst)) (sym here) placed.stands)
      (subst (λ a. (k : ℕ) → k < length (spelling placed.inst) → maps_code image vcpu ((page_of (0x40_0000 + ((a - 0x40_0000) + k)) - 0x400) * 4096) ≡ true) (sym here) placed.maps)

  goes_on : past r len ≡ behind next r
  goes_on = ap (λ a. behind a r) (ap (λ a. (a + len) % 2 ^ 64) here ∙ placed.next)

  asked : need placed.inst (past r len) ≡ need p.inst (behind next r)
  asked = ap (need placed.inst) goes_on ∙ placed.asks r

  after : (v : ℕ) → finish placed.inst (past r len) v ≡ done p.inst next to r v
  after v = ap (λ s. finish placed.inst s v) goes_on ∙ placed.does r v

  pub quiet_turn : need p.inst (behind next r) ≡ needs.Quiet → move image vcpu r w ≡ Goes [] (done p.inst next to r 0, w)
  quiet_turn e = stands ∙ quiet image vcpu placed.inst len r w (asked ∙ e) ∙ ap (λ s. let x : Move = Goes [] (s, w) in x) (after 0)

  pub read_turn : (width : Width) (a : ℕ) → need p.inst (behind next r) ≡ needs.Reads width a
      → access_check (page_entry image vcpu) r.pkru Read a (width_bytes width) ≡ None → device_at (page_entry image vcpu (page_of a)) a ≡ None
      → move image vcpu r w ≡ Goes [] (done p.inst next to r (word_at w.memory width a), w)
  read_turn width a e free plain =
      stands ∙ reads image vcpu placed.inst len r w width a None (asked ∙ e) free plain
      ∙ ap (λ s. let x : Move = Goes [] (s, w) in x) (after (word_at w.memory width a))

  pub write_turn : (width : Width) (a v : ℕ) → need p.inst (behind next r) ≡ needs.Writes width a v
      → access_check (page_entry image vcpu) r.pkru Write a (width_bytes width) ≡ None → device_at (page_entry image vcpu (page_of a)) a ≡ None
      → move image vcpu r w ≡ Goes [] (done p.inst next to r 0, record w { memory = stored w.memory width a v })
  write_turn width a v e free plain =
      stands ∙ writes image vcpu placed.inst len r w width a v None (asked ∙ e) free plain
      ∙ ap (λ s. let x : Move = Goes [] (s, record w { memory = stored w.memory width a v }) in x) (after 0)

  -- a store to a device's register is one operation
  pub tell_turn : (single : is_ept image ≡ false) (device register v : ℕ) → need p.inst (behind next r) ≡ needs.Writes W64 (register_address device register) v → device < 16 → register < 512 → is_locked r.pkru (private_key image (owner_of image device)) Write ≡ false
      → move image vcpu r w ≡ Goes (record { device = device; reg = register; write = true; value = v } ∷ []) (done p.inst next to r 0, w)
  tell_turn single device register v e small few free =
      stands ∙ writes_register image vcpu placed.inst len r w f single device register v (asked ∙ e) small few free
      ∙ ap (λ s. let x : Move = Goes (record { device = device; reg = register; write = true; value = v } ∷ []) (s, w) in x) (after 0)

  -- a load of a device's register is one too, and takes the next answer
  pub ask_turn : (single : is_ept image ≡ false) (device register answer : ℕ) (rest : List ℕ) → need p.inst (behind next r) ≡ needs.Reads W64 (register_address device register) → device < 16 → register < 512 → is_locked r.pkru (private_key image (owner_of image device)) Read ≡ false
      → w.answers ≡ answer ∷ rest → move image vcpu r w ≡ Goes (record { device = device; reg = register; write = false; value = answer } ∷ []) (done p.inst next to r answer, record w { answers = rest })
  ask_turn single device register answer rest e small few free first =
      stands ∙ asks_register image vcpu placed.inst len r w f single device register answer rest (asked ∙ e) small few free first
      ∙ ap (λ s. let x : Move = Goes (record { device = device; reg = register; write = false; value = answer } ∷ []) (s, record w { answers = rest }) in x) (after answer)

  -- a refused access, and an instruction that stops
  pub refused_read_turn : (width : Width) (a : ℕ) (first : ℕ × Refusal) → need p.inst (behind next r) ≡ needs.Reads width a → access_check (page_entry image vcpu) r.pkru Read a (width_bytes width) ≡ Some first → move image vcpu r w ≡ Stops [] (refused image vcpu r.pkru Read first)
  refused_read_turn width a first e denied =
      stands ∙ ap (λ d. perform_need image vcpu d placed.inst len r w) (asked ∙ e)
      ∙ ap (λ x. checked image vcpu r.pkru Read x (read placed.inst len r w width a (device_at (page_entry image vcpu (page_of a)) a))) denied

  pub refused_write_turn : (width : Width) (a v : ℕ) (first : ℕ × Refusal) → need p.inst (behind next r) ≡ needs.Writes width a v → access_check (page_entry image vcpu) r.pkru Write a (width_bytes width) ≡ Some first → move image vcpu r w ≡ Stops [] (refused image vcpu r.pkru Write first)
  refused_write_turn width a v first e denied =
      stands ∙ ap (λ d. perform_need image vcpu d placed.inst len r w) (asked ∙ e)
      ∙ ap (λ x. checked image vcpu r.pkru Write x (write placed.inst len r w width a v (device_at (page_entry image vcpu (page_of a)) a))) denied

  pub stop_turn : (trap : Trap) → need p.inst (behind next r) ≡ needs.Stops trap → move image vcpu r w ≡ Stops [] (trapped trap r)
  stop_turn trap e = stands ∙ ap (λ d. perform_need image vcpu d placed.inst len r w) (asked ∙ e)

-- a piece's turn, by what its instruction asks of memory
pub piece_turns : PieceTurns
piece_turns image vcpu at f n p r w placed here holds = by (need p.inst (behind (at.place (n + 1)) r)) refl
  where
    by : (asked : Need) → need p.inst (behind (at.place (n + 1)) r) ≡ asked → TurnsBy image vcpu at n p r w asked
    by needs.Quiet e = quiet_turn image vcpu at f n p r w placed here holds e
    by (needs.Reads width a) e = λ free plain. read_turn image vcpu at f n p r w placed here holds width a e free plain
    by (needs.Writes width a v) e = λ free plain. write_turn image vcpu at f n p r w placed here holds width a v e free plain
    by (needs.Stops trap) e = stop_turn image vcpu at f n p r w placed here holds trap e
