-- Pieces one after the other, turn by turn.
use Rattle.std.proofs.Common.{◌≡◌, ℕ, suc, ◌+◌, ◌≤◌, ◌<◌, inr, Bool, true, false, List, [], ◌∷◌, length, Option, None, Some, refl, subst, arith, inl}
use Rattle.fx_outcomes.specs.Runs.{Next, Goes, Stops}
use Rattle.fx_outcomes.specs.Many.{then_next}
use Rattle.fx_outcomes.proofs.Several as several
use Rattle.fx_base.specs.declared.device_op.DeviceOp.{DeviceOp}
use Rattle.fx_x64_forms.specs.Numbers.{width_bytes}
use Rattle.fx_x64_forms.specs.declared.operand.Width.{Width}
use Rattle.fx_x64_forms.specs.declared.inst.Inst.{Inst}
use Rattle.fx_x64_forms.specs.declared.inst.Inst.TheVariants as inst
use Rattle.fx_x64_forms.specs.declared.piece.Piece.{Piece}
use Rattle.fx_vm_pages.specs.Access.{access_check, page_of, is_locked}
use Rattle.fx_vm_pages.specs.declared.entry.Pkru.{Pkru}
use Rattle.fx_vm_pages.specs.declared.access.Access.TheVariants.{Read, Write}
use Rattle.fx_cpu.specs.Memory.{stored, word_at}
use Rattle.fx_cpu.specs.Does.{need, with_quotient, unary_finish, kept, shift_finish}
use Rattle.fx_cpu.specs.Registers.{quotient}
use Rattle.fx_x64_forms.specs.declared.operand.Width.TheVariants.{W8, W16, W32, W64}
use Rattle.fx_x64_forms.specs.declared.operand.Reg.{Reg}
use Rattle.fx_x64_forms.specs.declared.inst.AluOp.{AluOp}
use Rattle.fx_x64_forms.specs.declared.inst.AluOp.TheVariants as alu
use Rattle.fx_x64_forms.specs.declared.inst.ShiftOp.{ShiftOp}
use Rattle.fx_x64_forms.specs.declared.inst.UnaryOp.{UnaryOp}
use Rattle.fx_x64_forms.specs.declared.inst.UnaryOp.TheVariants as unary
use Rattle.fx_word_ops.specs.declared.flags.Flags.{Flags}
use Rattle.fx_cpu.specs.declared.registers.Regs.{Regs}
use Rattle.fx_cpu.specs.declared.need.Need.{Need}
use Rattle.fx_cpu.specs.declared.need.Need.TheVariants as needs
use Rattle.fx_image.specs.declared.forms.Image.{Image}
use Rattle.fx_machine_model.specs.Layout.{page_entry, is_ept, owner_of, private_key}
use Rattle.fx_machine_model.specs.Moves.{World, move, device_at}
use Rattle.fx_machine_model.specs.declared.stop.Stop.{Stop}
use Rattle.fx_machine_model.specs.Standing.{Fits}
use Rattle.fx_machine_model.proofs.Regions.{register_address}
use Rattle.fx_machine_model.specs.Standing.{HoldsCode}
use Rattle.fx_machine_model.proofs.Standing.{stored_keeps}
use Rattle.fx_pieces.specs.Running.{Places, Rights, Runs, Does_by, Follows, done, behind, is_straight}
use Rattle.fx_pieces_law.specs.Linked.{Placed, Stand}
use Rattle.fx_pieces_law.proofs.Turning.{quiet_turn, read_turn, write_turn, tell_turn, ask_turn}

-- the accesses of one vCPU that nothing refuses and no device takes; a write calls no other vCPU
pub record IsFree (image : Image) (vcpu : ℕ) (may : Rights) (Calm : World → Type 0) : Type 0 where
  pub read : (p : Pkru) (a : ℕ) (width : Width) → may.read p a width → (access_check (page_entry image vcpu) p Read a (width_bytes width) ≡ None) × (device_at (page_entry image vcpu (page_of a)) a ≡ None)
  pub write : (p : Pkru) (a : ℕ) (width : Width) → may.write p a width → (access_check (page_entry image vcpu) p Write a (width_bytes width) ≡ None) × (device_at (page_entry image vcpu (page_of a)) a ≡ None)
  pub calm : (p : Pkru) (a : ℕ) (width : Width) (v : ℕ) (w : World) → may.write p a width → Calm w → Calm (record w { memory = stored w.memory width a v })

-- ---- RIP behind a straight instruction
quotient_rip : (x : Option (ℕ × ℕ)) (r : Regs) → (with_quotient x r).rip ≡ r.rip
quotient_rip None r = refl
quotient_rip (Some x) r = refl

unary_rip : (op : UnaryOp) (w : Width) (q : Reg) (r : Regs) → (unary_finish op w q r).rip ≡ r.rip
unary_rip unary.Not w q r = refl
unary_rip unary.Neg w q r = refl
unary_rip unary.Div w q r = quotient_rip (quotient false w q r) r
unary_rip unary.Idiv w q r = quotient_rip (quotient true w q r) r

kept_rip : (op : AluOp) (r : Regs) (dst : Reg) (x : ℕ × Flags) → (kept op r dst x).rip ≡ r.rip
kept_rip alu.Add r dst x = refl
kept_rip alu.Sub r dst x = refl
kept_rip alu.And r dst x = refl
kept_rip alu.Or r dst x = refl
kept_rip alu.Xor r dst x = refl
kept_rip alu.Cmp r dst x = refl
kept_rip alu.Test r dst x = refl

shift_rip : (op : ShiftOp) (w : Width) (dst : Reg) (r : Regs) → (shift_finish op w dst r).rip ≡ r.rip
shift_rip op W64 dst r = refl
shift_rip op W32 dst r = refl
shift_rip op W16 dst r = refl
shift_rip op W8 dst r = refl

module _ (next to : ℕ) (r : Regs) (v : ℕ) where
  pub straight_rip : (i : Inst) → is_straight i ≡ true → (done i next to r v).rip ≡ next
  straight_rip (inst.Jcc c rel) e = cc
  straight_rip (inst.Jmp rel) e = cc
  straight_rip (inst.Call rel) e = cc
  straight_rip inst.Ret e = cc
  straight_rip inst.Hlt e = cc
  straight_rip (inst.Alu op w dst src) e = kept_rip op (behind next r) dst _
  straight_rip (inst.AluImm op w dst imm) e = kept_rip op (behind next r) dst _
  straight_rip (inst.Shift op w dst) e = shift_rip op w dst (behind next r)
  straight_rip (inst.Unary op w q) e = unary_rip op w q (behind next r)
  straight_rip _ e = refl

opened : (straight : Bool) (rip next : ℕ) (A : Type 0) → (straight ≡ true → rip ≡ next) → Follows straight rip next A → (rip ≡ next) × A
opened true rip next A e h = (e refl, h)
opened false rip next A e h = h

none_made : {S E : Type 0} (a : Next DeviceOp S E) → a ≡ then_next [] a
none_made (Goes o s) = refl
none_made (Stops o e) = refl

module _ (image : Image) (c : ℕ) (at : Places) (may : Rights) (f : Fits image)
    (S E : Type 0) (Undefined : E → Type 0) (Same : E → Stop → Type 0) (step : S → Next DeviceOp S E) (extra : S → ℕ) (v : ℕ) (InLoop : ℕ → Regs → Type 0) (Uncalled : ℕ → World → Type 0) (At : ℕ → S → Regs → World → Type 0) where
  abbrev pub Alone : World → Type 0
  Alone w = several.Alone DeviceOp S E Regs World Stop Undefined Same step extra (move image) v InLoop Uncalled At c w

  abbrev pub Part : (ℕ → ℕ → Next DeviceOp S E → Regs → World → Type 0) → ℕ → Next DeviceOp S E → Regs → World → Type 0
  Part Rest i a r w = several.Part DeviceOp S E Regs World Stop Undefined Same step extra (move image) v InLoop Uncalled At Rest i c a r w

  module _ (free : IsFree image c may Alone) (Rest : ℕ → ℕ → Next DeviceOp S E → Regs → World → Type 0) (a : Next DeviceOp S E) where
    -- what goes on from registers and a world to which pieces have led
    abbrev pub Goes_on : ℕ → List ℕ → (Regs → (ℕ → ℕ) → Type 0) → Type 0
    Goes_on i answers Then = (q : Regs) (m : ℕ → ℕ) → HoldsCode image m → Alone (record { memory = m; answers = answers }) → Then q m → Part Rest i a q (record { memory = m; answers = answers })

    one : (p : Piece) (n i : ℕ) (r : Regs) (m : ℕ → ℕ) (answers : List ℕ) (Then : Regs → (ℕ → ℕ) → Type 0) → Placed image c at n p → r.rip ≡ at.place n → HoldsCode image m → Alone (record { memory = m; answers = answers })
        → (asked : Need) → need p.inst (behind (at.place (n + 1)) r) ≡ asked → Does_by may asked p.inst (at.place (n + 1)) (at.target p.target) r m Then
        → Goes_on i answers (λ q x. (is_straight p.inst ≡ true → q.rip ≡ at.place (n + 1)) × Then q x) → Part Rest (suc i) a r (record { memory = m; answers = answers })
    one p n i r m answers Then placed here holds alone needs.Quiet e does go =
        let next = at.place (n + 1) in
        let to = at.target p.target in
        inl (
          [],
          done p.inst next to r 0,
          record { memory = m; answers = answers },
          a,
          quiet_turn image c at f n p r (record { memory = m; answers = answers }) placed here holds e,
          none_made a,
          alone,
          go (done p.inst next to r 0) m holds alone (straight_rip next to r 0 p.inst, does),
        )
    one p n i r m answers Then placed here holds alone (needs.Reads width at_address) e does go =
        let next = at.place (n + 1) in
        let to = at.target p.target in
        let x = word_at m width at_address in
        let h = free.read r.pkru at_address width does.0 in
        inl (
          [],
          done p.inst next to r x,
          record { memory = m; answers = answers },
          a,
          read_turn image c at f n p r (record { memory = m; answers = answers }) placed here holds width at_address e h.0 h.1,
          none_made a,
          alone,
          go (done p.inst next to r x) m holds alone (straight_rip next to r x p.inst, does.1),
        )
    one p n i r m answers Then placed here holds alone (needs.Writes width at_address value) e does go =
        let next = at.place (n + 1) in
        let to = at.target p.target in
        let x = stored m width at_address value in
        let h = free.write r.pkru at_address width does.0 in
        let holds2 = stored_keeps image c r.pkru m width at_address value f holds h.0 in
        let alone2 = free.calm r.pkru at_address width value (record { memory = m; answers = answers }) does.0 alone in
        inl (
          [],
          done p.inst next to r 0,
          record { memory = x; answers = answers },
          a,
          write_turn image c at f n p r (record { memory = m; answers = answers }) placed here holds width at_address value e h.0 h.1,
          none_made a,
          alone2,
          go (done p.inst next to r 0) x holds2 alone2 (straight_rip next to r 0 p.inst, does.1),
        )
    one p n i r m answers Then placed here holds alone (needs.Stops trap) e does go = absurd does

    -- Pieces that run lead on.
    pub leads : (ps : List Piece) (n i k : ℕ) (r : Regs) (m : ℕ → ℕ) (answers : List ℕ) (Then : Regs → (ℕ → ℕ) → Type 0) → k ≡ length ps + i → Stand image c at n ps → r.rip ≡ at.place n
        → HoldsCode image m → Alone (record { memory = m; answers = answers }) → Runs may at ps n r m Then → Goes_on i answers Then → Part Rest k a r (record { memory = m; answers = answers })
    leads [] n i k r m answers Then e stand here holds alone runs go =
        let e0 : i ≡ k = omega (arith, e) in
        subst (λ j. Part Rest j a r (record { memory = m; answers = answers })) e0 (go r m holds alone runs)
    leads (p ∷ []) n i k r m answers Then e stand here holds alone runs go =
        let e1 : suc i ≡ k = omega (arith, e) in
        subst (λ j. Part Rest j a r (record { memory = m; answers = answers })) e1
        (one p n i r m answers Then stand.0 here holds alone (need p.inst (behind (at.place (n + 1)) r)) refl runs (λ q x h2 a2 t. go q x h2 a2 t.1))
    leads (p ∷ p2 ∷ ps) n i k r m answers Then e stand here holds alone runs go =
        let e2 : suc (length (p2 ∷ ps) + i) ≡ k = omega (arith, e) in
        subst (λ j. Part Rest j a r (record { memory = m; answers = answers })) e2
        (one p n (length (p2 ∷ ps) + i) r m answers _ stand.0 here holds alone (need p.inst (behind (at.place (n + 1)) r)) refl runs
        (λ q x h2 a2 t.
        let (there, more) = opened (is_straight p.inst) q.rip (at.place (n + 1)) _ t.0 t.1 in
        leads (p2 ∷ ps) (n + 1) i (length (p2 ∷ ps) + i) q x answers Then refl stand.1 there h2 a2 more go))

  -- A piece that stores to a device's register makes the operation of the source's step.
  pub tells : (Rest : ℕ → ℕ → Next DeviceOp S E → Regs → World → Type 0) (rest : Next DeviceOp S E) (p : Piece) (n i : ℕ) (r : Regs) (w : World) (device register value : ℕ) (single : is_ept image ≡ false) → Placed image c at n p → r.rip ≡ at.place n → HoldsCode image w.memory → Alone w
      → need p.inst (behind (at.place (n + 1)) r) ≡ needs.Writes W64 (register_address device register) value → device < 16 → register < 512 → is_locked r.pkru (private_key image (owner_of image device)) Write ≡ false
      → Part Rest i rest (done p.inst (at.place (n + 1)) (at.target p.target) r 0) w → Part Rest (suc i) (then_next (record { device = device; reg = register; write = true; value = value } ∷ []) rest) r w
  tells Rest rest p n i r w device register value single placed here holds alone e small few free go =
      let op : DeviceOp = record { device = device; reg = register; write = true; value = value } in
      inl (op ∷ [], done p.inst (at.place (n + 1)) (at.target p.target) r 0, w, rest, tell_turn image c at f n p r w placed here holds single device register value e small few free, refl, alone, go)

  -- A piece that loads a device's register makes the operation too, and takes the next answer.
  pub asks : (Rest : ℕ → ℕ → Next DeviceOp S E → Regs → World → Type 0) (rest : Next DeviceOp S E) (p : Piece) (n i : ℕ) (r : Regs) (w : World) (device register answer : ℕ) (answers : List ℕ) (single : is_ept image ≡ false) → Placed image c at n p → r.rip ≡ at.place n → HoldsCode image w.memory
      → need p.inst (behind (at.place (n + 1)) r) ≡ needs.Reads W64 (register_address device register) → device < 16 → register < 512 → is_locked r.pkru (private_key image (owner_of image device)) Read ≡ false → w.answers ≡ answer ∷ answers
      → Alone (record w { answers = answers }) → Part Rest i rest (done p.inst (at.place (n + 1)) (at.target p.target) r answer) (record w { answers = answers })
      → Part Rest (suc i) (then_next (record { device = device; reg = register; write = false; value = answer } ∷ []) rest) r w
  asks Rest rest p n i r w device register answer answers single placed here holds e small few free first alone go =
      let op : DeviceOp = record { device = device; reg = register; write = false; value = answer } in
      inl (op ∷ [], done p.inst (at.place (n + 1)) (at.target p.target) r answer, record w { answers = answers }, rest, ask_turn image c at f n p r w placed here holds single device register answer answers e small few free first, refl, alone, go)

  -- A piece that stops ends as the source's step does.
  pub ends : (Rest : ℕ → ℕ → Next DeviceOp S E → Regs → World → Type 0) (i : ℕ) (r : Regs) (w : World) (e : E) (t : Stop) → move image c r w ≡ Stops [] t → Same e t → Part Rest (suc i) (Stops [] e) r w
  ends Rest i r w e t go same = inr (inl ([], e, t, go, refl, same))

  -- A piece that writes a mark passes on to vCPU d, wherever in its loop that is.
  pub passes : (Rest : ℕ → ℕ → Next DeviceOp S E → Regs → World → Type 0) (a : Next DeviceOp S E) (p : Piece) (n i : ℕ) (r : Regs) (m : ℕ → ℕ) (answers : List ℕ) (width : Width) (address value d : ℕ) → Placed image c at n p → r.rip ≡ at.place n → HoldsCode image m
      → need p.inst (behind (at.place (n + 1)) r) ≡ needs.Writes width address value
      → access_check (page_entry image c) r.pkru Write address (width_bytes width) ≡ None → device_at (page_entry image c (page_of address)) address ≡ None
      → d < v → (d ≡ c → ⊥) → InLoop c (done p.inst (at.place (n + 1)) (at.target p.target) r 0)
      → several.Alone DeviceOp S E Regs World Stop Undefined Same step extra (move image) v InLoop Uncalled At d (record { memory = stored m width address value; answers = answers })
      → ((q : Regs) → InLoop d q → (j : ℕ) × (j ≤ i) × Rest j d a q (record { memory = stored m width address value; answers = answers }))
      → Part Rest (suc i) a r (record { memory = m; answers = answers })
  passes Rest a p n i r m answers width address value d placed here holds e free plain lt ne loop alone go =
      inr (inr (
        [],
        done p.inst (at.place (n + 1)) (at.target p.target) r 0,
        record { memory = stored m width address value; answers = answers },
        a,
        d,
        lt,
        ne,
        write_turn image c at f n p r (record { memory = m; answers = answers }) placed here holds width address value e free plain,
        none_made a,
        loop,
        alone,
        go,
      ))
