-- A turn keeps that some compartment's PKRU value is held, or that RIP stands at one of some points with
-- what holds there.
use Rattle.std.proofs.Common.{◌≡◌, ℕ, ◌+◌, ◌-◌, ◌^◌, ◌<◌, ◌≤◌, ◌⊎◌, inl, inr, Bool, true, false, List, [], length, None, refl, sym, ap, ◌∙◌, subst, arith}
use Rattle.std.specs.Prelude.{◌&&◌}
use Rattle.fx_outcomes.specs.Runs.{Goes}
use Rattle.fx_base.specs.declared.device_op.DeviceOp.{DeviceOp}
use Rattle.fx_x64_forms.specs.declared.inst.Inst.{Inst}
use Rattle.fx_x64_forms.specs.declared.inst.Inst.TheVariants.{Wrpkru}
use Rattle.fx_x64_forms.specs.declared.operand.Reg.TheVariants.{Rcx, Rdx}
use Rattle.fx_x64_code.specs.Spelling.{spelling, IsRow}
use Rattle.fx_vm_pages.specs.Access.{access_check}
use Rattle.fx_vm_pages.specs.declared.entry.Pkru.{Pkru}
use Rattle.fx_vm_pages.specs.declared.access.Access.TheVariants.{Fetch}
use Rattle.fx_cpu.specs.Registers.{past}
use Rattle.fx_cpu.specs.Memory.{on}
use Rattle.fx_cpu.specs.Does.{need, finish, key_need, is_low_zero}
use Rattle.fx_cpu.specs.declared.registers.Regs.{Regs}
use Rattle.fx_cpu.specs.declared.need.Need.{Need}
use Rattle.fx_cpu.specs.declared.need.Need.TheVariants as needs
use Rattle.fx_cpu.specs.declared.trap.Trap.{Trap}
use Rattle.fx_image.specs.Layout.{code_start}
use Rattle.fx_image.specs.Rules.{IsImage, is_listed}
use Rattle.fx_image.specs.declared.forms.Image.{Image}
use Rattle.fx_machine_model.specs.Layout.{page_entry, is_ept}
use Rattle.fx_machine_model.specs.Moves.{World, Move, move, move_by, perform_need}
use Rattle.fx_machine_model.specs.declared.fetched.Fetched.TheVariants.{Found}
use Rattle.fx_machine_model.proofs.Pages.{fits}
use Rattle.fx_machine_model.proofs.Regions.{fetch_code}
use Rattle.fx_machine_model.specs.Standing.{HoldsCode, StandsAt}
use Rattle.fx_machine_model.proofs.Fetching.{fetched_spelling, move_is}
use Rattle.fx_machine_model.specs.Touches.{found_at, access_of}
use Rattle.fx_machine_law.proofs.Kept.{touch_is}
use Rattle.fx_machine_law.proofs.Found.{keys_are_set_where_listed, found_is_code}
use Rattle.fx_machine_law.proofs.Keys.{pkru_changes_by_keys}

and_small : (a b : ℕ) → a < b → a < b
and_small a b h = h

-- An instruction that stands at RIP is found, where there is one address space.
pub found_standing : (image : Image) (vcpu : ℕ) (r : Regs) (w : World) (i : Inst) → IsImage image → is_ept image ≡ false → HoldsCode image w.memory → IsRow i → code_start ≤ r.rip → StandsAt image.code (r.rip - code_start) (spelling i)
    → found_at image vcpu r w ≡ Found i (length (spelling i))
found_standing image vcpu r w i h single holds row from stands =
    let c = (fits image h).code in
    let room = stands.room in
    let at : (k : ℕ) → k < length (spelling i) → on r.rip k ≡ code_start + ((r.rip - code_start) + k) = λ k lt. omega arith in
    fetched_spelling (page_entry image vcpu) r.pkru w.memory r.rip i row
    (λ k lt. subst (λ a. access_check (page_entry image vcpu) r.pkru Fetch a 1 ≡ None) (sym (at k lt)) (fetch_code image vcpu r.pkru ((r.rip - code_start) + k) (fits image h) single (omega arith)))
    (λ k lt. ap w.memory (at k lt) ∙ holds.code ((r.rip - code_start) + k) (omega arith) ∙ stands.same k lt)

-- what an instruction that makes no access goes on to
goes_quiet : (image : Image) (vcpu : ℕ) (n : Need) (i : Inst) (len : ℕ) (r : Regs) (w : World) (o : List DeviceOp) (q : Regs) (y : World) → (n ≡ needs.Quiet) ⊎ ((trap : Trap) × (n ≡ needs.Stops trap)) → perform_need image vcpu n i len r w ≡ Goes o (q, y) → finish i (past r len) 0 ≡ q
goes_quiet image vcpu n i len r w o q y (inl e) go =
    let here : ◌≡◌ {A = Move} (Goes [] (finish i (past r len) 0, w)) (Goes o (q, y)) = subst (λ x. perform_need image vcpu x i len r w ≡ Goes o (q, y)) e go in
    let s : ◌≡◌ {A = Regs × World} (finish i (past r len) 0, w) (q, y) = cc in
    ap (λ (z : Regs × World). z.0) s
goes_quiet image vcpu n i len r w o q y (inr (trap, e)) go =
    let here = subst (λ x. perform_need image vcpu x i len r w ≡ Goes o (q, y)) e go in
    cc

key_by : (t : Bool) → (key_need t ≡ needs.Quiet) ⊎ ((trap : Trap) × (key_need t ≡ needs.Stops trap))
key_by true = inl refl
key_by false = inr (_, refl)

module _ (image : Image) (h : IsImage image) (single : is_ept image ≡ false) (Held : Pkru → Type 0) (At : Inst → Regs → Type 0) where
  -- a compartment's value is held, or RIP stands at a point
  abbrev pub Inv : Regs → Type 0
  Inv r = Held r.pkru ⊎ ((i : Inst) × At i r)

  -- The points stand in the code, make no access, and lead to points or to where a value is held; so does
  -- each listed WRPKRU.
  pub record Closed : Type 0 where
    pub row : (i : Inst) (r : Regs) → At i r → IsRow i
    pub from : (i : Inst) (r : Regs) → At i r → code_start ≤ r.rip
    pub stands : (i : Inst) (r : Regs) → At i r → StandsAt image.code (r.rip - code_start) (spelling i)
    pub asks : (i : Inst) (r : Regs) → At i r → (need i (past r (length (spelling i))) ≡ needs.Quiet) ⊎ ((trap : Trap) × (need i (past r (length (spelling i))) ≡ needs.Stops trap))
    pub next : (i : Inst) (r : Regs) → At i r → need i (past r (length (spelling i))) ≡ needs.Quiet → Inv (finish i (past r (length (spelling i))) 0)
    pub enters : (r : Regs) → is_listed image.stubs (r.rip - code_start) ≡ true → code_start ≤ r.rip → Inv (finish Wrpkru (past r 3) 0)

  module _ (closed : Closed) (vcpu : ℕ) (r : Regs) (w : World) (holds : HoldsCode image w.memory) (low : r.rip < 2 ^ 64) where
    pub found_point : (i : Inst) → At i r → found_at image vcpu r w ≡ Found i (length (spelling i))
    found_point i at = found_standing image vcpu r w i h single holds (closed.row i r at) (closed.from i r at) (closed.stands i r at)

    -- At a point no data access is made.
    pub point_makes_none : (i : Inst) → At i r → access_of image vcpu r w ≡ None
    point_makes_none i at = elim (closed.asks i r at) [
      | inl e ↦ touch_is image vcpu r w i (length (spelling i)) needs.Quiet (found_point i at) e
      | inr (trap, e) ↦ touch_is image vcpu r w i (length (spelling i)) (needs.Stops trap) (found_point i at) e
    ]

    by_point : (o : List DeviceOp) (q : Regs) (y : World) (i : Inst) → At i r → move image vcpu r w ≡ Goes o (q, y) → Inv q
    by_point o q y i at go =
        let n = length (spelling i) in
        let e : perform_need image vcpu (need i (past r n)) i n r w ≡ Goes o (q, y) = sym (ap (λ x. move_by image vcpu x r w) (found_point i at)) ∙ sym (move_is image vcpu r w) ∙ go in
        elim (closed.asks i r at) [
          | inl quiet ↦ subst Inv (goes_quiet image vcpu (need i (past r n)) i n r w o q y (inl quiet) e) (closed.next i r at quiet)
          | inr (trap, stops) ↦ let f = subst (λ x. perform_need image vcpu x i n r w ≡ Goes o (q, y)) stops e in cc
        ]

    by_keys : (o : List DeviceOp) (q : Regs) (y : World) (len : ℕ) → found_at image vcpu r w ≡ Found Wrpkru len → move image vcpu r w ≡ Goes o (q, y) → Inv q
    by_keys o q y len found go =
        let c = found_is_code image vcpu r w Wrpkru len h holds low found in
        let n : len ≡ 3 = c.long in
        let listed = keys_are_set_where_listed image vcpu r w len h holds low found in
        let e : perform_need image vcpu (need Wrpkru (past r len)) Wrpkru len r w ≡ Goes o (q, y) = sym (ap (λ x. move_by image vcpu x r w) found) ∙ sym (move_is image vcpu r w) ∙ go in
        subst Inv (ap (λ k. finish Wrpkru (past r k) 0) (sym n) ∙ goes_quiet image vcpu (need Wrpkru (past r len)) Wrpkru len r w o q y (key_by (is_low_zero (past r len) Rcx && is_low_zero (past r len) Rdx)) e)
        (closed.enters r listed c.from)

    -- Each turn keeps it.
    pub inv_kept : (o : List DeviceOp) (q : Regs) (y : World) → Inv r → move image vcpu r w ≡ Goes o (q, y) → Inv q
    inv_kept o q y (inl held) go = elim (pkru_changes_by_keys image vcpu r q w y o go) [
      | inl same ↦ inl (subst Held (sym same) held)
      | inr (len, found) ↦ by_keys o q y len found go
    ]
    inv_kept o q y (inr (i, at)) go = by_point o q y i at go
