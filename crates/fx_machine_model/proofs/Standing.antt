-- Code that stands in memory: it is executed, and permitted stores keep it.
use Rattle.std.proofs.Common.{◌≡◌, ℕ, ◌+◌, ◌-◌, ◌*◌, ◌%◌, ◌^◌, ◌<◌, ◌≤◌, Bool, true, false, length, None, refl, sym, ap, ◌∙◌, subst, arith, cond, lit≤}
use Rattle.std.specs.Prelude.{nat_lt, ◌&&◌}
use Rattle.std.proofs.lemmas.Bool.Decides.{nat_tests}
use Rattle.fx_x64_forms.specs.Numbers.{width_bytes}
use Rattle.fx_x64_forms.specs.declared.operand.Width.{Width}
use Rattle.fx_x64_forms.specs.declared.operand.Width.TheVariants.{W8, W16, W32, W64}
use Rattle.fx_x64_forms.specs.declared.inst.Inst.{Inst}
use Rattle.fx_x64_code.specs.Spelling.{spelling, IsRow}
use Rattle.fx_vm_pages.specs.Access.{access_check, page_of, is_register_form}
use Rattle.fx_vm_pages.specs.declared.entry.Pkru.{Pkru}
use Rattle.fx_vm_pages.specs.declared.access.Access.TheVariants.{Write, Fetch}
use Rattle.fx_cpu.specs.Memory.{on, stored, behind, byte_of}
use Rattle.fx_cpu.specs.declared.registers.Regs.{Regs}
use Rattle.fx_image.specs.Layout.{code_start}
use Rattle.fx_image.specs.declared.forms.Image.{Image}
use Rattle.fx_machine_model.specs.Layout.{page_entry, maps_code, is_ept}
use Rattle.fx_machine_model.specs.Moves.{World, move, move_by, perform}
use Rattle.fx_machine_model.specs.Standing.{Fits, HoldsCode, StandsAt}
use Rattle.fx_machine_model.proofs.Checks.{each_free}
use Rattle.fx_machine_model.proofs.Pages.{maps_all, code_unwritable}
use Rattle.fx_machine_model.proofs.Regions.{fetch_mapped}
use Rattle.fx_machine_model.proofs.Fetching.{fetched_spelling}

-- An instruction that stands at RIP is executed, where the space maps its bytes.
pub executes_mapped : (image : Image) (vcpu : ℕ) (r : Regs) (w : World) (i : Inst) → Fits image → HoldsCode image w.memory → IsRow i → code_start ≤ r.rip → StandsAt image.code (r.rip - code_start) (spelling i)
    → ((k : ℕ) → k < length (spelling i) → maps_code image vcpu ((page_of (code_start + ((r.rip - code_start) + k)) - 0x400) * 4096) ≡ true) → move image vcpu r w ≡ perform image vcpu i (length (spelling i)) r w
unfolding move
executes_mapped image vcpu r w i f holds row from stands maps =
    let c = f.code in
    let room = stands.room in
    let at : (k : ℕ) → k < length (spelling i) → on r.rip k ≡ code_start + ((r.rip - code_start) + k) = λ k lt. omega arith in
    ap (λ x. move_by image vcpu x r w)
    (fetched_spelling (page_entry image vcpu) r.pkru w.memory r.rip i row
    (λ k lt. subst (λ a. access_check (page_entry image vcpu) r.pkru Fetch a 1 ≡ None) (sym (at k lt)) (fetch_mapped image vcpu r.pkru ((r.rip - code_start) + k) f (omega arith) (maps k lt)))
    (λ k lt. ap w.memory (at k lt) ∙ holds.code ((r.rip - code_start) + k) (omega arith) ∙ stands.same k lt))

-- Where there is one address space, it maps all code.
pub executes : (image : Image) (vcpu : ℕ) (r : Regs) (w : World) (i : Inst) → Fits image → is_ept image ≡ false → HoldsCode image w.memory → IsRow i → code_start ≤ r.rip → StandsAt image.code (r.rip - code_start) (spelling i) → move image vcpu r w ≡ perform image vcpu i (length (spelling i)) r w
executes image vcpu r w i f single holds row from stands =
    executes_mapped image vcpu r w i f holds row from stands (λ k lt. maps_all image vcpu ((page_of (code_start + ((r.rip - code_start) + k)) - 0x400) * 4096) single)

-- ---- what was permitted to be written is no code

elsewhere : (memory : ℕ → ℕ) (width : Width) (a v c : ℕ) → (behind a c < width_bytes width → ⊥) → stored memory width a v c ≡ memory c
unfolding stored
elsewhere memory width a v c not = cases (nat_lt c (2 ^ 64)) (nat_lt (behind a c) (width_bytes width)) refl
  where
    cases : (s t : Bool) → nat_lt (behind a c) (width_bytes width) ≡ t → cond (s && t) (byte_of v (behind a c)) (memory c) ≡ memory c
    cases false t e = refl
    cases true true e = let lt : behind a c < width_bytes width = grind (arith, nat_tests) in absurd (not lt)
    cases true false e = refl

small_width : (width : Width) → width_bytes width ≤ 8
small_width W8 = lit≤ tt
small_width W16 = lit≤ tt
small_width W32 = lit≤ tt
small_width W64 = lit≤ tt

pub stored_keeps : (image : Image) (space : ℕ) (pkru : Pkru) (memory : ℕ → ℕ) (width : Width) (a v : ℕ) → Fits image → HoldsCode image memory → access_check (page_entry image space) pkru Write a (width_bytes width) ≡ None → HoldsCode image (stored memory width a v)
stored_keeps image space pkru memory width a v f holds free = record {
  code = λ k lt. elsewhere memory width a v (code_start + k) (hit k lt) ∙ holds.code k lt;
}
  where
    hit : (k : ℕ) → k < length image.code → behind a (code_start + k) < width_bytes width → ⊥
    hit k lt within =
        let c = f.code in
        let n = small_width width in
        let j = behind a (code_start + k) in
        let low : a < 2 ^ 64 = omega arith in
        let at : (a + j) % 2 ^ 64 ≡ code_start + k = omega arith in
        let byte = each_free (page_entry image space) pkru Write a (width_bytes width) j low free within in
        let page : page_of ((a + j) % 2 ^ 64) ≡ page_of (code_start + k) = ap page_of at in
        code_unwritable image space (page_of ((a + j) % 2 ^ 64)) pkru (is_register_form a (width_bytes width)) f (omega arith) (omega arith) byte
