-- An instruction that was decoded at its place of the code is what a fetch there finds.
use Rattle.std.proofs.Common.{◌≡◌, ℕ, ◌+◌, ◌-◌, ◌%◌, ◌^◌, ◌<◌, ◌≤◌, [], length, drop, get_or, false, Option, None, Some, sym, ap, ◌∙◌, subst, arith, length-drop}
use Rattle.std.proofs.lemmas.List.{get_or-drop, get_or-take, length-take-le}
use Rattle.fx_x64_forms.specs.declared.inst.Inst.{Inst}
use Rattle.fx_x64_code.specs.Spelling.{spelling}
use Rattle.fx_x64_code.specs.Decoded.{decoded}
use Rattle.fx_x64_code.proofs.Decoding.{decoded_is_spelled}
use Rattle.fx_x64_code.proofs.Lengths.{spelling_lengths}
use Rattle.fx_vm_pages.specs.Access.{access_check, byte_refusal, page_of, is_register_form}
use Rattle.fx_vm_pages.specs.declared.entry.Entry.{Entry}
use Rattle.fx_vm_pages.specs.declared.entry.Pkru.{Pkru}
use Rattle.fx_vm_pages.specs.declared.access.Access.TheVariants.{Fetch}
use Rattle.fx_cpu.specs.Memory.{on}
use Rattle.fx_image.specs.Layout.{code_start}
use Rattle.fx_image.specs.declared.forms.Image.{Image}
use Rattle.fx_machine_model.specs.Layout.{is_ept, page_entry}
use Rattle.fx_machine_model.specs.Boot.{boot_byte}
use Rattle.fx_machine_model.specs.Moves.{fetched}
use Rattle.fx_machine_model.specs.declared.fetched.Fetched.TheVariants.{Found}
use Rattle.fx_machine_model.specs.Standing.{Fits, HoldsCode}
use Rattle.fx_machine_model.proofs.Checks.{first_free}
use Rattle.fx_machine_model.proofs.Fetching.{fetched_spelling}
use Rattle.fx_machine_model.proofs.Regions.{fetch_code}
use Rattle.fx_machine_model.proofs.Placing.{boot_code}
use Rattle.fx_machine.specs.Memory.{memory_of}
use Rattle.fx_machine.specs.declared.memory.Memory.{Memory}
use Rattle.fx_machine.proofs.Held.{at_none}
use Rattle.fx_machine.proofs.Reach.{page_free}
use Rattle.std.specs.Prelude.{unwrap_or}
use Rattle.fx_machine.specs.Lines.{line_from}
use Rattle.fx_machine.specs.declared.code.Line.TheVariants.{Spelled}

-- no region holds the code
pub holds_code : (image : Image) (memory : Memory) → Fits image → HoldsCode image (memory_of image memory)
holds_code image memory f = record {
  code = λ k lt.
      let c = f.code in
      ap (λ x. unwrap_or x (boot_byte image (code_start + k))) (at_none (code_start + k) _ _ _ _ _ (omega arith)) ∙ (boot_code image).code k lt;
}

module _ (image : Image) (entries : ℕ → Option Entry) (pkru : Pkru) (memory : ℕ → ℕ) (rip : ℕ) (i : Inst) (len : ℕ)
    (f : Fits image) (holds : HoldsCode image memory) (from : code_start ≤ rip) (is : decoded (drop (rip - code_start) image.code) ≡ Some (i, len))
    (inside : rip % 4096 + len ≤ 4096) (free : access_check entries pkru Fetch rip 1 ≡ None) where
  abbrev at : ℕ
  at = rip - code_start

  pub line_found : fetched entries pkru memory rip 15 [] ≡ Found i len
  line_found =
      let c = f.code in
      let s = decoded_is_spelled (drop at image.code) i len is in
      let n : length (spelling i) ≡ len = ap length (sym s.0.1) ∙ length-take-le len (drop at image.code) s.1 in
      let size = length-drop at image.code in
      let some = spelling_lengths i s.0.0 in
      let within : at + len ≤ length image.code = omega arith in
      let here : byte_refusal (entries (page_of rip)) pkru Fetch (is_register_form rip 1) ≡ None = first_free entries pkru Fetch rip 1 (omega arith) free in
      fetched_spelling entries pkru memory rip i s.0.0
      (λ k lt.
      let top : on rip k < 2 ^ 64 = omega arith in
      let page : page_of rip ≡ page_of (on rip k) = omega arith in
      page_free entries pkru Fetch (on rip k) 1 top (omega arith) (subst (λ p. byte_refusal (entries p) pkru Fetch (is_register_form rip 1) ≡ None) page here))
      (λ k lt.
      let place : on rip k ≡ code_start + (at + k) = omega arith in
      ap memory place ∙ holds.code (at + k) (omega arith)
      ∙ sym (get_or-drop at image.code k 0) ∙ sym (get_or-take len (drop at image.code) k 0 (omega arith)) ∙ ap (λ l. get_or l k 0) s.0.1)
      ∙ ap (Found i) n

-- where there is one address space, it maps all code, and nothing refuses a fetch there
module _ (image : Image) (vcpu : ℕ) (pkru : Pkru) (memory : ℕ → ℕ) (rip : ℕ) (i : Inst) (len : ℕ)
    (f : Fits image) (holds : HoldsCode image memory) (from : code_start ≤ rip) (is : decoded (drop (rip - code_start) image.code) ≡ Some (i, len))
    (one : is_ept image ≡ false) where
  abbrev place : ℕ
  place = rip - code_start

  pub line_mapped : fetched (page_entry image vcpu) pkru memory rip 15 [] ≡ Found i len
  line_mapped =
      let c = f.code in
      let s = decoded_is_spelled (drop place image.code) i len is in
      let n : length (spelling i) ≡ len = ap length (sym s.0.1) ∙ length-take-le len (drop place image.code) s.1 in
      let size = length-drop place image.code in
      let some = spelling_lengths i s.0.0 in
      let within : place + len ≤ length image.code = omega arith in
      fetched_spelling (page_entry image vcpu) pkru memory rip i s.0.0
      (λ k lt.
      let there : on rip k ≡ code_start + (place + k) = omega arith in
      ap (λ a. access_check (page_entry image vcpu) pkru Fetch a 1) there ∙ fetch_code image vcpu pkru (place + k) f one (omega arith))
      (λ k lt.
      let there : on rip k ≡ code_start + (place + k) = omega arith in
      ap memory there ∙ holds.code (place + k) (omega arith)
      ∙ sym (get_or-drop place image.code k 0) ∙ sym (get_or-take len (drop place image.code) k 0 (omega arith)) ∙ ap (λ l. get_or l k 0) s.0.1)
      ∙ ap (Found i) n

-- what a line says
pub found_from : (x : Option (Inst × ℕ)) (i : Inst) (n : ℕ) → line_from x ≡ Spelled i n → x ≡ Some (i, n)
found_from None i n e = cc
found_from (Some f) i n e = same f.0 f.1 i n e
  where
    same : (j : Inst) (m : ℕ) (i : Inst) (n : ℕ) → Spelled j m ≡ Spelled i n → ◌≡◌ {A = Option (Inst × ℕ)} (Some (j, m)) (Some (i, n))
    same j m i n e = cc
