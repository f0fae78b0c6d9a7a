-- Under `ept` any state obeys, and a machine leaves the bytes that aren't granted to it.
use Rattle.std.proofs.Common.{◌≡◌, ◌+◌, ◌%◌, ◌^◌, true, sym, ap, ◌∙◌, subst}
use Rattle.std.specs.Prelude.{if◌then◌else◌}
use Rattle.fx_x64_forms.specs.Numbers.{width_bytes}
use Rattle.fx_vm_pages.specs.Access.{page_of, is_register_form}
use Rattle.fx_machine_model.specs.Layout.{page_entry}
use Rattle.fx_machine_model.specs.Moves.{holder}
use Rattle.fx_machine_model.proofs.Checks.{each_free}
use Rattle.fx_confined_model.specs.Grants.{Acts, Checking, domain, is_checking, IsSomebody, Granted}
use Rattle.fx_confined_law.specs.Confined.{ObeysUnderEpt}
use Rattle.fx_machine_law.proofs.Kept.{accesses_are_permitted}
use Rattle.fx_machine_law.proofs.Access.{access_kind, low_access}
use Rattle.fx_confined_model.proofs.Machines.{permits, writes}
use Rattle.fx_confined_law.specs.Machines.{UngrantedBytesStay}
use Rattle.fx_machine_law.proofs.Kept.{move_keeps_byte}

pub obeys_under_ept : ObeysUnderEpt
obeys_under_ept image vcpu r w h ept lt = record {
  somebody = subst (IsSomebody image) (sym acts) lt;
  checked = λ is. let f : Acts vcpu ≡ Checking = sym acts ∙ is in cc;
  granted = λ c t o after is go made k less.
      let f : Acts vcpu ≡ Acts c = sym acts ∙ is in
      let who : vcpu ≡ c = cc in
      let free = accesses_are_permitted image vcpu r after.0 w after.1 o t go made in
      let low = low_access image vcpu r t h free in
      let byte = each_free (page_entry image vcpu) r.pkru t.access t.address (width_bytes t.width) k low free less in
      subst (λ e. Granted image e t.access (page_of ((t.address + k) % 2 ^ 64))) who
      (permits image h ept vcpu (page_of ((t.address + k) % 2 ^ 64)) r.pkru (is_register_form t.address (width_bytes t.width)) t.access (access_kind image vcpu r w t made) byte);
}
  where
    acts : domain image vcpu r ≡ Acts vcpu
    acts = ap (λ t. if t then Acts vcpu else if is_checking image r.rip then Checking else Acts (holder image.compartments 0 r.pkru.0)) ept

pub ungranted_bytes_stay : UngrantedBytesStay
ungranted_bytes_stay image vcpu r q w y o k h ept e not_its = move_keeps_byte image vcpu r q w y o k e (λ opens. not_its (writes image h ept vcpu (page_of k) r.pkru true opens))
