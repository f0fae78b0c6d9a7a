-- A data access is a read or a write, and begins below 2 ^ 64.
use Rattle.std.proofs.Common.{◌≡◌, ◌≢◌, ℕ, ◌+◌, ◌-◌, ◌^◌, ◌<◌, ◌⊎◌, inl, inr, None, Some, subst, arith, lit≤}
use Rattle.fx_outcomes.proofs.Follows.{nat_split}
use Rattle.fx_x64_forms.specs.Numbers.{width_bytes}
use Rattle.fx_x64_forms.specs.declared.operand.Width.{Width}
use Rattle.fx_x64_forms.specs.declared.operand.Width.TheVariants.{W8, W16, W32, W64}
use Rattle.fx_vm_pages.specs.Access.{access_check, byte_refusal, page_of, is_register_form}
use Rattle.fx_vm_pages.specs.declared.access.Access.TheVariants.{Read, Write, Fetch}
use Rattle.fx_cpu.specs.Registers.{past}
use Rattle.fx_cpu.specs.Does.{need}
use Rattle.fx_cpu.specs.declared.registers.Regs.{Regs}
use Rattle.fx_cpu.specs.declared.need.Need.{Need}
use Rattle.fx_cpu.specs.declared.need.Need.TheVariants as needs
use Rattle.fx_image.specs.Rules.{IsImage}
use Rattle.fx_image.specs.declared.forms.Image.{Image}
use Rattle.fx_machine_model.specs.Layout.{page_entry}
use Rattle.fx_machine_model.specs.Moves.{World}
use Rattle.fx_machine_model.specs.declared.fetched.Fetched.{Fetched}
use Rattle.fx_machine_model.specs.declared.fetched.Fetched.TheVariants.{Found, RefusedAt, Unspelled}
use Rattle.fx_machine_model.proofs.Checks.{first_free}
use Rattle.fx_machine_model.specs.Touches.{Touch, touch_of, found_touch, found_at, access_of}
use Rattle.fx_machine_model.proofs.Spaces.{none_above}

data_kind : (n : Need) (t : Touch) → touch_of n ≡ Some t → t.access ≢ Fetch
data_kind needs.Quiet t e f = cc
data_kind (needs.Reads width a) t e f = let g : Read ≡ t.access = cc in cc
data_kind (needs.Writes width a v) t e f = let g : Write ≡ t.access = cc in cc
data_kind (needs.Stops trap) t e f = cc

pub access_kind : (image : Image) (vcpu : ℕ) (r : Regs) (w : World) (t : Touch) → access_of image vcpu r w ≡ Some t → t.access ≢ Fetch
access_kind image vcpu r w t e = by (found_at image vcpu r w) e
  where
    by : (x : Fetched) → found_touch x r ≡ Some t → t.access ≢ Fetch
    by (Found i len) e = data_kind (need i (past r len)) t e
    by (RefusedAt first) e = cc
    by Unspelled e = cc

some_width : (width : Width) → 0 < width_bytes width
some_width W8 = lit≤ tt
some_width W16 = lit≤ tt
some_width W32 = lit≤ tt
some_width W64 = lit≤ tt

below_or : (a : ℕ) → (a < 2 ^ 64) ⊎ ((k : ℕ) × (a ≡ 2 ^ 64 + k))
below_or a = elim (nat_split (2 ^ 64) a) [ inl le ↦ inr (a - 2 ^ 64, omega arith) | inr (k, at) ↦ inl (omega arith) ]

pub low_access : (image : Image) (vcpu : ℕ) (r : Regs) (t : Touch) → IsImage image → access_check (page_entry image vcpu) r.pkru t.access t.address (width_bytes t.width) ≡ None → t.address < 2 ^ 64
low_access image vcpu r t h free = by (below_or t.address)
  where
    by : (t.address < 2 ^ 64) ⊎ ((k : ℕ) × (t.address ≡ 2 ^ 64 + k)) → t.address < 2 ^ 64
    by (inl lt) = lt
    by (inr (k, at)) =
        let none = none_above image vcpu (page_of t.address) h (omega arith) in
        let byte = first_free (page_entry image vcpu) r.pkru t.access t.address (width_bytes t.width) (some_width t.width) free in
        let f : byte_refusal None r.pkru t.access (is_register_form t.address (width_bytes t.width)) ≡ None = subst (λ x. byte_refusal x r.pkru t.access (is_register_form t.address (width_bytes t.width)) ≡ None) none byte in
        cc
