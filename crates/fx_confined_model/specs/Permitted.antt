-- Under keys the access check permits exactly what is granted.
use Rattle.std.specs.Prelude.{◌≡◌, ◌≢◌, ◌↔◌, ℕ, true, Some, None, slice_get}
use Rattle.fx_vm_pages.specs.Access.{byte_refusal}
use Rattle.fx_vm_pages.specs.declared.access.Access.{Access}
use Rattle.fx_vm_pages.specs.declared.access.Access.TheVariants.{Fetch}
use Rattle.fx_image.specs.Keys.{is_keyed}
use Rattle.fx_image.specs.Rules.{IsImage}
use Rattle.fx_image.specs.declared.forms.Comp.{Comp}
use Rattle.fx_image.specs.declared.forms.Image.{Image}
use Rattle.fx_machine_model.specs.Layout.{page_entry}
use Rattle.fx_confined_model.specs.Grants.{Granted}

-- Under compartment c's PKRU value a page may be read or written exactly where it is granted to c for that;
-- a device's page by accesses of a register's form.
abbrev pub ImagePermits : Type 0
ImagePermits =
    (image : Image) (c : ℕ) (comp : Comp) (space page : ℕ) (access : Access) → IsImage image → is_keyed image.mechanism ≡ true → slice_get image.compartments c ≡ Some comp → access ≢ Fetch
    → (byte_refusal (page_entry image space page) (record { 0 = comp.pkru }) access true ≡ None) ↔ Granted image c access page
