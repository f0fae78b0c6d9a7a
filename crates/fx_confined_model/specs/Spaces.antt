-- Under `ept` a machine's space permits exactly what is granted to its compartment.
use Rattle.std.specs.Prelude.{◌≡◌, ◌≢◌, ◌↔◌, ℕ, true, None}
use Rattle.fx_vm_pages.specs.Access.{byte_refusal}
use Rattle.fx_vm_pages.specs.declared.access.Access.{Access}
use Rattle.fx_vm_pages.specs.declared.access.Access.TheVariants.{Fetch}
use Rattle.fx_image.specs.Rules.{IsImage}
use Rattle.fx_image.specs.declared.forms.Image.{Image}
use Rattle.fx_machine_model.specs.Layout.{page_entry, is_ept, space_of}
use Rattle.fx_confined_model.specs.Grants.{Granted}

-- A page may be read or written in compartment c's space exactly where it is granted to c for that; a device's
-- page by accesses of a register's form. PKRU is 0 there, as it is at boot.
abbrev pub SpacePermits : Type 0
SpacePermits =
    (image : Image) (c page : ℕ) (access : Access) → IsImage image → is_ept image ≡ true → access ≢ Fetch
    → (byte_refusal (page_entry image (space_of image c) page) (record { 0 = 0 }) access true ≡ None) ↔ Granted image c access page
