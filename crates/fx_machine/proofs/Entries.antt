-- What each page's entry has: a protection key, and a device's flag in the devices' pages alone.
use Rattle.std.proofs.Common.{◌≡◌, ℕ, ◌-◌, ◌<◌, ◌≤◌, Bool, true, false, Option, None, Some, length, refl, subst, arith}
use Rattle.std.specs.Prelude.{◌&&◌, ◌==◌, not, slice_get, if◌then◌else◌}
use Rattle.fx_vm_pages.specs.Access.{HasKey}
use Rattle.fx_vm_pages.specs.Entries.{is_device}
use Rattle.fx_vm_pages.specs.declared.entry.Entry.{Entry}
use Rattle.fx_image.specs.Keys.{has_member, is_keyed}
use Rattle.fx_image.specs.Rules.{IsImage}
use Rattle.fx_image.specs.declared.forms.Section.{Section}
use Rattle.fx_image.specs.declared.forms.Image.{Image}
use Rattle.fx_machine_model.specs.Layout.{page_entry, mapped, is_ept, key_of, private_key, common_key, owner_of, stack_compartment, stack_of}
use Rattle.fx_machine_model.proofs.Bounds.{section_keys}
use Rattle.fx_machine_model.proofs.ByRegion.{Regions, by_region}

key_small : (image : Image) → IsImage image → (c : ℕ) → key_of (slice_get image.sections c) < 16
key_small image h c = cases (slice_get image.sections c) refl
  where
    cases : (s : Option Section) → slice_get image.sections c ≡ s → key_of s < 16
    cases None e = omega arith
    cases (Some s) e = section_keys image h c s e

thread_key : (t : Bool) → (if t then 1 else 0) < 16
thread_key true = omega arith
thread_key false = omega arith

-- each entry's key is a protection key
pub entry_keyed : (image : Image) (space page : ℕ) → IsImage image → HasKey (page_entry image space page)
entry_keyed image space page h = by_region image space page HasKey regions
  where
    common : common_key image < 16
    common = key_small image h (if length image.compartments == 1 then 0 else length image.compartments)

    regions : Regions image space page HasKey
    regions = record {
      none = tt;
      code = λ from to maps. omega arith;
      literal = λ from to. omega arith;
      mailbox = λ from is. omega arith;
      thread = λ at. thread_key (is_keyed image.mechanism);
      device = λ from to owned. key_small image h (owner_of image (page - 0xf100));
      section = λ i s at from to one. section_keys image h i s at;
      machine = λ i s at from to ept reads. section_keys image h i s at;
      whole = λ from small inside halves. common;
      low = λ from small inside halves ours. key_small image h (stack_compartment image (stack_of image page));
      high = λ from small past inside halves. common;
    }

-- a device's page is one of sixteen
abbrev DeviceAt : ℕ → Option Entry → Type 0
DeviceAt page entry = (e : Entry) → entry ≡ Some e → is_device e.flags ≡ true → (0xf100 ≤ page) × (page < 0xf110)

not_device : (page flags key : ℕ) → is_device (record { 0 = flags }) ≡ false → DeviceAt page (mapped page flags key)
not_device page flags key plain e is device =
    let same : record { frame = page; flags = record { 0 = flags }; key = key } ≡ e = cc in
    let also : is_device e.flags ≡ false = subst (λ (x : Entry). is_device x.flags ≡ false) same plain in
    cc

pub device_pages : (image : Image) (space page : ℕ) → IsImage image → (e : Entry) → page_entry image space page ≡ Some e → is_device e.flags ≡ true → (0xf100 ≤ page) × (page < 0xf110)
device_pages image space page h = by_region image space page (DeviceAt page) regions
  where
    read : (t : Bool) (key : ℕ) → DeviceAt page (mapped page (if t then 0 else 1) key)
    read true key = not_device page 0 key refl
    read false key = not_device page 1 key refl

    written : (t : Bool) (key : ℕ) → DeviceAt page (mapped page (if t then 1 else 0) key)
    written true key = not_device page 1 key refl
    written false key = not_device page 0 key refl

    regions : Regions image space page (DeviceAt page)
    regions = record {
      none = λ e is. cc;
      code = λ from to maps. not_device page 2 0 refl;
      literal = λ from to. not_device page 0 0 refl;
      mailbox = λ from is. not_device page 1 0 refl;
      thread = λ at. read (is_ept image && not (space == image.scheduler)) (if is_keyed image.mechanism then 1 else 0);
      device = λ from to owned e is device. (from, to);
      section = λ i s at from to one. not_device page 1 s.key refl;
      machine = λ i s at from to ept reads. written (has_member s.writers space) s.key;
      whole = λ from small inside halves. not_device page 1 (common_key image) refl;
      low = λ from small inside halves ours. not_device page 1 (private_key image (stack_compartment image (stack_of image page))) refl;
      high = λ from small past inside halves. not_device page 1 (common_key image) refl;
    }
