-- What the PKRU value of a compartment permits of a placement's sections.
use Rattle.std.specs.Prelude.{◌≡◌, ℕ, ◌+◌, ◌<◌, ◌≤◌, Bool, true, ◌&&◌, ◌==◌, if◌then◌else◌, List}
use Rattle.std.specs.Prelude.{length, map, HoldsAt, Some, Result, Ok, Err}
use Rattle.fx_config.specs.declared.configuration.Mechanism.{Mechanism}
use Rattle.fx_grants.specs.declared.grants.Pair.{Pair}
use Rattle.fx_grants.specs.Sets.{has_member}
use Rattle.fx_image.specs.declared.forms.Section.{Section}
use Rattle.fx_image.specs.Keys.{pkru_of}
use Rattle.fx_sections.specs.declared.placement.PlacedSection.{PlacedSection}
use Rattle.fx_sections.specs.declared.regions.Room.{Room}
use Rattle.fx_sections.specs.Pairs.{is_keyed}
use Rattle.fx_sections.specs.Placement.{sections_from}
use Rattle.fx_vm_pages.specs.Access.{permitted}
use Rattle.fx_vm_pages.specs.Entries.{is_writable}
use Rattle.fx_vm_pages.specs.declared.entry.PageFlags.{PageFlags}
use Rattle.fx_vm_pages.specs.declared.access.Access.{Access}
use Rattle.fx_vm_pages.specs.declared.access.Access.TheVariants.{Read, Write}
use Rattle.fx_vm_pages.specs.declared.access.Refusal.{Refusal}
use Rattle.fx_vm_pages.specs.declared.access.Refusal.TheVariants.{Key}

-- a section as an image has it
abbrev pub image_section : PlacedSection → Section
image_section s =
    record { readers = s.readers; writers = s.writers; key = s.key; page = s.page; pages = s.pages }

-- the PKRU value of a compartment, for the sections of these pairs
abbrev pub value_of : Mechanism → ℕ → List Pair → List Room → (scheduler c : ℕ) → ℕ
value_of m page ps rs scheduler c =
    pkru_of (map image_section (sections_from m 0 page ps rs)) scheduler c

-- what the access check answers where a PKRU value is held, at a page of a key that may be written
abbrev pub checked : ℕ → PageFlags → (frame key : ℕ) → Access → Result (Unit {0}) Refusal
checked value flags frame key access =
    permitted (Some (record { frame = frame; flags = flags; key = key })) (record { 0 = value })
    access

-- permitted, or refused for the key
abbrev pub allowed : Bool → Result (Unit {0}) Refusal
allowed b = if b then Ok tt else Err Key

-- Under protection keys the i-th section has key 2 + i. A compartment may read its pages exactly where it is
-- among the readers, and write them exactly where it is among the readers and the writers. It may touch no
-- page of another key from 2 to 15. It may read and write the pages of key 0, and read those of key 1, which
-- the scheduler's compartment alone may write.
pub record Permits (m : Mechanism) (page : ℕ) (ps : List Pair) (rs : List Room) (scheduler c : ℕ) (flags : PageFlags) (frame : ℕ) : Type 0 where
  pub reads : (i : ℕ) → i < length ps
      → HoldsAt
      (λ (p : Pair). checked (value_of m page ps rs scheduler c) flags frame (i + 2) Read
      ≡ allowed (has_member p.readers c))
      ps i
  pub writes : (i : ℕ) → i < length ps
      → HoldsAt
      (λ (p : Pair). checked (value_of m page ps rs scheduler c) flags frame (i + 2) Write
      ≡ allowed (has_member p.readers c && has_member p.writers c))
      ps i
  pub unused : (k : ℕ) → length ps + 2 ≤ k → k < 16
      → (checked (value_of m page ps rs scheduler c) flags frame k Read ≡ Err Key)
      × (checked (value_of m page ps rs scheduler c) flags frame k Write ≡ Err Key)
  pub common : (checked (value_of m page ps rs scheduler c) flags frame 0 Read ≡ Ok tt)
      × (checked (value_of m page ps rs scheduler c) flags frame 0 Write ≡ Ok tt)
  pub thread : (checked (value_of m page ps rs scheduler c) flags frame 1 Read ≡ Ok tt)
      × (checked (value_of m page ps rs scheduler c) flags frame 1 Write ≡ allowed (c == scheduler))

-- the access check permits a compartment's accesses to sections exactly as their pairs grant them
abbrev pub KeysPermitWhatIsGranted : Type 0
KeysPermitWhatIsGranted =
    (m : Mechanism) (page : ℕ) (ps : List Pair) (rs : List Room) (scheduler c : ℕ) (flags : PageFlags)
    (frame : ℕ)
    → is_keyed m ≡ true → length rs ≡ length ps → length ps ≤ 14 → is_writable flags ≡ true
    → Permits m page ps rs scheduler c flags frame
