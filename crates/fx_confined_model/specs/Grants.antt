-- Which pages of an image are granted to a compartment, and who acts.
use Rattle.std.specs.Prelude.{◌≡◌, ℕ, ◌+◌, ◌*◌, ◌-◌, ◌/◌, ◌%◌, ◌^◌, ◌<◌, ◌≤◌, Bool, true, ◌==◌, ◌||◌, if◌then◌else◌, length, Some, slice_get}
use Rattle.std.specs.List.{list_any}
use Rattle.fx_x64_forms.specs.Numbers.{width_bytes}
use Rattle.fx_vm_pages.specs.Access.{page_of}
use Rattle.fx_vm_pages.specs.declared.access.Access.{Access}
use Rattle.fx_vm_pages.specs.declared.access.Access.TheVariants.{Read, Write, Fetch}
use Rattle.fx_vm_pages.specs.declared.entry.Pkru.{Pkru}
use Rattle.fx_cpu.specs.declared.registers.Regs.{Regs}
use Rattle.fx_image.specs.Keys.{has_member}
use Rattle.fx_image.specs.Layout.{code_start, first_stack, stack_count, stack_bytes, has_halves}
use Rattle.fx_image.specs.declared.forms.Image.{Image}
use Rattle.fx_image.specs.declared.forms.Comp.{Comp}
use Rattle.fx_image.specs.declared.forms.Section.{Section}
use Rattle.fx_machine_model.specs.Layout.{is_ept, space_of, stack_of, place_of, maps_code, is_mailbox, owner_of, stack_compartment}
use Rattle.fx_machine_model.specs.Moves.{holder}
use Rattle.fx_machine_model.specs.Touches.{Touch}

-- ---- pages

abbrev pub IsCodePage : Image → ℕ → ℕ → Type 0
IsCodePage image space page = (0x400 ≤ page) × ((page - 0x400) * 4096 < length image.code) × (maps_code image space ((page - 0x400) * 4096) ≡ true)

abbrev pub IsLiteralPage : Image → ℕ → Type 0
IsLiteralPage image page = (0x600 ≤ page) × ((page - 0x600) * 4096 < length image.literals)

abbrev pub IsThreadPage : ℕ → Type 0
IsThreadPage page = page ≡ 0xf000

-- A page of a section that passes a test.
abbrev pub IsSectionPage : Image → (Section → Bool) → ℕ → Type 0
IsSectionPage image test page = (i : ℕ) × (s : Section) × (slice_get image.sections i ≡ Some s) × (s.page ≤ page) × (page < s.page + s.pages) × (test s ≡ true)

-- A page of a low half: of c's own stacks where compartments have stacks of their own, else of any.
abbrev pub IsLowPage : Image → ℕ → ℕ → Type 0
IsLowPage image c page =
    (first_stack ≤ page * 4096) × (stack_of image page < stack_count image)
    × (place_of image page < stack_bytes image)
    × (has_halves image.mechanism ≡ true → stack_compartment image (stack_of image page) ≡ c)

abbrev pub IsHighPage : Image → ℕ → Type 0
IsHighPage image page =
    (first_stack ≤ page * 4096) × (stack_of image page < stack_count image)
    × (stack_bytes image ≤ place_of image page) × (place_of image page < 2 * stack_bytes image)
    × (has_halves image.mechanism ≡ true)

abbrev pub IsDevicePage : Image → ℕ → ℕ → Type 0
IsDevicePage image c page = (0xf100 ≤ page) × (page < 0xf110) × (owner_of image (page - 0xf100) ≡ c)

-- Under `ept`: a mailbox from c or to c.
abbrev pub IsMailPage : Image → ℕ → ℕ → Type 0
IsMailPage image c page = (0xe000 ≤ page) × (is_mailbox image c ((page - 0xe000) / 16) ((page - 0xe000) % 16) ≡ true)

-- ---- what is granted

-- For reading and writing both.
pub data MayUse (image : Image) (c page : ℕ) : Type 0 where
  of_low_half : IsLowPage image c page → MayUse image c page
  of_high_half : IsHighPage image page → MayUse image c page
  of_device : IsDevicePage image c page → MayUse image c page
  of_mailbox : IsMailPage image c page → MayUse image c page

pub data MayRead (image : Image) (c page : ℕ) : Type 0 where
  read_code : IsCodePage image (space_of image c) page → MayRead image c page
  read_literal : IsLiteralPage image page → MayRead image c page
  read_thread : IsThreadPage page → MayRead image c page
  read_section : IsSectionPage image (λ s. has_member s.readers c) page → MayRead image c page
  read_use : MayUse image c page → MayRead image c page

pub data MayWrite (image : Image) (c page : ℕ) : Type 0 where
  write_thread : IsThreadPage page → c ≡ image.scheduler → MayWrite image c page
  write_section : IsSectionPage image (λ s. has_member s.writers c) page → MayWrite image c page
  write_use : MayUse image c page → MayWrite image c page

-- The page is granted to compartment c for this kind of access.
abbrev pub Granted : Image → ℕ → Access → ℕ → Type 0
Granted image c Read page = MayRead image c page
Granted image c Write page = MayWrite image c page
Granted image c Fetch page = IsCodePage image (space_of image c) page

-- Each byte of a data access is of a granted page.
abbrev pub IsGranted : Image → ℕ → Touch → Type 0
IsGranted image c t = (k : ℕ) → k < width_bytes t.width → Granted image c t.access (page_of ((t.address + k) % 2 ^ 64))

-- ---- who acts

pub data Domain : Type 0 where
  Acts : (compartment : ℕ) → Domain
  Checking : Domain

-- RIP stands at one of the two instructions after a WRPKRU, which has 3 bytes: a comparison of 6, and a
-- jump.
abbrev pub is_behind : ℕ → ℕ → Bool
is_behind at rip = (rip == code_start + at + 3) || (rip == code_start + at + 9)

-- RIP stands at an instruction of the abort stub: a move of 7 bytes, and HLT.
abbrev pub is_abort : Image → ℕ → Bool
is_abort image rip = (rip == code_start + image.abort) || (rip == code_start + image.abort + 7)

abbrev pub is_checking : Image → ℕ → Bool
is_checking image rip = list_any (λ s. is_behind s.first rip || is_behind s.second rip) image.stubs || is_abort image rip

-- Under `ept` the vCPU's machine acts, under keys the compartment whose PKRU value is held, unless it is
-- being checked.
abbrev pub domain : Image → ℕ → Regs → Domain
domain image vcpu r = if is_ept image then Acts vcpu else if is_checking image r.rip then Checking else Acts (holder image.compartments 0 r.pkru.0)

-- The PKRU value is that of a compartment.
abbrev pub IsHeld : Image → Pkru → Type 0
IsHeld image pkru = (c : ℕ) × (comp : Comp) × (slice_get image.compartments c ≡ Some comp) × (comp.pkru ≡ pkru.0)

-- A compartment acts, or nobody does.
abbrev pub IsSomebody : Image → Domain → Type 0
IsSomebody image (Acts c) = c < length image.compartments
IsSomebody image Checking = Unit {0}
