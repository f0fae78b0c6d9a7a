-- The address layout: what each page of each address space is. Every region stands at one address
-- in every space that maps it, so the frame of a page has the page's own number.
use Rattle.std.specs.Prelude.{ℕ, ◌+◌, ◌*◌, ◌-◌, ◌/◌, ◌%◌, Bool, false, ◌==◌, ◌&&◌, ◌||◌, not, nat_le, nat_lt, if◌then◌else◌, List, [], ◌∷◌, length, Option, Some, None, slice_get, slice_index}
use Rattle.fx_vm_pages.specs.declared.entry.Entry.{Entry}
use Rattle.fx_image.specs.Keys.{has_member, is_keyed}
use Rattle.fx_image.specs.Layout.{has_halves, stack_bytes, stack_span, first_stack, stack_count}
use Rattle.fx_image.specs.Rules.{ranges_end}
use Rattle.fx_image.specs.declared.forms.Image.{Image}
use Rattle.fx_image.specs.declared.forms.Comp.{Comp}
use Rattle.fx_image.specs.declared.forms.Section.{Section}

-- The first that is there.
abbrev pub first_of : {A : Type 0} → List (Option A) → Option A
first_of [] = None
first_of (None ∷ rest) = first_of rest
first_of (Some x ∷ rest) = Some x

-- Under `ept` each compartment has an address space of its own, whose number is the compartment's.
-- Under the other mechanisms there is one space, of number 0.
abbrev pub is_ept : Image → Bool
is_ept image = image.mechanism == 3

-- The number of a compartment's address space.
abbrev pub space_of : Image → ℕ → ℕ
space_of image c = if is_ept image then c else 0

-- Whether a space maps what is a compartment's own.
abbrev pub holds : Image → ℕ → ℕ → Bool
holds image space c = not (is_ept image) || (space == c)

-- ---- entries

-- A page whose frame has its own number, with its flags (WRITE 1, EXEC 2, DEVICE 4) and its key.
abbrev pub mapped : ℕ → ℕ → ℕ → Option Entry
mapped page flags key = Some (record { frame = page; flags = record { 0 = flags }; key = key })

abbrev pub key_of : Option Section → ℕ
key_of None = 0
key_of (Some section) = section.key

-- The key of a compartment's private set twice: the first sections are the private ones, in order.
abbrev pub private_key : Image → ℕ → ℕ
private_key image c = key_of (slice_get image.sections c)

-- The key of the set of all compartments twice, whose section follows these; where there is one
-- compartment it is the same.
abbrev pub common_key : Image → ℕ
common_key image = key_of (slice_get image.sections (if length image.compartments == 1 then 0 else length image.compartments))

-- ---- code, at 400000

abbrev pub is_in_range : Option Comp → ℕ → Bool
is_in_range None offset = false
is_in_range (Some c) offset = nat_le c.start offset && nat_lt offset (c.start + c.len)

-- Under `ept` a space maps its compartment's range and the runtime's, else all code is mapped.
abbrev pub maps_code : Image → ℕ → ℕ → Bool
maps_code image space offset =
    not (is_ept image) || is_in_range (slice_get image.compartments space) offset || nat_le (ranges_end image.compartments) offset

abbrev pub code_entry : Image → ℕ → ℕ → Option Entry
code_entry image space page =
    let offset = (page - 0x400) * 4096 in
    if nat_le 0x400 page && nat_lt offset (length image.code) && maps_code image space offset then mapped page 2 0 else None

-- ---- literals, at 600000

abbrev pub literal_entry : Image → ℕ → Option Entry
literal_entry image page =
    if nat_le 0x600 page && nat_lt ((page - 0x600) * 4096) (length image.literals) then mapped page 0 0 else None

-- ---- mailboxes, from E000000 on, under `ept`

-- The mailbox from c to d is page 16 * c + d, mapped in the spaces of c and d alone.
abbrev pub is_mailbox : Image → ℕ → ℕ → ℕ → Bool
is_mailbox image space from to =
    is_ept image && not (from == to) && nat_lt from (length image.compartments) && nat_lt to (length image.compartments) && ((space == from) || (space == to))

abbrev pub mailbox_entry : Image → ℕ → ℕ → Option Entry
mailbox_entry image space page =
    if nat_le 0xe000 page && is_mailbox image space ((page - 0xe000) / 16) ((page - 0xe000) % 16) then mapped page 1 0 else None

-- ---- the current thread's word, at F000000

-- All read it. Under `ept` the scheduler's space alone may write it, under keys whoever key 1 lets.
abbrev pub thread_entry : Image → ℕ → ℕ → Option Entry
thread_entry image space page =
    if page == 0xf000 then mapped page (if is_ept image && not (space == image.scheduler) then 0 else 1) (if is_keyed image.mechanism then 1 else 0) else None

-- ---- devices, from F100000 on

abbrev pub owner_of : Image → ℕ → ℕ
owner_of image device = slice_index image.owners device

-- The page of device i has number i. Under `ept` its owner's space alone maps it.
abbrev pub device_entry : Image → ℕ → ℕ → Option Entry
device_entry image space page =
    let owner = owner_of image (page - 0xf100) in
    if nat_le 0xf100 page && nat_lt page 0xf110 && holds image space owner then mapped page 5 (private_key image owner) else None

-- ---- sections, from 10000000 on

-- Under `ept` a space maps the sections that its compartment reads, and writes those that it writes.
abbrev pub section_page : Bool → ℕ → ℕ → Section → Option Entry
section_page ept space page section =
    if not ept then mapped page 1 section.key
    else if has_member section.readers space then mapped page (if has_member section.writers space then 1 else 0) section.key
    else None

abbrev pub section_entry : Bool → ℕ → ℕ → List Section → Option Entry
section_entry ept space page [] = None
section_entry ept space page (section ∷ rest) =
    if nat_le section.page page && nat_lt page (section.page + section.pages) then section_page ept space page section
    else section_entry ept space page rest

-- ---- stacks, from 20000000 on

-- Where compartments have stacks of their own, stack k is that of thread k / n and compartment
-- k % n of n; its low half is its compartment's, which under `ept` maps it alone, and its high half
-- is everybody's. Elsewhere stack k is that of thread k, and everybody's.
abbrev pub stack_compartment : Image → ℕ → ℕ
stack_compartment image k = k % length image.compartments

abbrev pub low_half : Image → ℕ → ℕ → ℕ → Option Entry
low_half image space k page =
    if not (has_halves image.mechanism) then mapped page 1 (common_key image)
    else if is_ept image && not (space == stack_compartment image k) then None
    else mapped page 1 (private_key image (stack_compartment image k))

abbrev pub high_half : Image → ℕ → Option Entry
high_half image page = if has_halves image.mechanism then mapped page 1 (common_key image) else None

-- The page that stands so many bytes behind the beginning of the low half of stack k.
abbrev pub stack_page : Image → ℕ → ℕ → ℕ → ℕ → Option Entry
stack_page image space k place page =
    if nat_lt place (stack_bytes image) then low_half image space k page
    else if nat_lt place (2 * stack_bytes image) then high_half image page
    else None

-- The stack that a page is of, and how far behind its low half's start the page begins.
abbrev pub stack_of : Image → ℕ → ℕ
stack_of image page = (page * 4096 - first_stack) / stack_span image

abbrev pub place_of : Image → ℕ → ℕ
place_of image page = (page * 4096 - first_stack) % stack_span image

abbrev pub stack_entry : Image → ℕ → ℕ → Option Entry
stack_entry image space page =
    if nat_le first_stack (page * 4096) && nat_lt (stack_of image page) (stack_count image) then stack_page image space (stack_of image page) (place_of image page) page else None

-- ---- the whole

-- The entry of a page in an address space.
unfoldable pub page_entry : Image → ℕ → ℕ → Option Entry
page_entry image space page =
    first_of (
    code_entry image space page
    ∷ literal_entry image page
    ∷ mailbox_entry image space page
    ∷ thread_entry image space page
    ∷ device_entry image space page
    ∷ section_entry (is_ept image) space page image.sections
    ∷ stack_entry image space page
    ∷ []
    )
