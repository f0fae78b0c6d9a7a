use Rattle.std.specs.Prelude.{ℕ, zero, suc, ◌+◌, ◌/◌, ◌%◌, ◌^◌, ◌<◌, Bool, true, false, ◌==◌, ◌&&◌, ◌||◌, not, if◌then◌else◌, Option, Some, None, IfSome, Result, Ok, Err}
use Rattle.fx_vm_pages.specs.Entries.{is_writable, is_executable, is_device, is_access_disabled, is_write_disabled}
use Rattle.fx_vm_pages.specs.declared.entry.Entry.{Entry}
use Rattle.fx_vm_pages.specs.declared.entry.Pkru.{Pkru}
use Rattle.fx_vm_pages.specs.declared.access.Access.{Access}
use Rattle.fx_vm_pages.specs.declared.access.Access.TheVariants.{Read, Write, Fetch}
use Rattle.fx_vm_pages.specs.declared.access.Refusal.{Refusal}
use Rattle.fx_vm_pages.specs.declared.access.Refusal.TheVariants.{Unmapped, Permission, Key}

-- There are sixteen protection keys.
abbrev pub HasKey : Option Entry → Type 0
HasKey entry = IfSome entry (λ e. e.key < 16)

-- The flags allow the access.
abbrev pub is_allowed : Entry → Access → Bool
is_allowed entry Read = true
is_allowed entry Write = is_writable entry.flags
is_allowed entry Fetch = is_executable entry.flags

-- The key disables the access.
abbrev pub is_locked : Pkru → ℕ → Access → Bool
is_locked pkru key Read = is_access_disabled pkru key
is_locked pkru key Write = is_access_disabled pkru key || is_write_disabled pkru key
is_locked pkru key Fetch = false

-- Why a byte of a page is refused, if it is; `form` says whether a device would take an access of
-- this form. The refusals are tried in this order.
abbrev pub byte_refusal : Option Entry → Pkru → Access → Bool → Option Refusal
byte_refusal None pkru access form = Some Unmapped
byte_refusal (Some entry) pkru access form =
    if not (is_allowed entry access) then Some Permission
    else if is_device entry.flags && not form then Some Permission
    else if is_locked pkru entry.key access then Some Key
    else None

abbrev pub verdict : Option Refusal → Result (Unit {0}) Refusal
verdict None = Ok tt
verdict (Some refusal) = Err refusal

-- A byte of a page, by itself.
abbrev pub permitted : Option Entry → Pkru → Access → Result (Unit {0}) Refusal
permitted entry pkru access = verdict (byte_refusal entry pkru access true)

-- A device's registers take 8 bytes at multiples of 8.
abbrev pub is_register_form : ℕ → ℕ → Bool
is_register_form address bytes = (bytes == 8) && (address % 8 == 0)

-- The page of an address; addresses are numbers of 64 bits.
abbrev pub page_of : ℕ → ℕ
page_of address = address / 4096

abbrev pub refused_or : ℕ → Option Refusal → Option (ℕ × Refusal) → Option (ℕ × Refusal)
refused_or address (Some refusal) rest = Some (address, refusal)
refused_or address None rest = rest

-- The first refused byte of n bytes from an address on, with its refusal. Addresses wrap.
abbrev pub refused_from : (ℕ → Option Entry) → Pkru → Access → Bool → ℕ → ℕ → Option (ℕ × Refusal)
refused_from entries pkru access form address zero = None
refused_from entries pkru access form address (suc n) =
    refused_or address (byte_refusal (entries (page_of address)) pkru access form) (refused_from entries pkru access form ((address + 1) % 2 ^ 64) n)

-- What refuses an access of some bytes at an address below 2 ^ 64, if anything does: the address of
-- the first refused byte, with its refusal. A page without an entry is unmapped, whether its
-- addresses are canonical or not. An access that goes past 2 ^ 64 - 1 goes on at 0. A device page
-- refuses all but 8 bytes at a multiple of 8.
unfoldable pub access_check : (ℕ → Option Entry) → Pkru → Access → ℕ → ℕ → Option (ℕ × Refusal)
access_check entries pkru access address bytes =
    refused_from entries pkru access (is_register_form address bytes) address bytes
