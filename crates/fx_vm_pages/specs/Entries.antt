use Rattle.std.specs.Prelude.{ℕ, ◌+◌, ◌*◌, ◌/◌, ◌%◌, ◌^◌, Bool, ◌==◌, bit_and}
use Rattle.fx_vm_pages.specs.declared.entry.PageFlags.{PageFlags}
use Rattle.fx_vm_pages.specs.declared.entry.Pkru.{Pkru}

-- The flags of a page: writing, fetching instructions, a device's registers.
abbrev pub is_writable : PageFlags → Bool
is_writable flags = bit_and flags.0 1 == 1

abbrev pub is_executable : PageFlags → Bool
is_executable flags = bit_and flags.0 2 == 2

abbrev pub is_device : PageFlags → Bool
is_device flags = bit_and flags.0 4 == 4

-- Bit 2i of PKRU disables accesses to pages of key i, bit 2i + 1 writes to them (SDM volume 3,
-- section 4.6.2).
abbrev pub is_access_disabled : Pkru → ℕ → Bool
is_access_disabled pkru key = pkru.0 / 2 ^ (2 * key) % 2 == 1

abbrev pub is_write_disabled : Pkru → ℕ → Bool
is_write_disabled pkru key = pkru.0 / 2 ^ (2 * key + 1) % 2 == 1
