-- What the bits of a compartment's PKRU value say.
use Rattle.std.specs.Prelude.{◌≡◌, ℕ, ◌+◌, ◌*◌, ◌<◌, ◌≤◌, if◌then◌else◌, nat_eq, List}
use Rattle.std.specs.Int.{bit_at}
use Rattle.fx_image.specs.declared.forms.Section.{Section}
use Rattle.fx_image.specs.Keys.{key_read, key_written, pkru_of}

-- A section's key has two bits: the lower one is clear where the compartment reads a section of that key, the
-- higher one where it writes one.
abbrev pub KeysHaveBits : Type 0
KeysHaveBits =
    (sections : List Section) (scheduler c key : ℕ) → 2 ≤ key → key < 16
    → (bit_at (pkru_of sections scheduler c) (2 * key) ≡ (if key_read sections c key then 0 else 1))
    × (bit_at (pkru_of sections scheduler c) (2 * key + 1)
    ≡ (if key_written sections c key then 0 else 1))

-- Key 0 is open to all, and key 1 for reading; the scheduler alone may write by key 1.
abbrev pub FirstKeysAreOpen : Type 0
FirstKeysAreOpen =
    (sections : List Section) (scheduler c : ℕ) → let v = pkru_of sections scheduler c in
    (bit_at v 0 ≡ 0) × (bit_at v 1 ≡ 0) × (bit_at v 2 ≡ 0) × (bit_at v 3 ≡ (if nat_eq c scheduler then 0 else 1))
