use Rattle.std.specs.Prelude.{ℕ, zero, suc, ◌+◌, ◌*◌, ◌^◌, Bool, ◌==◌, nat_lt, ◌&&◌, ◌||◌, if◌then◌else◌, List}
use Rattle.std.specs.List.{list_any}
use Rattle.std.specs.Int.{bit_at}
use Rattle.fx_image.specs.declared.forms.Section.{Section}

-- whether a set of compartments has compartment c
abbrev pub has_member : ℕ → ℕ → Bool
has_member set c = bit_at set c == 1

-- Whether the gates go by protection keys: under light and full. Section i has key 2 + i then, and
-- elsewhere every key is 0.
abbrev pub is_keyed : ℕ → Bool
is_keyed mechanism = mechanism == 1 || mechanism == 2

-- whether some section of key k may be read by compartment c
abbrev pub key_read : List Section → ℕ → ℕ → Bool
key_read sections c k = list_any (λ s. s.key == k && has_member s.readers c) sections

-- whether some section of key k may be written by compartment c
abbrev pub key_written : List Section → ℕ → ℕ → Bool
key_written sections c k = list_any (λ s. s.key == k && has_member s.writers c) sections

-- A key's two bits of the PKRU register (SDM volume 3, protection keys): access disable, which is set
-- where c may not read, and write disable, which is set where c may not write.
abbrev pub key_bits : List Section → ℕ → ℕ → ℕ
key_bits sections c k =
    (if key_read sections c k then 0 else 1) + (if key_written sections c k then 0 else 2)

-- The bits of the sections' keys below k. Keys 0 (code and literals) and 1 (the current thread's word)
-- are no sections'.
unfoldable pub keys_below : List Section → ℕ → ℕ → ℕ
keys_below sections c zero = 0
keys_below sections c (suc k) =
    keys_below sections c k + (if nat_lt k 2 then 0 else 4 ^ k * key_bits sections c k)

-- The PKRU value of compartment c. Key 1 is the current thread's word, which all may read and the
-- scheduler's compartment alone may write.
unfoldable pub pkru_of : List Section → ℕ → ℕ → ℕ
pkru_of sections scheduler c = (if c == scheduler then 0 else 8) + keys_below sections c 16
