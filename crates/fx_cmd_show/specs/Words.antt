-- Names, sets of compartments and keys in the text of an image.
use Rattle.std.specs.Prelude.{ℕ, zero, suc, ◌+◌, ◌*◌, Bool, ◌==◌, ◌&&◌, List, [], ◌++◌, codes}
use Rattle.std.specs.Prelude.{Option, Some, None, if◌then◌else◌}
use Rattle.std.specs.Int.{bit_at}
use Rattle.std.specs.Fmt.{decimal}
use Rattle.fx_image.specs.declared.forms.Comp.{Comp}
use Rattle.fx_image.specs.Keys.{has_member}
use Rattle.fx_cmd_base.specs.Hex.{hex_digits}
use Rattle.fx_cmd_show.specs.Lists.{each_line}

abbrev pub mechanism_word : ℕ → List ℕ
mechanism_word n =
    if n == 0 then codes "call" else if n == 1 then codes "light" else if n == 2 then codes "full"
    else codes "ept"

-- eight digits of a value of 32 bits
unfoldable pub hex_8 : ℕ → List ℕ
hex_8 n = hex_digits 8 n

-- the name of a compartment, if there is one of that number
abbrev pub name_of : Option Comp → List ℕ
name_of None = codes "none"
name_of (Some c) = c.name

-- the name of compartment c behind a space, where the set has it
abbrev pub member_word : ℕ → ℕ → Comp → List ℕ
member_word set c comp = if has_member set c then codes " " ++ comp.name else []

-- the names of a set's compartments
abbrev pub member_words : List Comp → ℕ → List ℕ
member_words comps set = each_line (member_word set) 0 comps

-- A PKRU value disables access to pages of key k by its bit 2k, and writes to them by bit 2k + 1
-- (SDM volume 3, protection keys).
abbrev pub reads_key : ℕ → ℕ → Bool
reads_key pkru k = bit_at pkru (2 * k) == 0

abbrev pub writes_key : ℕ → ℕ → Bool
writes_key pkru k = bit_at pkru (2 * k) == 0 && bit_at pkru (2 * k + 1) == 0

-- a number behind a space, where it is wanted
abbrev pub number_word : Bool → ℕ → List ℕ
number_word wanted k = if wanted then codes " " ++ decimal k else []

-- the keys below a bound that a PKRU value lets read, and those that it lets write
abbrev pub read_keys : ℕ → ℕ → List ℕ
read_keys pkru zero = []
read_keys pkru (suc k) = read_keys pkru k ++ number_word (reads_key pkru k) k

abbrev pub written_keys : ℕ → ℕ → List ℕ
written_keys pkru zero = []
written_keys pkru (suc k) = written_keys pkru k ++ number_word (writes_key pkru k) k

-- the same of all sixteen keys
unfoldable pub read_words : ℕ → List ℕ
read_words pkru = read_keys pkru 16

unfoldable pub written_words : ℕ → List ℕ
written_words pkru = written_keys pkru 16
