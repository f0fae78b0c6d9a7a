use Rattle.std.specs.Prelude.{ℕ, ◌+◌, ◌-◌, ◌*◌, ◌/◌, ◌%◌, ◌^◌, Bool, ◌&&◌, nat_lt, if◌then◌else◌}
use Rattle.fx_x64_forms.specs.Numbers.{width_bytes}
use Rattle.fx_x64_forms.specs.declared.operand.Width.{Width}
use Rattle.fx_x64_forms.specs.declared.operand.Width.TheVariants.{W8, W16, W32, W64}

-- Memory is a byte for each address below 2 ^ 64; a word that goes past the last address goes on at
-- address 0.
abbrev pub on : ℕ → ℕ → ℕ
on a i = (a + i) % 2 ^ 64

-- The word at an address, its lowest byte first.
unfoldable pub word_at : (ℕ → ℕ) → Width → ℕ → ℕ
word_at m W8 a = m a
word_at m W16 a = m a + 2 ^ 8 * m (on a 1)
word_at m W32 a = m a + 2 ^ 8 * m (on a 1) + 2 ^ 16 * m (on a 2) + 2 ^ 24 * m (on a 3)
word_at m W64 a = m a + 2 ^ 8 * m (on a 1) + 2 ^ 16 * m (on a 2) + 2 ^ 24 * m (on a 3) + 2 ^ 32 * m (on a 4) + 2 ^ 40 * m (on a 5) + 2 ^ 48 * m (on a 6) + 2 ^ 56 * m (on a 7)

-- Byte i of a number, from the lowest.
abbrev pub byte_of : ℕ → ℕ → ℕ
byte_of v i = v / 256 ^ i % 256

-- How far an address is behind another.
abbrev pub behind : ℕ → ℕ → ℕ
behind a k = (k + (2 ^ 64 - a)) % 2 ^ 64

-- Whether an address below 2 ^ 64 is one of the n from another on.
abbrev pub is_among : ℕ → ℕ → ℕ → Bool
is_among a n k = nat_lt k (2 ^ 64) && nat_lt (behind a k) n

-- Memory with the low bytes of a number stored at an address.
unfoldable pub stored : (ℕ → ℕ) → Width → ℕ → ℕ → ℕ → ℕ
stored m w a v = λ k. if is_among a (width_bytes w) k then byte_of v (behind a k) else m k
