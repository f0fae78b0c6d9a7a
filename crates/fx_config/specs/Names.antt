-- Names and numbers that a configuration may have, and lists in which nothing stands twice.
use Rattle.std.specs.Prelude.{ℕ, ℤ, pos, negsuc, Bool, true, ◌&&◌, ◌||◌, not, nat_le, ◌==◌, List, [], ◌∷◌, length, slice_index, Option, Some, None, if◌then◌else◌}
use Rattle.std.specs.Char.{is_ascii_alphabetic, is_ascii_alphanumeric}
use Rattle.std.specs.Int.{is_in_range}
use Rattle.std.specs.List.{list_all, list_any}

-- The shape of a C identifier (C11, 6.4.2.1), keywords included, of at most 63 bytes: an underscore is 95.
abbrev pub may_begin : ℕ → Bool
may_begin byte = is_ascii_alphabetic byte || byte == 95

abbrev pub may_follow : ℕ → Bool
may_follow byte = is_ascii_alphanumeric byte || byte == 95

abbrev pub is_c_name : List ℕ → Bool
is_c_name text = may_begin (slice_index text 0) && nat_le (length text) 63 && list_all may_follow text

-- a file name may be any text but the empty one
abbrev pub is_file_name : List ℕ → Bool
is_file_name text = not (length text == 0)

-- the number, if it is from low to high
abbrev pub number_in : ℕ → ℕ → ℤ → Option ℕ
number_in low high (pos n) = if is_in_range low high n then Some n else None
number_in low high (negsuc n) = None

-- no element is equal to a later one
abbrev pub all_differ : {A : Type 0} → (A → A → Bool) → List A → Bool
all_differ eq [] = true
all_differ eq (x ∷ xs) = not (list_any (eq x) xs) && all_differ eq xs
