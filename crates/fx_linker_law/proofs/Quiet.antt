-- Bytes in which WRPKRU's don't stand.
use Rattle.std.proofs.Common.{◌≡◌, ℕ, ◌+◌, Bool, true, false, not, ◌&&◌, nat_eq, List, [], ◌∷◌, ◌++◌}
use Rattle.std.proofs.Common.{Option, Some, if◌then◌else◌, refl}
use Rattle.std.specs.List.{starts_with}
use Rattle.std.proofs.lemmas.Bool.{and_from, and_parts, and_left, and_right, not-true, not_from_false}
use Rattle.fx_image.specs.declared.forms.Stub.{Stub}
use Rattle.fx_image.specs.Rules.{is_key_sequence, is_listed, unlisted_from, has_none}
use Rattle.fx_linker_law.specs.Premises.{is_quiet}

-- whether WRPKRU's bytes stand nowhere
abbrev pub is_clean : List ℕ → Bool
is_clean [] = true
is_clean (b ∷ bs) = not (is_key_sequence (b ∷ bs) 0) && is_clean bs

-- whether bytes don't go on with the rest of WRPKRU's
abbrev pub is_other : List ℕ → Bool
is_other bytes =
    not (starts_with nat_eq bytes (0x01 ∷ 0xef ∷ [])) && not (starts_with nat_eq bytes (0xef ∷ []))

abbrev pub Quiet : List ℕ → Type 0
Quiet bytes = (is_clean bytes ≡ true) × (is_other bytes ≡ true)

-- ---- what the test of places says

here : (s : Bool) (k : ℕ) (rest : Option ℕ)
    → has_none (if s && not (is_listed [] k) then Some k else rest) ≡ true
    → (s ≡ false) × (has_none rest ≡ true)
here true k rest h = absurd cc
here false k rest h = (refl, h)

cleaned : (k : ℕ) (bytes : List ℕ) → has_none (unlisted_from [] k bytes) ≡ true
    → is_clean bytes ≡ true
cleaned k [] h = refl
cleaned k (b ∷ bs) h =
    let parts = here (is_key_sequence (b ∷ bs) 0) k (unlisted_from [] (k + 1) bs) h in
    and_from (not (is_key_sequence (b ∷ bs) 0)) (is_clean bs)
    (not_from_false (is_key_sequence (b ∷ bs) 0) parts.0) (cleaned (k + 1) bs parts.1)

past : (s l : Bool) (k : ℕ) (rest : Option ℕ) → s ≡ false → has_none rest ≡ true
    → has_none (if s && l then Some k else rest) ≡ true
past true l k rest e h = absurd cc
past false l k rest e h = h

-- there is none that no stub lists
pub unlisted : (stubs : List Stub) (k : ℕ) (bytes : List ℕ) → is_clean bytes ≡ true
    → has_none (unlisted_from stubs k bytes) ≡ true
unlisted stubs k [] h = refl
unlisted stubs k (b ∷ bs) h =
    let parts = and_parts (not (is_key_sequence (b ∷ bs) 0)) (is_clean bs) h in
    past (is_key_sequence (b ∷ bs) 0) (not (is_listed stubs k)) k (unlisted_from stubs (k + 1) bs)
    (not-true (is_key_sequence (b ∷ bs) 0) parts.0) (unlisted stubs (k + 1) bs parts.1)

pub quiet_is : (bytes : List ℕ) → is_quiet bytes ≡ true → Quiet bytes
quiet_is bytes h =
    let outer = and_parts (has_none (unlisted_from [] 0 bytes) && not (starts_with nat_eq bytes (0x01 ∷ 0xef ∷ []))) (not (starts_with nat_eq bytes (0xef ∷ []))) h in
    let inner = and_parts (has_none (unlisted_from [] 0 bytes)) (not (starts_with nat_eq bytes (0x01 ∷ 0xef ∷ []))) outer.0 in
    (cleaned 0 bytes inner.0, and_from (not (starts_with nat_eq bytes (0x01 ∷ 0xef ∷ []))) (not (starts_with nat_eq bytes (0xef ∷ []))) inner.1 outer.1)

-- ---- one behind another

others : (bytes : List ℕ) → is_other bytes ≡ true
    → (starts_with nat_eq bytes (0x01 ∷ 0xef ∷ []) ≡ false) × (starts_with nat_eq bytes (0xef ∷ []) ≡ false)
others bytes h =
    let parts = and_parts (not (starts_with nat_eq bytes (0x01 ∷ 0xef ∷ []))) (not (starts_with nat_eq bytes (0xef ∷ []))) h in
    (not-true (starts_with nat_eq bytes (0x01 ∷ 0xef ∷ [])) parts.0, not-true (starts_with nat_eq bytes (0xef ∷ [])) parts.1)

-- where the first place has none, it has none before other bytes
first_of : (x : ℕ) (xs ys : List ℕ) → is_key_sequence (x ∷ xs) 0 ≡ false → is_other ys ≡ true
    → is_key_sequence (x ∷ (xs ++ ys)) 0 ≡ false
first_of x [] ys none other =
    and_right (nat_eq 0x0f x) (starts_with nat_eq ys (0x01 ∷ 0xef ∷ [])) (others ys other).0
first_of x (a ∷ []) ys none other =
    and_right (nat_eq 0x0f x) (nat_eq 0x01 a && starts_with nat_eq ys (0xef ∷ []))
    (and_right (nat_eq 0x01 a) (starts_with nat_eq ys (0xef ∷ [])) (others ys other).1)
first_of x (a ∷ b ∷ xs) ys none other = none

clean_append : (xs ys : List ℕ) → is_clean xs ≡ true → is_clean ys ≡ true → is_other ys ≡ true
    → is_clean (xs ++ ys) ≡ true
clean_append [] ys first second other = second
clean_append (x ∷ xs) ys first second other =
    let parts = and_parts (not (is_key_sequence (x ∷ xs) 0)) (is_clean xs) first in
    and_from (not (is_key_sequence (x ∷ (xs ++ ys)) 0)) (is_clean (xs ++ ys))
    (not_from_false (is_key_sequence (x ∷ (xs ++ ys)) 0) (first_of x xs ys (not-true (is_key_sequence (x ∷ xs) 0) parts.0) other))
    (clean_append xs ys parts.1 second other)

other_append : (xs ys : List ℕ) → is_other xs ≡ true → is_other ys ≡ true → is_other (xs ++ ys) ≡ true
other_append [] ys first second = second
other_append (x ∷ []) ys first second =
    and_from (not (starts_with nat_eq (x ∷ ys) (0x01 ∷ 0xef ∷ []))) (not (starts_with nat_eq (x ∷ []) (0xef ∷ [])))
    (not_from_false (starts_with nat_eq (x ∷ ys) (0x01 ∷ 0xef ∷ [])) (and_right (nat_eq 0x01 x) (starts_with nat_eq ys (0xef ∷ [])) (others ys second).1))
    (not_from_false (starts_with nat_eq (x ∷ []) (0xef ∷ [])) (others (x ∷ []) first).1)
other_append (x ∷ a ∷ xs) ys first second = first

pub quiet_nil : Quiet []
quiet_nil = (refl, refl)

pub quiet_append : (xs ys : List ℕ) → Quiet xs → Quiet ys → Quiet (xs ++ ys)
quiet_append xs ys first second =
    (clean_append xs ys first.0 second.0 second.1, other_append xs ys first.1 second.1)

-- ---- four bytes of which the upper two aren't WRPKRU's last

pub four_clean : (a b c d : ℕ) → nat_eq 0xef c ≡ false → nat_eq 0xef d ≡ false
    → is_clean (a ∷ b ∷ c ∷ d ∷ []) ≡ true
four_clean a b c d third last =
    and_from (not (is_key_sequence (a ∷ b ∷ c ∷ d ∷ []) 0)) (is_clean (b ∷ c ∷ d ∷ []))
    (not_from_false (is_key_sequence (a ∷ b ∷ c ∷ d ∷ []) 0)
    (and_right (nat_eq 0x0f a) (nat_eq 0x01 b && (nat_eq 0xef c && true)) (and_right (nat_eq 0x01 b) (nat_eq 0xef c && true) (and_left (nat_eq 0xef c) true third))))
    (and_from (not (is_key_sequence (b ∷ c ∷ d ∷ []) 0)) (is_clean (c ∷ d ∷ []))
    (not_from_false (is_key_sequence (b ∷ c ∷ d ∷ []) 0)
    (and_right (nat_eq 0x0f b) (nat_eq 0x01 c && (nat_eq 0xef d && true)) (and_right (nat_eq 0x01 c) (nat_eq 0xef d && true) (and_left (nat_eq 0xef d) true last))))
    (and_from (not (is_key_sequence (c ∷ d ∷ []) 0)) (is_clean (d ∷ []))
    (not_from_false (is_key_sequence (c ∷ d ∷ []) 0) (and_right (nat_eq 0x0f c) (nat_eq 0x01 d && false) (and_right (nat_eq 0x01 d) false refl)))
    (and_from (not (is_key_sequence (d ∷ []) 0)) true (not_from_false (is_key_sequence (d ∷ []) 0) (and_right (nat_eq 0x0f d) false refl)) refl)))
