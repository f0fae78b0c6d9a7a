-- A field that is read is the field that was written, and what was written is read again.
use Rattle.std.proofs.Common.{◌≡◌, ℕ, suc, ◌+◌, ◌^◌, ◌<◌, ◌≤◌, Bool, true, false, cond, ltb, List, [], ◌∷◌, ◌++◌, length, take, drop, Result, Ok, Err, refl, sym, ap, subst, ◌∙◌, append_assoc, arith, inl, inr}
use Rattle.std.specs.Int.{Width, w16, w32, w64, byte_len, from_le_bytes, to_le_bytes}
use Rattle.std.proofs.lemmas.Bool.{cases_lt, ltb-false, le-ltb}
use Rattle.std.proofs.lemmas.List.{take_at, drop_at, take-append-drop, length-append, length-take, get_or-drop, get_or-take, get_or_past}
use Rattle.std.proofs.lemmas.Nat.{le_bytes_2, le_bytes_4, le_bytes_8, from_le_bytes-to_le_bytes_2, from_le_bytes-to_le_bytes_4, from_le_bytes-to_le_bytes_8}
use Rattle.fx_image.specs.declared.error.ImageError.{ImageError}
use Rattle.fx_image.specs.declared.error.ImageError.TheVariants.{Short}
use Rattle.fx_image.specs.Spelling.{u16_spelling, u32_spelling, u64_spelling, name_spelling, block_spelling}
use Rattle.fx_image.specs.Fits.{IsBytes, IsText}
use Rattle.fx_image.specs.Reading.{◌>>=◌, Read, bytes_at, u8_at, u16_at, u32_at, u64_at, name_at, block_at}

pub IsBytes-drop : (n : ℕ) (bytes : List ℕ) → IsBytes bytes → IsBytes (drop n bytes)
IsBytes-drop n bytes h i = rw get_or-drop (h (n + i))

pub IsBytes-take : (n : ℕ) (bytes : List ℕ) → IsBytes bytes → IsBytes (take n bytes)
IsBytes-take n bytes h i =
    elim (cases_lt i n) [
      | inl lt ↦ rw (get_or-take n bytes i 0 lt) (h i)
      | inr le ↦ rw (get_or_past (take n bytes) i 0 (omega (arith, length-take n bytes))) (omega arith)
    ]

-- the value of a step that did not fail
pub bind_ok : {A B : Type 0} (r : Result A ImageError) (f : A → Result B ImageError) (y : B) → (r >>= f) ≡ Ok y → (x : A) × (r ≡ Ok x) × (f x ≡ Ok y)
bind_ok (Ok x) f y e = (x, refl, e)
bind_ok (Err d) f y e = absurd cc

-- a rule that held
pub rule_ok : {A : Type 0} (b : Bool) (d : ImageError) (r : Result A ImageError) (y : A) → cond b r (Err d) ≡ Ok y → (b ≡ true) × (r ≡ Ok y)
rule_ok true d r y e = (refl, e)
rule_ok false d r y e = absurd cc

-- a refusal that did not come
pub guard_ok : {A : Type 0} (b : Bool) (d : ImageError) (x y : A) → cond b (Err d) (Ok x) ≡ Ok y → (b ≡ false) × (x ≡ y)
guard_ok true d x y e = absurd cc
guard_ok false d x y e = (refl, cc)

abbrev done : {A : Type 0} → A → Result A ImageError
done x = Ok x

pub ok_is : {A : Type 0} (x y : A) → done x ≡ done y → x ≡ y
ok_is x y e = cc

-- what a reader took from the front
pub record Takes (bytes text rest : List ℕ) : Type 0 where
  pub parts : bytes ≡ text ++ rest
  pub rest_fits : IsBytes rest

pub Takes-then : (a x b y c : List ℕ) → Takes a x b → Takes b y c → Takes a (x ++ y) c
Takes-then a x b y c p q = record { parts = p.parts ∙ ap (λ (t : List ℕ). x ++ t) q.parts ∙ sym (append_assoc x y c); rest_fits = q.rest_fits }

-- A reader, the spelling of what it reads, and what that is: the two ways agree.
pub record Laws {X : Type 0} (at : List ℕ → Read X) (spelled : X → List ℕ) (Fits : X → Type 0) : Type 0 where
  pub takes : (bytes : List ℕ) (x : X × List ℕ) → IsBytes bytes → at bytes ≡ Ok x → Takes bytes (spelled x.0) x.1 × Fits x.0
  pub again : (x : X) (rest : List ℕ) → Fits x → at (spelled x ++ rest) ≡ Ok (x, rest)

-- ---- bytes

pub bytes_takes : (n : ℕ) (bytes : List ℕ) (x : List ℕ × List ℕ) → IsBytes bytes → bytes_at n bytes ≡ Ok x → Takes bytes x.0 x.1 × (length x.0 ≡ n) × IsBytes x.0
unfolding bytes_at
bytes_takes n bytes x fits e =
    let g = guard_ok (ltb (length bytes) n) Short (take n bytes, drop n bytes) x e in
    let long : n ≤ length bytes = ltb-false _ _ g.0 in
    let len : length (take n bytes) ≡ n = omega (arith, length-take n bytes) in
    subst (λ (p : List ℕ × List ℕ). Takes bytes p.0 p.1 × (length p.0 ≡ n) × IsBytes p.0) g.1
    (record { parts = sym (take-append-drop n bytes); rest_fits = IsBytes-drop n bytes fits }, len, IsBytes-take n bytes fits)

pub bytes_again : (n : ℕ) (text rest : List ℕ) → length text ≡ n → bytes_at n (text ++ rest) ≡ Ok (text, rest)
unfolding bytes_at
bytes_again n text rest len =
    let long : ltb (length (text ++ rest)) n ≡ false = le-ltb _ _ (omega (arith, length-append text rest)) in
    rw (long, take_at text rest n len, drop_at text rest n len) refl

-- ---- numbers

IsBytes-rest : (b : ℕ) (bytes : List ℕ) → IsBytes (b ∷ bytes) → IsBytes bytes
IsBytes-rest b bytes h i = h (suc i)

u8_takes : (bytes : List ℕ) (x : ℕ × List ℕ) → IsBytes bytes → u8_at bytes ≡ Ok x → Takes bytes (x.0 ∷ []) x.1 × (x.0 < 256)
unfolding u8_at
u8_takes [] x fits e = absurd cc
u8_takes (b ∷ bytes) x fits e =
    subst (λ (p : ℕ × List ℕ). Takes (b ∷ bytes) (p.0 ∷ []) p.1 × (p.0 < 256)) (ok_is (b, bytes) x e)
    (record { parts = refl; rest_fits = IsBytes-rest b bytes fits }, fits 0)

u8_again : (n : ℕ) (rest : List ℕ) → u8_at (n ∷ rest) ≡ Ok (n, rest)
unfolding u8_at
u8_again n rest = refl

pub u8_laws : Laws u8_at (λ n. n ∷ []) (λ n. n < 256)
u8_laws = record { takes = u8_takes; again = λ n rest h. u8_again n rest }

pub record IsWide (w : Width) (limit : ℕ) : Type 0 where
  pub len : (n : ℕ) → length (to_le_bytes w n) ≡ byte_len w
  pub back : (bytes : List ℕ) → length bytes ≡ byte_len w → IsBytes bytes → to_le_bytes w (from_le_bytes w bytes) ≡ bytes
  pub again : (n : ℕ) → n < limit → from_le_bytes w (to_le_bytes w n) ≡ n
  pub below : (bytes : List ℕ) → IsBytes bytes → from_le_bytes w bytes < limit

wide16 : IsWide w16 (2 ^ 16)
wide16 = record {
  len = λ n. refl;
  back = λ bytes len fits. le_bytes_2 bytes _ len fits refl;
  again = λ n lt. from_le_bytes-to_le_bytes_2 n lt;
  below = λ bytes fits. omega (arith, fits 0, fits 1);
}

wide32 : IsWide w32 (2 ^ 32)
wide32 = record {
  len = λ n. refl;
  back = λ bytes len fits. le_bytes_4 bytes _ len fits refl;
  again = λ n lt. from_le_bytes-to_le_bytes_4 n lt;
  below = λ bytes fits. omega (arith, fits 0, fits 1, fits 2, fits 3);
}

wide64 : IsWide w64 (2 ^ 64)
wide64 = record {
  len = λ n. refl;
  back = λ bytes len fits. le_bytes_8 bytes _ len fits refl;
  again = λ n lt. from_le_bytes-to_le_bytes_8 n lt;
  below = λ bytes fits. omega (arith, fits 0, fits 1, fits 2, fits 3, fits 4, fits 5, fits 6, fits 7);
}

abbrev number_at : Width → List ℕ → Read ℕ
number_at w bytes = bytes_at (byte_len w) bytes >>= λ x. Ok (from_le_bytes w x.0, x.1)

number_laws : (w : Width) (limit : ℕ) → IsWide w limit → Laws (number_at w) (to_le_bytes w) (λ n. n < limit)
number_laws w limit wide = record {
  takes = λ bytes x fits e.
      let b = bind_ok (bytes_at (byte_len w) bytes) (λ y. Ok (from_le_bytes w y.0, y.1)) x e in
      let t = bytes_takes (byte_len w) bytes b.0 fits b.1 in
      let same : to_le_bytes w (from_le_bytes w b.0.0) ≡ b.0.0 = wide.back b.0.0 t.1 t.2 in
      let taken : Takes bytes (to_le_bytes w (from_le_bytes w b.0.0)) b.0.1 = subst (λ (y : List ℕ). Takes bytes y b.0.1) (sym same) t.0 in
      subst (λ (y : ℕ × List ℕ). Takes bytes (to_le_bytes w y.0) y.1 × (y.0 < limit)) (ok_is (from_le_bytes w b.0.0, b.0.1) x b.2) (taken, wide.below b.0.0 t.2);
  again = λ n rest lt. rw (bytes_again (byte_len w) (to_le_bytes w n) rest (wide.len n), wide.again n lt) refl;
}

pub u16_laws : Laws u16_at u16_spelling (λ n. n < 2 ^ 16)
unfolding u16_at u16_spelling
u16_laws = record { takes = (number_laws w16 (2 ^ 16) wide16).takes; again = (number_laws w16 (2 ^ 16) wide16).again }

pub u32_laws : Laws u32_at u32_spelling (λ n. n < 2 ^ 32)
unfolding u32_at u32_spelling
u32_laws = record { takes = (number_laws w32 (2 ^ 32) wide32).takes; again = (number_laws w32 (2 ^ 32) wide32).again }

pub u64_laws : Laws u64_at u64_spelling (λ n. n < 2 ^ 64)
unfolding u64_at u64_spelling
u64_laws = record { takes = (number_laws w64 (2 ^ 64) wide64).takes; again = (number_laws w64 (2 ^ 64) wide64).again }

-- ---- one part after another

-- A reader of what is left of a value of which some is known.
pub record Part {X : Type 0} (at : List ℕ → Read X) (Known : X → Type 0) (spelled : X → List ℕ) (Fits : X → Type 0) : Type 0 where
  pub takes : (bytes : List ℕ) (x : X × List ℕ) → IsBytes bytes → at bytes ≡ Ok x → Known x.0 × Takes bytes (spelled x.0) x.1 × Fits x.0
  pub again : (x : X) (rest : List ℕ) → Known x → Fits x → at (spelled x ++ rest) ≡ Ok (x, rest)

-- a field, and then what is left
pub field_then : {A X : Type 0} {at : List ℕ → Read A} {spelled : A → List ℕ} {FitsA : A → Type 0} → Laws at spelled FitsA → (more : A → List ℕ → Read X) (field : X → A) (Known : X → Type 0) (others : X → List ℕ) (Fits : X → Type 0)
    → ((a : A) → FitsA a → Part (more a) (λ x. Known x × (field x ≡ a)) others Fits)
    → Part (λ bytes. at bytes >>= λ a. more a.0 a.1) Known (λ x. spelled (field x) ++ others x) (λ x. FitsA (field x) × Fits x)
field_then {A} {X} {at} {spelled} {FitsA} laws more field Known others Fits parts = record {
  takes = λ bytes x fits e.
      let b = bind_ok (at bytes) (λ a. more a.0 a.1) x e in
      let first = laws.takes bytes b.0 fits b.1 in
      let second = (parts b.0.0 first.1).takes b.0.1 x first.0.rest_fits b.2 in
      let both = Takes-then bytes (spelled b.0.0) b.0.1 (others x.0) x.1 first.0 second.1 in
      let is : field x.0 ≡ b.0.0 = second.0.1 in
      (second.0.0, subst (λ (a : A). Takes bytes (spelled a ++ others x.0) x.1) (sym is) both, (subst FitsA (sym is) first.1, second.2));
  again = λ x rest known fits.
      ap (λ (t : List ℕ). at t >>= λ a. more a.0 a.1) (append_assoc (spelled (field x)) (others x) rest)
      ∙ ap (λ (r : Read A). r >>= λ a. more a.0 a.1) (laws.again (field x) (others x ++ rest) fits.0)
      ∙ (parts (field x) fits.0).again x rest (known, refl) fits.1;
}

-- the last field
pub field_last : {A X : Type 0} {at : List ℕ → Read A} {spelled : A → List ℕ} {FitsA : A → Type 0} → Laws at spelled FitsA → (made : A → X) (field : X → A) (Known : X → Type 0)
    → ((a : A) → Known (made a) × (field (made a) ≡ a)) → ((x : X) → Known x → made (field x) ≡ x)
    → Part (λ bytes. at bytes >>= λ a. Ok (made a.0, a.1)) Known (λ x. spelled (field x)) (λ x. FitsA (field x))
field_last {A} {X} {at} {spelled} {FitsA} laws made field Known made_is is_made = record {
  takes = λ bytes x fits e.
      let b = bind_ok (at bytes) (λ a. Ok (made a.0, a.1)) x e in
      let first = laws.takes bytes b.0 fits b.1 in
      let known = made_is b.0.0 in
      let taken : Takes bytes (spelled (field (made b.0.0))) b.0.1 = subst (λ (a : A). Takes bytes (spelled a) b.0.1) (sym known.1) first.0 in
      subst (λ (y : X × List ℕ). Known y.0 × Takes bytes (spelled (field y.0)) y.1 × FitsA (field y.0)) (ok_is (made b.0.0, b.0.1) x b.2) (known.0, taken, subst FitsA (sym known.1) first.1);
  again = λ x rest known fits.
      ap (λ (r : Read A). r >>= λ a. Ok (made a.0, a.1)) (laws.again (field x) rest fits)
      ∙ ap (λ (y : X). done (y, rest)) (is_made x known);
}

-- a part of which nothing is known beforehand
pub whole : {X : Type 0} (at : List ℕ → Read X) (spelled : X → List ℕ) (Fits : X → Type 0) → Part at (λ x. Unit {0}) spelled Fits → Laws at spelled Fits
whole at spelled Fits part = record {
  takes = λ bytes x fits e. let t = part.takes bytes x fits e in (t.1, t.2);
  again = λ x rest fits. part.again x rest tt fits;
}

-- a reader whose value meets a rule
pub ruled : {X : Type 0} (at : List ℕ → Read X) (spelled : X → List ℕ) (Fits : X → Type 0) (rule : X → Bool) (refusal : ImageError) → Laws at spelled Fits
    → Laws (λ bytes. at bytes >>= λ x. cond (rule x.0) (Ok x) (Err refusal)) spelled (λ x. Fits x × (rule x ≡ true))
ruled {X} at spelled Fits rule refusal laws = record {
  takes = λ bytes x fits e.
      let b = bind_ok (at bytes) (λ y. cond (rule y.0) (Ok y) (Err refusal)) x e in
      let g = rule_ok (rule b.0.0) refusal (Ok b.0) x b.2 in
      let t = laws.takes bytes b.0 fits b.1 in
      subst (λ (y : X × List ℕ). Takes bytes (spelled y.0) y.1 × (Fits y.0 × (rule y.0 ≡ true))) (ok_is b.0 x g.1) (t.0, (t.1, g.0));
  again = λ x rest fits.
      ap (λ (r : Read X). r >>= λ y. cond (rule y.0) (Ok y) (Err refusal)) (laws.again x rest fits.0)
      ∙ ap (λ (b : Bool). cond b (done (x, rest)) (Err refusal)) fits.1;
}

-- ---- names and blocks

-- bytes behind their length
counted : (at : List ℕ → Read ℕ) (spelled : ℕ → List ℕ) (limit : ℕ) → Laws at spelled (λ n. n < limit)
    → Laws (λ bytes. at bytes >>= λ n. bytes_at n.0 n.1) (λ text. spelled (length text) ++ text) (IsText limit)
counted at spelled limit laws = record {
  takes = λ bytes x fits e.
      let b = bind_ok (at bytes) (λ n. bytes_at n.0 n.1) x e in
      let first = laws.takes bytes b.0 fits b.1 in
      let second = bytes_takes b.0.0 b.0.1 x first.0.rest_fits b.2 in
      let both = Takes-then bytes (spelled b.0.0) b.0.1 x.0 x.1 first.0 second.0 in
      (subst (λ (n : ℕ). Takes bytes (spelled n ++ x.0) x.1) (sym second.1) both, (omega (arith, second.1, first.1), second.2));
  again = λ text rest fits.
      ap (λ (t : List ℕ). at t >>= λ n. bytes_at n.0 n.1) (append_assoc (spelled (length text)) text rest)
      ∙ ap (λ (r : Read ℕ). r >>= λ n. bytes_at n.0 n.1) (laws.again (length text) (text ++ rest) fits.0)
      ∙ bytes_again (length text) text rest refl;
}

pub name_laws : Laws name_at name_spelling (IsText 256)
unfolding name_at
name_laws = let laws = counted u8_at (λ n. n ∷ []) 256 u8_laws in record { takes = laws.takes; again = laws.again }

pub block_laws : Laws block_at block_spelling (IsText (2 ^ 32))
unfolding block_at
block_laws = let laws = counted u32_at u32_spelling (2 ^ 32) u32_laws in record { takes = laws.takes; again = laws.again }
