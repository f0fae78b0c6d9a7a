-- The grammar and the reading agree: tokens and numbers.
use Rattle.std.proofs.Common.{◌≡◌, ◌≢◌, ℕ, ◌+◌, ◌-◌, ◌*◌, ◌/◌, ◌%◌, ◌<◌, ◌≤◌, List, [], ◌∷◌, ◌++◌, length, get_or, Option, Some, None, Bool, true, false, cond, ◌&&◌, ◌⊎◌, inl, inr, refl, ap, sym, ◌∙◌, subst, arith, append_assoc, codes, eqb, ltb, eq-eqb}
use Rattle.std.specs.List.{list_all}
use Rattle.std.proofs.lemmas.Bool.{cond-true, cond-false, eqb-true, false_from_ne_true}
use borrow.Author.Tests.{ltb-true, ltb-false}
use Rattle.std.proofs.lemmas.Bool.Decides.{nat_tests}
use Rattle.std.proofs.lemmas.Option.{same_Some, some_pair_parts}
use Rattle.fx_early_source.specs.Grammar.{is_space, IsSpace, decimal}
use Rattle.fx_early_source.specs.Reading.{skip, strip, after, digits, is_digit, value, number, ◌>>=◌}
use Rattle.fx_early_source.proofs.Fronts.{strip-same, strip-sound, digits-all, digit-bounds}

-- both tests pass
both : (a b : Bool) → a ≡ true → b ≡ true → (a && b) ≡ true
both true true p q = refl
both true false p q = q
both false b p q = cc

-- the first of two tests that both pass
pub first_of : (a b : Bool) → (a && b) ≡ true → a ≡ true
first_of true b h = refl
first_of false b h = h

second_of : (a b : Bool) → (a && b) ≡ true → b ≡ true
second_of true b h = h
second_of false b h = cc

-- a step that led to a value had one
pub bind_some : {A B : Type 0} (o : Option A) (f : A → Option B) (y : B) → (o >>= f) ≡ Some y → (x : A) × (o ≡ Some x) × (f x ≡ Some y)
bind_some None f y found = cc
bind_some (Some x) f y found = (x, refl, found)

-- which way a test went
pub which : {A : Type 0} (test : Bool) (x y z : A) → cond test x y ≡ z → ((test ≡ true) × (x ≡ z)) ⊎ ((test ≡ false) × (y ≡ z))
which true x y z h = inl (refl, h)
which false x y z h = inr (refl, h)

-- what is skipped is white space
pub skip-sound : (text : List ℕ) → (space : List ℕ) × IsSpace space × (text ≡ space ++ skip text)
skip-sound [] = ([], refl, refl)
skip-sound (byte ∷ text) = by_test byte text (is_space byte) refl (skip-sound text) where
  by_test : (byte : ℕ) (text : List ℕ) (test : Bool) → is_space byte ≡ test → (space : List ℕ) × IsSpace space × (text ≡ space ++ skip text) → (space : List ℕ) × IsSpace space × (byte ∷ text ≡ space ++ cond test (skip text) (byte ∷ text))
  by_test byte text true white rest = (byte ∷ rest.0, both (is_space byte) (list_all is_space rest.0) white rest.1, ap (λ t. byte ∷ t) rest.2)
  by_test byte text false other rest = ([], refl, refl)

-- white space is skipped
pub skip-space : (space text : List ℕ) → IsSpace space → skip (space ++ text) ≡ skip text
skip-space [] text white = refl
skip-space (byte ∷ space) text white =
    cond-true (is_space byte) (skip (space ++ text)) (byte ∷ space ++ text) (first_of (is_space byte) (list_all is_space space) white) ∙ skip-space space text (second_of (is_space byte) (list_all is_space space) white)

pub after-sound : (token text rest : List ℕ) → after token text ≡ Some rest → (space : List ℕ) × IsSpace space × (text ≡ space ++ token ++ rest)
after-sound token text rest found =
    let s = skip-sound text in
    (s.0, s.1, s.2 ∙ ap (λ t. s.0 ++ t) (strip-sound token (skip text) rest found) ∙ sym (append_assoc s.0 token rest))

pub after-complete : (token space rest text : List ℕ) → IsSpace space → skip (token ++ rest) ≡ token ++ rest → text ≡ space ++ token ++ rest → after token text ≡ Some rest
after-complete token space rest text white whole is =
    ap (after token) (is ∙ append_assoc space token rest) ∙ ap (strip token) (skip-space space (token ++ rest) white ∙ whole) ∙ strip-same token rest

-- another token stands there
pub after-other : (token other space rest text : List ℕ) → IsSpace space → strip token (skip (other ++ rest)) ≡ None → text ≡ space ++ other ++ rest → after token text ≡ None
after-other token other space rest text white none is =
    ap (after token) (is ∙ append_assoc space other rest) ∙ ap (strip token) (skip-space space (other ++ rest) white) ∙ none

-- ---- numbers

eqb-false-ne : (a b : ℕ) → eqb a b ≡ false → a ≢ b
eqb-false-ne a b h = λ same. let k : eqb a b ≡ true = eq-eqb a b same in cc

digits-join : (text : List ℕ) → text ≡ (digits text).0 ++ (digits text).1
digits-join [] = refl
digits-join (byte ∷ text) = by_test byte text (is_digit byte) (digits-join text) where
  by_test : (byte : ℕ) (text : List ℕ) (test : Bool) → text ≡ (digits text).0 ++ (digits text).1
      → byte ∷ text ≡ (cond {A = List ℕ × List ℕ} test (byte ∷ (digits text).0, (digits text).1) ([], byte ∷ text)).0 ++ (cond {A = List ℕ × List ℕ} test (byte ∷ (digits text).0, (digits text).1) ([], byte ∷ text)).1
  by_test byte text true join = ap (λ t. byte ∷ t) join
  by_test byte text false join = refl

list_of_one : (ds : List ℕ) → length ds ≡ 1 → ds ≡ get_or ds 0 0 ∷ []
list_of_one [] h = absurd (omega arith)
list_of_one (a ∷ []) h = refl
list_of_one (a ∷ b ∷ more) h = absurd (omega arith)

list_of_two : (ds : List ℕ) → length ds ≡ 2 → ds ≡ get_or ds 0 0 ∷ get_or ds 1 0 ∷ []
list_of_two [] h = absurd (omega arith)
list_of_two (a ∷ []) h = absurd (omega arith)
list_of_two (a ∷ b ∷ []) h = refl
list_of_two (a ∷ b ∷ c ∷ more) h = absurd (omega arith)

list_of_three : (ds : List ℕ) → length ds ≡ 3 → ds ≡ get_or ds 0 0 ∷ get_or ds 1 0 ∷ get_or ds 2 0 ∷ []
list_of_three [] h = absurd (omega arith)
list_of_three (a ∷ []) h = absurd (omega arith)
list_of_three (a ∷ b ∷ []) h = absurd (omega arith)
list_of_three (a ∷ b ∷ c ∷ []) h = refl
list_of_three (a ∷ b ∷ c ∷ d ∷ more) h = absurd (omega arith)

-- the digits of a number by its length
decimal-one : (n : ℕ) → n < 10 → decimal n ≡ (48 + n) ∷ []
decimal-one n h = grind (arith, nat_tests)

decimal-two : (n : ℕ) → 10 ≤ n → n < 100 → decimal n ≡ (48 + n / 10) ∷ (48 + n % 10) ∷ []
decimal-two n low high = grind (arith, nat_tests)

decimal-three : (n : ℕ) → 100 ≤ n → decimal n ≡ (48 + n / 100) ∷ (48 + n / 10 % 10) ∷ (48 + n % 10) ∷ []
decimal-three n low = grind (arith, nat_tests)

one_cell : (a x : ℕ) → a ≡ x → a ∷ [] ≡ x ∷ []
one_cell a x p = ap (λ d. d ∷ []) p

two_cells : (a b x y : ℕ) → a ≡ x → b ≡ y → a ∷ b ∷ [] ≡ x ∷ y ∷ []
two_cells a b x y p q = cc

three_cells : (a b c x y z : ℕ) → a ≡ x → b ≡ y → c ≡ z → a ∷ b ∷ c ∷ [] ≡ x ∷ y ∷ z ∷ []
three_cells a b c x y z p q r = cc

abbrev AreDigits : List ℕ → Type 0
AreDigits ds = (i : ℕ) → i < length ds → is_digit (get_or ds i 0) ≡ true

-- the digit at a place is from 48 to 57
place : (ds : List ℕ) → AreDigits ds → (i : ℕ) → i < length ds → (48 ≤ get_or ds i 0) × (get_or ds i 0 < 58)
place ds all i h = digit-bounds (get_or ds i 0) (all i h)

value-one : (ds : List ℕ) (n : ℕ) → AreDigits ds → (eqb (length ds) 1 ≡ true) × (Some (get_or ds 0 0 - 48) ≡ Some n) → (ds ≡ decimal n) × (n < 256)
value-one ds n all found =
    let len : length ds ≡ 1 = eqb-true (length ds) 1 found.0 in
    let is : get_or ds 0 0 - 48 ≡ n = same_Some _ _ found.1 in
    let a : (48 ≤ get_or ds 0 0) × (get_or ds 0 0 < 58) = place ds all 0 (omega arith) in
    (list_of_one ds len ∙ one_cell (get_or ds 0 0) (48 + n) (omega arith) ∙ sym (decimal-one n (omega arith)), omega arith)

value-two : (ds : List ℕ) (n : ℕ) → AreDigits ds → eqb (get_or ds 0 0) 48 ≡ false → (eqb (length ds) 2 ≡ true) × (Some (10 * (get_or ds 0 0 - 48) + (get_or ds 1 0 - 48)) ≡ Some n) → (ds ≡ decimal n) × (n < 256)
value-two ds n all lead found =
    let len : length ds ≡ 2 = eqb-true (length ds) 2 found.0 in
    let is : 10 * (get_or ds 0 0 - 48) + (get_or ds 1 0 - 48) ≡ n = same_Some _ _ found.1 in
    let first : get_or ds 0 0 ≢ 48 = eqb-false-ne (get_or ds 0 0) 48 lead in
    let a : (48 ≤ get_or ds 0 0) × (get_or ds 0 0 < 58) = place ds all 0 (omega arith) in
    let b : (48 ≤ get_or ds 1 0) × (get_or ds 1 0 < 58) = place ds all 1 (omega arith) in
    (list_of_two ds len ∙ two_cells (get_or ds 0 0) (get_or ds 1 0) (48 + n / 10) (48 + n % 10) (omega arith) (omega arith) ∙ sym (decimal-two n (omega arith) (omega arith)), omega arith)

value-three : (ds : List ℕ) (n : ℕ) → AreDigits ds → eqb (get_or ds 0 0) 48 ≡ false
    → (((eqb (length ds) 3) && ltb (100 * (get_or ds 0 0 - 48) + 10 * (get_or ds 1 0 - 48) + (get_or ds 2 0 - 48)) 256) ≡ true) × (Some (100 * (get_or ds 0 0 - 48) + 10 * (get_or ds 1 0 - 48) + (get_or ds 2 0 - 48)) ≡ Some n)
    → (ds ≡ decimal n) × (n < 256)
value-three ds n all lead found =
    let len : length ds ≡ 3 = eqb-true (length ds) 3 (first_of _ _ found.0) in
    let is : 100 * (get_or ds 0 0 - 48) + 10 * (get_or ds 1 0 - 48) + (get_or ds 2 0 - 48) ≡ n = same_Some _ _ found.1 in
    let small : 100 * (get_or ds 0 0 - 48) + 10 * (get_or ds 1 0 - 48) + (get_or ds 2 0 - 48) < 256 = ltb-true _ _ (second_of (eqb (length ds) 3) _ found.0) in
    let first : get_or ds 0 0 ≢ 48 = eqb-false-ne (get_or ds 0 0) 48 lead in
    let a : (48 ≤ get_or ds 0 0) × (get_or ds 0 0 < 58) = place ds all 0 (omega arith) in
    let b : (48 ≤ get_or ds 1 0) × (get_or ds 1 0 < 58) = place ds all 1 (omega arith) in
    let c : (48 ≤ get_or ds 2 0) × (get_or ds 2 0 < 58) = place ds all 2 (omega arith) in
    (list_of_three ds len ∙ three_cells (get_or ds 0 0) (get_or ds 1 0) (get_or ds 2 0) (48 + n / 100) (48 + n / 10 % 10) (48 + n % 10) (omega arith) (omega arith) (omega arith) ∙ sym (decimal-three n (omega arith)), omega arith)

none_found : {P : Type 0} (n : ℕ) → ◌≡◌ {A = Option ℕ} None (Some n) → P
none_found n h = cc

-- digits that have a value are its digits
pub value-sound : (ds : List ℕ) (n : ℕ) → AreDigits ds → value ds ≡ Some n → (ds ≡ decimal n) × (n < 256)
unfolding value
value-sound ds n all found =
    elim (which (eqb (length ds) 1) _ _ (Some n) found) [
      | inl one ↦ value-one ds n all one
      | inr more ↦ elim (which (eqb (get_or ds 0 0) 48) _ _ (Some n) more.1) [
        | inl zero_first ↦ none_found n zero_first.1
        | inr lead ↦ elim (which (eqb (length ds) 2) _ _ (Some n) lead.1) [
          | inl two ↦ value-two ds n all lead.0 two
          | inr longer ↦ elim (which (eqb (length ds) 3 && ltb (100 * (get_or ds 0 0 - 48) + 10 * (get_or ds 1 0 - 48) + (get_or ds 2 0 - 48)) 256) _ _ (Some n) longer.1) [
            | inl three ↦ value-three ds n all lead.0 three
            | inr long ↦ none_found n long.1
          ]
        ]
      ]
    ]

pub number-sound : (text : List ℕ) (n : ℕ) (rest : List ℕ) → number text ≡ Some (n, rest) → (space : List ℕ) × IsSpace space × (text ≡ space ++ decimal n ++ rest) × (n < 256)
unfolding number
number-sound text n rest found =
    let v = bind_some (value (digits (skip text)).0) (λ m. Some (m, (digits (skip text)).1)) (n, rest) found in
    let parts : (v.0 ≡ n) × ((digits (skip text)).1 ≡ rest) = some_pair_parts v.0 n (digits (skip text)).1 rest v.2 in
    let is : ((digits (skip text)).0 ≡ decimal v.0) × (v.0 < 256) = value-sound (digits (skip text)).0 v.0 (digits-all (skip text)) v.1 in
    let s = skip-sound text in (
      s.0,
      s.1,
      s.2 ∙ ap (λ t. s.0 ++ t) (digits-join (skip text) ∙ ap (λ t. t ++ (digits (skip text)).1) (is.0 ∙ ap decimal parts.0) ∙ ap (λ t. decimal n ++ t) parts.1) ∙ sym (append_assoc s.0 (decimal n) rest),
      subst (λ m. m < 256) parts.0 is.1,
    )

-- ---- a number's digits are read as it

digit-of : (x : ℕ) → x < 10 → (is_digit (48 + x) ≡ true) × (is_space (48 + x) ≡ false)
digit-of x h = (grind (arith, nat_tests), grind (arith, nat_tests))

eqb-false : (a b : ℕ) → a ≢ b → eqb a b ≡ false
eqb-false a b ne = false_from_ne_true (eqb a b) (λ same. ne (eqb-true a b same))

digits-cons : (a : ℕ) (text ds rest : List ℕ) → is_digit a ≡ true → digits text ≡ (ds, rest) → digits (a ∷ text) ≡ (a ∷ ds, rest)
digits-cons a text ds rest digit more =
    cond-true {A = List ℕ × List ℕ} (is_digit a) (a ∷ (digits text).0, (digits text).1) ([], a ∷ text) digit ∙ ap (λ (p : List ℕ × List ℕ). (a ∷ p.0, p.1)) more

-- what the digits of n are to a reading
record Read (n : ℕ) (ds rest : List ℕ) : Type 0 where
  whole : skip (ds ++ rest) ≡ ds ++ rest
  found : digits (ds ++ rest) ≡ (ds, rest)
  value_is : value ds ≡ Some n

read-one : (n : ℕ) (rest : List ℕ) → n < 10 → digits rest ≡ ([], rest) → Read n ((48 + n) ∷ []) rest
unfolding value
read-one n rest h stop = record {
  whole = cond-false (is_space (48 + n)) (skip rest) ((48 + n) ∷ rest) (digit-of n h).1;
  found = digits-cons (48 + n) rest [] rest (digit-of n h).0 stop;
  value_is = ap Some (omega arith);
}

read-two : (n x y : ℕ) (rest : List ℕ) → 0 < x → x < 10 → y < 10 → n ≡ 10 * x + y → digits rest ≡ ([], rest) → Read n ((48 + x) ∷ (48 + y) ∷ []) rest
unfolding value
read-two n x y rest lead hx hy is stop = record {
  whole = cond-false (is_space (48 + x)) (skip ((48 + y) ∷ rest)) ((48 + x) ∷ (48 + y) ∷ rest) (digit-of x hx).1;
  found = digits-cons (48 + x) ((48 + y) ∷ rest) ((48 + y) ∷ []) rest (digit-of x hx).0 (digits-cons (48 + y) rest [] rest (digit-of y hy).0 stop);
  value_is = cond-false (eqb (48 + x) 48) _ _ (eqb-false (48 + x) 48 (omega arith)) ∙ ap Some (omega arith);
}

read-three : (n x y z : ℕ) (rest : List ℕ) → 0 < x → x < 10 → y < 10 → z < 10 → n ≡ 100 * x + 10 * y + z → n < 256 → digits rest ≡ ([], rest) → Read n ((48 + x) ∷ (48 + y) ∷ (48 + z) ∷ []) rest
unfolding value
read-three n x y z rest lead hx hy hz is small stop =
    let same : 100 * (48 + x - 48) + 10 * (48 + y - 48) + (48 + z - 48) ≡ n = omega arith in
    record {
      whole = cond-false (is_space (48 + x)) (skip ((48 + y) ∷ (48 + z) ∷ rest)) ((48 + x) ∷ (48 + y) ∷ (48 + z) ∷ rest) (digit-of x hx).1;
      found = digits-cons (48 + x) ((48 + y) ∷ (48 + z) ∷ rest) ((48 + y) ∷ (48 + z) ∷ []) rest (digit-of x hx).0
          (digits-cons (48 + y) ((48 + z) ∷ rest) ((48 + z) ∷ []) rest (digit-of y hy).0 (digits-cons (48 + z) rest [] rest (digit-of z hz).0 stop));
      value_is = cond-false (eqb (48 + x) 48) _ _ (eqb-false (48 + x) 48 (omega arith)) ∙ cond-true (ltb (100 * (48 + x - 48) + 10 * (48 + y - 48) + (48 + z - 48)) 256) _ _ (le-ltb same small) ∙ ap Some same;
    }
  where
    le-ltb : {a : ℕ} → a ≡ n → n < 256 → ltb a 256 ≡ true
    le-ltb {a} p h = grind (arith, nat_tests)

lt-or-ge : (n k : ℕ) → (n < k) ⊎ (k ≤ n)
lt-or-ge n k = by_test (ltb n k) refl where
  by_test : (test : Bool) → ltb n k ≡ test → (n < k) ⊎ (k ≤ n)
  by_test true h = inl (ltb-true n k h)
  by_test false h = inr (ltb-false n k h)

read-decimal : (n : ℕ) (rest : List ℕ) → n < 256 → digits rest ≡ ([], rest) → Read n (decimal n) rest
read-decimal n rest small stop = elim (lt-or-ge n 10) [
  | inl one ↦ subst (λ ds. Read n ds rest) (sym (decimal-one n one)) (read-one n rest one stop)
  | inr more ↦ elim (lt-or-ge n 100) [
    | inl two ↦ subst (λ ds. Read n ds rest) (sym (decimal-two n more two)) (read-two n (n / 10) (n % 10) rest (omega arith) (omega arith) (omega arith) (omega arith) stop)
    | inr three ↦ subst (λ ds. Read n ds rest) (sym (decimal-three n three)) (read-three n (n / 100) (n / 10 % 10) (n % 10) rest (omega arith) (omega arith) (omega arith) (omega arith) (omega arith) small stop)
  ]
]

pub number-complete : (n : ℕ) (space rest text : List ℕ) → IsSpace space → n < 256 → digits rest ≡ ([], rest) → text ≡ space ++ decimal n ++ rest → number text ≡ Some (n, rest)
unfolding number
number-complete n space rest text white small stop is =
    let r = read-decimal n rest small stop in
    let front : skip text ≡ decimal n ++ rest = ap skip (is ∙ append_assoc space (decimal n) rest) ∙ skip-space space (decimal n ++ rest) white ∙ r.whole in
    let found : digits (skip text) ≡ (decimal n, rest) = ap digits front ∙ r.found in
    ap (λ (p : List ℕ × List ℕ). value p.0 >>= λ m. Some (m, p.1)) found ∙ ap (λ o. o >>= λ m. Some (m, rest)) r.value_is

-- white space is no digit, and neither is a parenthesis
pub digits-none : (space rest : List ℕ) → IsSpace space → digits (space ++ codes ")" ++ rest) ≡ ([], space ++ codes ")" ++ rest)
digits-none [] rest white = refl
digits-none (byte ∷ space) rest white =
    cond-false (is_digit byte) _ _ (space-no-digit byte (first_of (is_space byte) (list_all is_space space) white)) where
      space-no-digit : (b : ℕ) → is_space b ≡ true → is_digit b ≡ false
      space-no-digit b h = grind (arith, nat_tests)
