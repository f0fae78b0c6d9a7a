-- The front of a text that white space or digits make up, byte by byte.
use Rattle.std.proofs.Common.{◌≡◌, ◌≢◌, ℕ, ◌+◌, ◌<◌, ◌≤◌, zero, suc, List, [], ◌∷◌, ◌++◌, length, get_or, take, drop, Option, Some, None, Bool, true, false, cond, refl, ap, sym, ◌∙◌, arith, add-one, drop-cons, append_assoc, eqb, eq-eqb}
use Rattle.std.proofs.lemmas.Bool.Decides.{nat_tests}
use Rattle.std.proofs.lemmas.Option.{same_Some}
use Rattle.std.proofs.lemmas.Bool.{eqb-true}
use Rattle.std.proofs.Math.Seq.{take-suc}
use Rattle.std.proofs.lemmas.Bool.{cond-true, cond-false}
use Rattle.std.proofs.lemmas.List.{append-nil}
use Rattle.std.proofs.lemmas.Grind.{common_steps}
use Rattle.fx_early_source.specs.Grammar.{is_space}
use Rattle.fx_early_source.specs.Reading.{skip, strip, digits, is_digit}

-- the rest of a text behind its end
drop-end : (i : ℕ) (text : List ℕ) → length text ≤ i → drop i text ≡ []
drop-end i text h = grind (arith, common_steps)

-- white space is skipped
pub skip-step : (i : ℕ) (text : List ℕ) → i < length text → is_space (get_or text i 0) ≡ true → skip (drop (i + 1) text) ≡ skip (drop i text)
skip-step i text h space = rw add-one (sym (ap skip (drop-cons text i 0 h) ∙ cond-true (is_space (get_or text i 0)) (skip (drop (suc i) text)) _ space))

-- no other byte is
pub skip-stop : (i : ℕ) (text : List ℕ) → i < length text → is_space (get_or text i 0) ≡ false → skip (drop i text) ≡ drop i text
skip-stop i text h other = ap skip (drop-cons text i 0 h) ∙ cond-false (is_space (get_or text i 0)) (skip (drop (suc i) text)) _ other ∙ sym (drop-cons text i 0 h)

pub skip-end : (i : ℕ) (text : List ℕ) → length text ≤ i → skip (drop i text) ≡ drop i text
skip-end i text h = ap skip (drop-end i text h) ∙ sym (drop-end i text h)

-- so many digits, and those that follow
abbrev pub digits_behind : ℕ → List ℕ → List ℕ × List ℕ
digits_behind i text = (take i text ++ (digits (drop i text)).0, (digits (drop i text)).1)

pub digits-step : (i : ℕ) (text : List ℕ) → i < length text → is_digit (get_or text i 0) ≡ true → digits_behind (i + 1) text ≡ digits_behind i text
digits-step i text h digit =
    let found : digits (drop i text) ≡ (get_or text i 0 ∷ (digits (drop (suc i) text)).0, (digits (drop (suc i) text)).1) =
    ap digits (drop-cons text i 0 h) ∙ cond-true (is_digit (get_or text i 0)) _ _ digit in
    rw add-one (ap (λ front. (front ++ (digits (drop (suc i) text)).0, (digits (drop (suc i) text)).1)) (take-suc text i 0 h)
    ∙ ap (λ front. (front, (digits (drop (suc i) text)).1)) (append_assoc (take i text) (get_or text i 0 ∷ []) (digits (drop (suc i) text)).0)
    ∙ sym (ap (λ (p : List ℕ × List ℕ). (take i text ++ p.0, p.1)) found))

pub digits-stop : (i : ℕ) (text : List ℕ) → i < length text → is_digit (get_or text i 0) ≡ false → digits_behind i text ≡ (take i text, drop i text)
digits-stop i text h other =
    ap (λ (p : List ℕ × List ℕ). (take i text ++ p.0, p.1)) (ap digits (drop-cons text i 0 h) ∙ cond-false (is_digit (get_or text i 0)) _ _ other ∙ ap (λ rest. ([], rest)) (sym (drop-cons text i 0 h)))
    ∙ ap (λ front. (front, drop i text)) (append-nil (take i text))

pub digits-end : (i : ℕ) (text : List ℕ) → length text ≤ i → digits_behind i text ≡ (take i text, drop i text)
digits-end i text h =
    ap (λ (p : List ℕ × List ℕ). (take i text ++ p.0, p.1)) (ap digits (drop-end i text h) ∙ ap (λ rest. ([], rest)) (sym (drop-end i text h)))
    ∙ ap (λ front. (front, drop i text)) (append-nil (take i text))

-- a test that led to a value was passed
pub chosen : {A : Type 0} (test : Bool) (o : Option A) (y : A) → cond test o None ≡ Some y → (test ≡ true) × (o ≡ Some y)
chosen true o y found = (refl, found)
chosen false o y found = cc

-- what is counted as digits are digits
pub digits-all : (text : List ℕ) → (i : ℕ) → i < length (digits text).0 → is_digit (get_or (digits text).0 i 0) ≡ true
digits-all [] i h = absurd (omega arith)
digits-all (byte ∷ text) i h = by_test byte (is_digit byte) text refl (digits-all text) i h where
  at_head : (byte : ℕ) (ds : List ℕ) → is_digit byte ≡ true → ((k : ℕ) → k < length ds → is_digit (get_or ds k 0) ≡ true) → (i : ℕ) → i < length (byte ∷ ds) → is_digit (get_or (byte ∷ ds) i 0) ≡ true
  at_head byte ds digit rest zero h = digit
  at_head byte ds digit rest (suc i) h = rest i (omega arith)

  by_test : (byte : ℕ) (test : Bool) (text : List ℕ) → is_digit byte ≡ test → ((k : ℕ) → k < length (digits text).0 → is_digit (get_or (digits text).0 k 0) ≡ true) → (i : ℕ)
      → i < length (cond {A = List ℕ × List ℕ} test (byte ∷ (digits text).0, (digits text).1) ([], byte ∷ text)).0
      → is_digit (get_or (cond {A = List ℕ × List ℕ} test (byte ∷ (digits text).0, (digits text).1) ([], byte ∷ text)).0 i 0) ≡ true
  by_test byte true text digit rest i h = at_head byte (digits text).0 digit rest i h
  by_test byte false text other rest i h = absurd (omega arith)

-- a digit is from 48 to 57
pub digit-bounds : (byte : ℕ) → is_digit byte ≡ true → (48 ≤ byte) × (byte < 58)
digit-bounds byte digit = grind (arith, nat_tests)

-- what stands behind a front of the text
pub strip-same : (front rest : List ℕ) → strip front (front ++ rest) ≡ Some rest
strip-same [] rest = refl
strip-same (byte ∷ front) rest = cond-true (eqb byte byte) _ _ (eq-eqb byte byte refl) ∙ strip-same front rest

pub strip-sound : (front text rest : List ℕ) → strip front text ≡ Some rest → text ≡ front ++ rest
strip-sound [] text rest found = same_Some _ _ found
strip-sound (byte ∷ front) [] rest found = cc
strip-sound (byte ∷ front) (first ∷ text) rest found =
    let taken : (eqb first byte ≡ true) × (strip front text ≡ Some rest) = chosen (eqb first byte) (strip front text) rest found in
    ap (λ b. b ∷ text) (eqb-true first byte taken.0) ∙ ap (λ t. byte ∷ t) (strip-sound front text rest taken.1)

-- nothing does, where no text of that front is there
pub strip-none : (front text : List ℕ) → ((rest : List ℕ) → text ≢ front ++ rest) → strip front text ≡ None
strip-none front text never = by_found (strip front text) refl where
  by_found : (o : Option (List ℕ)) → strip front text ≡ o → o ≡ None
  by_found None same = refl
  by_found (Some rest) same = absurd (never rest (strip-sound front text rest same))
