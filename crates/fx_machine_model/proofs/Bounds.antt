-- How large an image that meets the field rules is, and that its keys are protection keys.
use Rattle.std.proofs.Common.{◌≡◌, ℕ, suc, zero, ◌+◌, ◌*◌, ◌<◌, ◌≤◌, ◌⊎◌, inl, inr, Bool, true, false, Some, List, [], ◌∷◌, length, refl, subst, arith}
use Rattle.std.specs.Prelude.{nat_le, ◌==◌, ◌&&◌, ◌||◌, not, nat_eq, slice_get, if◌then◌else◌, sum_by}
use Rattle.std.proofs.Math.Nat.{mul-le-mul}
use Rattle.std.proofs.lemmas.Bool.Decides.{nat_tests}
use Rattle.fx_image.specs.Keys.{is_keyed}
use Rattle.fx_image.specs.Layout.{has_halves, stack_count, stack_span}
use Rattle.fx_image.specs.Rules.{IsImage, all_numbered, has_key, are_few, are_spread}
use Rattle.fx_image.specs.declared.forms.Section.{Section}
use Rattle.fx_image.specs.declared.forms.Image.{Image}

pub both : (a b : Bool) → a && b ≡ true → (a ≡ true) × (b ≡ true)
both true b e = (refl, e)
both false b e = cc

pub either : (a b : Bool) → a || b ≡ true → (a ≡ true) ⊎ (b ≡ true)
either true b e = inl refl
either false b e = inr e

at_most : (a b : ℕ) → nat_le a b ≡ true → a ≤ b
at_most a b e = grind (arith, nat_tests)

same_if : (a b : ℕ) → nat_eq a b ≡ true → a ≡ b
same_if a b e = grind (arith, nat_tests)

threads_by : (version threads : ℕ) → (threads == 8) || ((threads == 16) && not (version == 1)) ≡ true → threads ≤ 16
threads_by version threads e = elim (either (threads == 8) ((threads == 16) && not (version == 1)) e) [
  | inl h ↦ let s = same_if threads 8 h in omega arith
  | inr h ↦ let s = same_if threads 16 (both (threads == 16) (not (version == 1)) h).0 in omega arith
]

count_by_mechanism : (t : Bool) (n : ℕ) → n ≤ (if t then 16 else 8) → n ≤ 16
count_by_mechanism true n h = h
count_by_mechanism false n h = omega arith

pub record Sized (image : Image) : Type 0 where
  pub pages : image.stack_pages ≤ 64
  pub threads : image.threads ≤ 16
  pub compartments : length image.compartments ≤ 16
  pub some : 1 ≤ length image.compartments

pub sized : (image : Image) → IsImage image → Sized image
sized image h =
    let (low, threads) = both (nat_le 1 image.stack_pages && nat_le image.stack_pages 64) ((image.threads == 8) || ((image.threads == 16) && not (image.version == 1))) h.stacks in
    let (one, top) = both (nat_le 1 image.stack_pages) (nat_le image.stack_pages 64) low in
    let (some, count) = both (nat_le 1 (length image.compartments)) (nat_le (length image.compartments) (if image.mechanism == 3 then 16 else 8)) h.count in
    record {
      pages = at_most image.stack_pages 64 top;
      threads = threads_by image.version image.threads threads;
      compartments = count_by_mechanism (image.mechanism == 3) (length image.compartments) (at_most (length image.compartments) (if image.mechanism == 3 then 16 else 8) count);
      some = at_most 1 (length image.compartments) some;
    }

count_of : (t : Bool) (threads n : ℕ) → threads ≤ 16 → n ≤ 16 → (if t then threads * n else threads) ≤ 256
count_of true threads n p q = let m : threads * n ≤ 16 * 16 = mul-le-mul p q in omega arith
count_of false threads n p q = omega arith

pub few_stacks : (image : Image) → Sized image → stack_count image ≤ 256
few_stacks image s = count_of (has_halves image.mechanism) image.threads (length image.compartments) s.threads s.compartments

pub stacks_small : (image : Image) → Sized image → stack_count image * stack_span image ≤ 0x10000000
stacks_small image s =
    let p = s.pages in
    let span : stack_span image ≤ 0x82000 = omega arith in
    let m : stack_count image * stack_span image ≤ 256 * 0x82000 = mul-le-mul (few_stacks image s) span in
    omega arith

-- ---- keys

key_by : (t : Bool) (k n key : ℕ) → (t ≡ true → n ≤ 14) → k < n → key ≡ (if t then 2 + k else 0) → key < 16
key_by true k n key few lt e = let f = few refl in omega arith
key_by false k n key few lt e = omega arith

-- the sections from number k on
keys_from : (mechanism k n : ℕ) (ss : List Section) → (is_keyed mechanism ≡ true → n ≤ 14) → k + length ss ≤ n → all_numbered (has_key mechanism) k ss ≡ true → (i : ℕ) (s : Section) → slice_get ss i ≡ Some s → s.key < 16
keys_from mechanism k n [] few room h i s e = cc
keys_from mechanism k n (x ∷ ss) few room h zero s e =
    let (here, rest) = both (has_key mechanism k x) (all_numbered (has_key mechanism) (k + 1) ss) h in
    let is : x ≡ s = cc in
    let key : x.key < 16 = key_by (is_keyed mechanism) k n x.key few (omega arith) (same_if x.key (if is_keyed mechanism then 2 + k else 0) here) in
    subst (λ (y : Section). y.key < 16) is key
keys_from mechanism k n (x ∷ ss) few room h (suc i) s e =
    let (here, rest) = both (has_key mechanism k x) (all_numbered (has_key mechanism) (k + 1) ss) h in
    keys_from mechanism (k + 1) n ss few (omega arith) rest i s e

front : (a b : Bool) → a && b ≡ true → a ≡ true
front a b e = (both a b e).0

unless_keyed : (t b : Bool) → not t || b ≡ true → t ≡ true → b ≡ true
unless_keyed true b e keyed = e
unless_keyed false b e keyed = cc

few_sections : (image : Image) → IsImage image → is_keyed image.mechanism ≡ true → length image.sections ≤ 14
few_sections image h keyed =
    let few = (both (are_spread 0x10000 image.sections) (are_few image.mechanism image.sections) (front _ _ (front _ _ (front _ _ (front _ _ (front _ _ (front _ _ h.sections))))))).1 in
    let b = (both (nat_le (sum_by (λ (s : Section). s.pages) image.sections) 16384) (not (is_keyed image.mechanism) || nat_le (length image.sections) 14) few).1 in
    at_most (length image.sections) 14 (unless_keyed (is_keyed image.mechanism) (nat_le (length image.sections) 14) b keyed)

pub section_keys : (image : Image) → IsImage image → (i : ℕ) (s : Section) → slice_get image.sections i ≡ Some s → s.key < 16
section_keys image h i s e =
    let keys : all_numbered (has_key image.mechanism) 0 image.sections ≡ true = second _ _ (front _ _ (front _ _ h.sections)) in
    keys_from image.mechanism 0 (length image.sections) image.sections (few_sections image h) (omega arith) keys i s e
  where
    second : (a b : Bool) → a && b ≡ true → b ≡ true
    second a b e = (both a b e).1
