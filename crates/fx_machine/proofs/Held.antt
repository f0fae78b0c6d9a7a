-- What the regions have at an address, where a byte is set, and at boot.
use Rattle.std.proofs.Common.{◌≡◌, ◌≢◌, ℕ, ◌+◌, ◌-◌, ◌<◌, ◌≤◌, inl, inr, Bool, true, false, Option, None, Some, List, length, refl, sym, ap, ◌∙◌, arith, cond, length-set}
use Rattle.std.specs.Prelude.{nat_le, nat_lt, ◌==◌, if◌then◌else◌, slice_get, slice_index, slice_set, unwrap_or}
use Rattle.std.proofs.Math.Path.{fun_ext}
use Rattle.std.proofs.lemmas.Bool.Decides.{nat_tests, eqb_tells}
use Rattle.std.proofs.lemmas.List.{get_or-set_same, get_or-set_other}
use Rattle.std.proofs.lemmas.Option.{slice_get-get_or, slice_get_past}
use Rattle.fx_outcomes.proofs.Follows.{nat_split}
use Rattle.fx_image.specs.Layout.{first_stack}
use Rattle.fx_image.specs.declared.forms.Image.{Image}
use Rattle.fx_machine_model.specs.Boot.{boot_byte}
use Rattle.fx_machine_model.specs.Regions.{word_start, sections_start}
use Rattle.fx_machine.specs.Memory.{mail_start, by_region, held, is_held, memory_of, IsLaidOut}
use Rattle.fx_machine.specs.declared.memory.Memory.{Memory}

le_yes : (a b : ℕ) → a ≤ b → nat_le a b ≡ true
le_yes a b h = grind (arith, nat_tests)

le_no : (a b : ℕ) → b < a → nat_le a b ≡ false
le_no a b h = grind (arith, nat_tests)

-- ---- the region of an address

module _ {A : Type 0} (a : ℕ) (s c w m n : A) where
  pub at_stacks : first_stack ≤ a → by_region a s c w m n ≡ s
  at_stacks h = ap (λ t. cond t s (cond (nat_le sections_start a) c (cond (nat_le word_start a) w (cond (nat_le mail_start a) m n)))) (le_yes first_stack a h)

  pub at_sections : sections_start ≤ a → a < first_stack → by_region a s c w m n ≡ c
  at_sections h lt =
      ap (λ t. cond t s (cond (nat_le sections_start a) c (cond (nat_le word_start a) w (cond (nat_le mail_start a) m n)))) (le_no first_stack a lt)
      ∙ ap (λ t. cond t c (cond (nat_le word_start a) w (cond (nat_le mail_start a) m n))) (le_yes sections_start a h)

  pub at_word : word_start ≤ a → a < sections_start → by_region a s c w m n ≡ w
  at_word h lt =
      ap (λ t. cond t s (cond (nat_le sections_start a) c (cond (nat_le word_start a) w (cond (nat_le mail_start a) m n)))) (le_no first_stack a (omega arith))
      ∙ ap (λ t. cond t c (cond (nat_le word_start a) w (cond (nat_le mail_start a) m n))) (le_no sections_start a lt)
      ∙ ap (λ t. cond t w (cond (nat_le mail_start a) m n)) (le_yes word_start a h)

  pub at_mail : mail_start ≤ a → a < word_start → by_region a s c w m n ≡ m
  at_mail h lt =
      ap (λ t. cond t s (cond (nat_le sections_start a) c (cond (nat_le word_start a) w (cond (nat_le mail_start a) m n)))) (le_no first_stack a (omega arith))
      ∙ ap (λ t. cond t c (cond (nat_le word_start a) w (cond (nat_le mail_start a) m n))) (le_no sections_start a (omega arith))
      ∙ ap (λ t. cond t w (cond (nat_le mail_start a) m n)) (le_no word_start a lt)
      ∙ ap (λ t. cond t m n) (le_yes mail_start a h)

  pub at_none : a < mail_start → by_region a s c w m n ≡ n
  at_none lt =
      ap (λ t. cond t s (cond (nat_le sections_start a) c (cond (nat_le word_start a) w (cond (nat_le mail_start a) m n)))) (le_no first_stack a (omega arith))
      ∙ ap (λ t. cond t c (cond (nat_le word_start a) w (cond (nat_le mail_start a) m n))) (le_no sections_start a (omega arith))
      ∙ ap (λ t. cond t w (cond (nat_le mail_start a) m n)) (le_no word_start a (omega arith))
      ∙ ap (λ t. cond t m n) (le_no mail_start a lt)

-- what holds in each region holds
pub by_regions : (a : ℕ) (P : Type 0) → (first_stack ≤ a → P) → (sections_start ≤ a → a < first_stack → P) → (word_start ≤ a → a < sections_start → P) → (mail_start ≤ a → a < word_start → P) → (a < mail_start → P) → P
by_regions a P s c w m n = elim (nat_split first_stack a) [
  | inl h ↦ s h
  | inr (k, e) ↦ elim (nat_split sections_start a) [
    | inl h ↦ c h (omega arith)
    | inr (l, f) ↦ elim (nat_split word_start a) [
      | inl h ↦ w h (omega arith)
      | inr (i, g) ↦ elim (nat_split mail_start a) [
        | inl h ↦ m h (omega arith)
        | inr (j, d) ↦ n (omega arith)
      ]
    ]
  ]
]

-- ---- a byte that is set

get_set_same : (xs : List ℕ) (i v : ℕ) → i < length xs → slice_get (slice_set xs i v) i ≡ Some v
get_set_same xs i v lt =
    let n = length-set xs i v in
    slice_get-get_or (slice_set xs i v) i 0 (omega arith) ∙ ap Some (get_or-set_same xs i v 0 lt)

get_set_other : (xs : List ℕ) (i j v : ℕ) → j ≢ i → slice_get (slice_set xs i v) j ≡ slice_get xs j
get_set_other xs i j v ne = elim (nat_split (length xs) j) [
  | inl past ↦ let n = length-set xs i v in slice_get_past (slice_set xs i v) j (omega arith) ∙ sym (slice_get_past xs j past)
  | inr (k, e) ↦ let n = length-set xs i v in
      slice_get-get_or (slice_set xs i v) j 0 (omega arith) ∙ ap Some (get_or-set_other xs i j v 0 ne) ∙ sym (slice_get-get_or xs j 0 (omega arith))
]

-- the list's bytes, one of them set, by address
abbrev SetAt : List ℕ → List ℕ → ℕ → ℕ → ℕ → ℕ → Type 0
SetAt old new start a v k = slice_get new (k - start) ≡ (if k == a then Some v else slice_get old (k - start))

own : (xs ys : List ℕ) (start a v k : ℕ) → ys ≡ slice_set xs (a - start) v → start ≤ a → a - start < length xs → start ≤ k → SetAt xs ys start a v k
own xs ys start a v k is low lt from = elim (eqb_tells k a) [
  | inl (t, same) ↦
      ap (λ l. slice_get l (k - start)) is ∙ ap (λ n. slice_get (slice_set xs (a - start) v) (n - start)) same ∙ get_set_same xs (a - start) v lt
      ∙ sym (ap (λ b. cond b (Some v) (slice_get xs (k - start))) t)
  | inr (t, other) ↦
      let ne : k - start ≢ a - start = λ q. other (omega arith) in
      ap (λ l. slice_get l (k - start)) is ∙ get_set_other xs (a - start) (k - start) v ne
      ∙ sym (ap (λ b. cond b (Some v) (slice_get xs (k - start))) t)
]

kept : (xs ys : List ℕ) (start a v k : ℕ) → ys ≡ xs → k ≢ a → SetAt xs ys start a v k
kept xs ys start a v k is ne = elim (eqb_tells k a) [
  | inl (t, same) ↦ absurd (ne same)
  | inr (t, other) ↦ ap (λ l. slice_get l (k - start)) is ∙ sym (ap (λ b. cond b (Some v) (slice_get xs (k - start))) t)
]

none_set : (t : Bool) (v : ℕ) → t ≡ false → None ≡ (if t then Some v else None)
none_set true v e = cc
none_set false v e = refl

module _ (m n : Memory) (a v : ℕ) where
  abbrev Set : ℕ → Type 0
  Set k = held n k ≡ (if k == a then Some v else held m k)

  held_set : (k : ℕ)
      → (first_stack ≤ k → SetAt m.stacks.items n.stacks.items first_stack a v k)
      → (sections_start ≤ k → k < first_stack → SetAt m.sections.items n.sections.items sections_start a v k)
      → (word_start ≤ k → k < sections_start → SetAt m.word.items n.word.items word_start a v k)
      → (mail_start ≤ k → k < word_start → SetAt m.mail.items n.mail.items mail_start a v k)
      → (k < mail_start → k ≢ a) → Set k
  held_set k s c w l o =
      by_regions k (Set k)
      (λ h. at_stacks k _ _ _ _ _ h ∙ s h ∙ ap (λ x. if k == a then Some v else x) (sym (at_stacks k _ _ _ _ _ h)))
      (λ h lt. at_sections k _ _ _ _ _ h lt ∙ c h lt ∙ ap (λ x. if k == a then Some v else x) (sym (at_sections k _ _ _ _ _ h lt)))
      (λ h lt. at_word k _ _ _ _ _ h lt ∙ w h lt ∙ ap (λ x. if k == a then Some v else x) (sym (at_word k _ _ _ _ _ h lt)))
      (λ h lt. at_mail k _ _ _ _ _ h lt ∙ l h lt ∙ ap (λ x. if k == a then Some v else x) (sym (at_mail k _ _ _ _ _ h lt)))
      (λ lt.
      let no : (k == a) ≡ false = elim (eqb_tells k a) [ inl (t, same) ↦ absurd (o lt same) | inr (t, other) ↦ t ] in
      at_none k _ _ _ _ _ lt ∙ none_set (k == a) v no ∙ ap (λ x. if k == a then Some v else x) (sym (at_none k _ _ _ _ _ lt)))

  same_lengths : length n.stacks.items ≡ length m.stacks.items → length n.sections.items ≡ length m.sections.items → length n.word.items ≡ length m.word.items → length n.mail.items ≡ length m.mail.items → (k : ℕ) → is_held n k ≡ is_held m k
  same_lengths e f g h k =
      ap (λ l. by_region k (nat_lt (k - first_stack) l) (nat_lt (k - sections_start) (length n.sections.items)) (nat_lt (k - word_start) (length n.word.items)) (nat_lt (k - mail_start) (length n.mail.items)) false) e
      ∙ ap (λ l. by_region k (nat_lt (k - first_stack) (length m.stacks.items)) (nat_lt (k - sections_start) l) (nat_lt (k - word_start) (length n.word.items)) (nat_lt (k - mail_start) (length n.mail.items)) false) f
      ∙ ap (λ l. by_region k (nat_lt (k - first_stack) (length m.stacks.items)) (nat_lt (k - sections_start) (length m.sections.items)) (nat_lt (k - word_start) l) (nat_lt (k - mail_start) (length n.mail.items)) false) g
      ∙ ap (λ l. by_region k (nat_lt (k - first_stack) (length m.stacks.items)) (nat_lt (k - sections_start) (length m.sections.items)) (nat_lt (k - word_start) (length m.word.items)) (nat_lt (k - mail_start) l) false) h

  set_over : (t : Bool) (x : Option ℕ) (d : ℕ) → unwrap_or (if t then Some v else x) d ≡ (if t then v else unwrap_or x d)
  set_over true x d = refl
  set_over false x d = refl

  -- the memory with a byte set
  pub record SetsByte : Type 0 where
    pub byte : (image : Image) (k : ℕ) → memory_of image n k ≡ (if k == a then v else memory_of image m k)
    pub held : (k : ℕ) → is_held n k ≡ is_held m k
    pub laid : (image : Image) → IsLaidOut image m → IsLaidOut image n

  sets : ((k : ℕ) → Set k) → length n.stacks.items ≡ length m.stacks.items → length n.sections.items ≡ length m.sections.items → length n.word.items ≡ length m.word.items → length n.mail.items ≡ length m.mail.items → SetsByte
  sets each e f g h = record {
    byte = λ image k. ap (λ x. unwrap_or x (boot_byte image k)) (each k) ∙ set_over (k == a) (held m k) (boot_byte image k);
    held = same_lengths e f g h;
    laid = λ image l. record { stacks = e ∙ l.stacks; sections = f ∙ l.sections; word = g ∙ l.word; mail = h ∙ l.mail };
  }

  pub set_stacks : n.stacks.items ≡ slice_set m.stacks.items (a - first_stack) v → n.sections.items ≡ m.sections.items → n.word.items ≡ m.word.items → n.mail.items ≡ m.mail.items → first_stack ≤ a → a - first_stack < length m.stacks.items → SetsByte
  set_stacks e f g h low lt =
      sets (λ k. held_set k
      (λ from. own m.stacks.items n.stacks.items first_stack a v k e low lt from)
      (λ from top. kept m.sections.items n.sections.items sections_start a v k f (λ q. omega (arith, q)))
      (λ from top. kept m.word.items n.word.items word_start a v k g (λ q. omega (arith, q)))
      (λ from top. kept m.mail.items n.mail.items mail_start a v k h (λ q. omega (arith, q)))
      (λ top q. omega (arith, q)))
      (ap length e ∙ length-set m.stacks.items (a - first_stack) v) (ap length f) (ap length g) (ap length h)

  pub set_sections : n.stacks.items ≡ m.stacks.items → n.sections.items ≡ slice_set m.sections.items (a - sections_start) v → n.word.items ≡ m.word.items → n.mail.items ≡ m.mail.items → a < first_stack → sections_start ≤ a → a - sections_start < length m.sections.items → SetsByte
  set_sections e f g h high low lt =
      sets (λ k. held_set k
      (λ from. kept m.stacks.items n.stacks.items first_stack a v k e (λ q. omega (arith, q)))
      (λ from top. own m.sections.items n.sections.items sections_start a v k f low lt from)
      (λ from top. kept m.word.items n.word.items word_start a v k g (λ q. omega (arith, q)))
      (λ from top. kept m.mail.items n.mail.items mail_start a v k h (λ q. omega (arith, q)))
      (λ top q. omega (arith, q)))
      (ap length e) (ap length f ∙ length-set m.sections.items (a - sections_start) v) (ap length g) (ap length h)

  pub set_word : n.stacks.items ≡ m.stacks.items → n.sections.items ≡ m.sections.items → n.word.items ≡ slice_set m.word.items (a - word_start) v → n.mail.items ≡ m.mail.items → a < sections_start → word_start ≤ a → a - word_start < length m.word.items → SetsByte
  set_word e f g h high low lt =
      sets (λ k. held_set k
      (λ from. kept m.stacks.items n.stacks.items first_stack a v k e (λ q. omega (arith, q)))
      (λ from top. kept m.sections.items n.sections.items sections_start a v k f (λ q. omega (arith, q)))
      (λ from top. own m.word.items n.word.items word_start a v k g low lt from)
      (λ from top. kept m.mail.items n.mail.items mail_start a v k h (λ q. omega (arith, q)))
      (λ top q. omega (arith, q)))
      (ap length e) (ap length f) (ap length g ∙ length-set m.word.items (a - word_start) v) (ap length h)

  pub set_mail : n.stacks.items ≡ m.stacks.items → n.sections.items ≡ m.sections.items → n.word.items ≡ m.word.items → n.mail.items ≡ slice_set m.mail.items (a - mail_start) v → a < word_start → mail_start ≤ a → a - mail_start < length m.mail.items → SetsByte
  set_mail e f g h high low lt =
      sets (λ k. held_set k
      (λ from. kept m.stacks.items n.stacks.items first_stack a v k e (λ q. omega (arith, q)))
      (λ from top. kept m.sections.items n.sections.items sections_start a v k f (λ q. omega (arith, q)))
      (λ from top. kept m.word.items n.word.items word_start a v k g (λ q. omega (arith, q)))
      (λ from top. own m.mail.items n.mail.items mail_start a v k h low lt from)
      (λ top q. omega (arith, q)))
      (ap length e) (ap length f) (ap length g) (ap length h ∙ length-set m.mail.items (a - mail_start) v)

-- ---- where a region has a byte

lt_if : (a b : ℕ) → nat_lt a b ≡ true → a < b
lt_if a b e = grind (arith, nat_tests)

pub held_in_stacks : (m : Memory) (a : ℕ) → is_held m a ≡ true → first_stack ≤ a → a - first_stack < length m.stacks.items
held_in_stacks m a e h = lt_if (a - first_stack) (length m.stacks.items) (sym (at_stacks a _ _ _ _ _ h) ∙ e)

pub held_in_sections : (m : Memory) (a : ℕ) → is_held m a ≡ true → sections_start ≤ a → a < first_stack → a - sections_start < length m.sections.items
held_in_sections m a e h lt = lt_if (a - sections_start) (length m.sections.items) (sym (at_sections a _ _ _ _ _ h lt) ∙ e)

pub held_in_word : (m : Memory) (a : ℕ) → is_held m a ≡ true → word_start ≤ a → a < sections_start → a - word_start < length m.word.items
held_in_word m a e h lt = lt_if (a - word_start) (length m.word.items) (sym (at_word a _ _ _ _ _ h lt) ∙ e)

pub held_in_mail : (m : Memory) (a : ℕ) → is_held m a ≡ true → mail_start ≤ a → a < word_start → a - mail_start < length m.mail.items
held_in_mail m a e h lt = lt_if (a - mail_start) (length m.mail.items) (sym (at_mail a _ _ _ _ _ h lt) ∙ e)

pub never_below : (m : Memory) (a : ℕ) → is_held m a ≡ true → a < mail_start → ⊥
never_below m a e lt = let x : false ≡ true = sym (at_none a (nat_lt (a - first_stack) (length m.stacks.items)) (nat_lt (a - sections_start) (length m.sections.items)) (nat_lt (a - word_start) (length m.word.items)) (nat_lt (a - mail_start) (length m.mail.items)) false lt) ∙ e in cc

-- ---- at boot

at_boot : (image : Image) (xs : List ℕ) (start : ℕ) → ((k : ℕ) → k < length xs → slice_index xs k ≡ boot_byte image (start + k)) → (a : ℕ) → start ≤ a → unwrap_or (slice_get xs (a - start)) (boot_byte image a) ≡ boot_byte image a
at_boot image xs start h a from = elim (nat_split (length xs) (a - start)) [
  | inl past ↦ ap (λ x. unwrap_or x (boot_byte image a)) (slice_get_past xs (a - start) past)
  | inr (k, e) ↦
      let lt : a - start < length xs = omega arith in
      let there : start + (a - start) ≡ a = omega arith in
      ap (λ x. unwrap_or x (boot_byte image a)) (slice_get-get_or xs (a - start) 0 lt) ∙ h (a - start) lt ∙ ap (boot_byte image) there
]

pub memory_at_boot : (image : Image) (m : Memory)
    → ((k : ℕ) → k < length m.stacks.items → slice_index m.stacks.items k ≡ boot_byte image (first_stack + k))
    → ((k : ℕ) → k < length m.sections.items → slice_index m.sections.items k ≡ boot_byte image (sections_start + k))
    → ((k : ℕ) → k < length m.word.items → slice_index m.word.items k ≡ boot_byte image (word_start + k))
    → ((k : ℕ) → k < length m.mail.items → slice_index m.mail.items k ≡ boot_byte image (mail_start + k))
    → memory_of image m ≡ boot_byte image
memory_at_boot image m s c w l = fun_ext (λ a.
    by_regions a (memory_of image m a ≡ boot_byte image a)
    (λ h. ap (λ x. unwrap_or x (boot_byte image a)) (at_stacks a _ _ _ _ _ h) ∙ at_boot image m.stacks.items first_stack s a h)
    (λ h lt. ap (λ x. unwrap_or x (boot_byte image a)) (at_sections a _ _ _ _ _ h lt) ∙ at_boot image m.sections.items sections_start c a h)
    (λ h lt. ap (λ x. unwrap_or x (boot_byte image a)) (at_word a _ _ _ _ _ h lt) ∙ at_boot image m.word.items word_start w a h)
    (λ h lt. ap (λ x. unwrap_or x (boot_byte image a)) (at_mail a _ _ _ _ _ h lt) ∙ at_boot image m.mail.items mail_start l a h)
    (λ lt. ap (λ x. unwrap_or x (boot_byte image a)) (at_none a _ _ _ _ _ lt)))
