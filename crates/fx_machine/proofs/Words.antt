-- Words that lie in one region: what a load finds there, and what a store leaves.
use Rattle.std.proofs.Common.{◌≡◌, ℕ, ◌+◌, ◌-◌, ◌^◌, ◌<◌, ◌≤◌, ◌⊎◌, inl, inr, ⊎_elim, List, length, sym, ap, ◌∙◌, arith, lit<}
use Rattle.std.specs.Prelude.{slice_get, slice_index, unwrap_or}
use Rattle.std.proofs.lemmas.Bool.{cases_lt}
use Rattle.std.proofs.lemmas.Option.{slice_get-get_or, slice_get_past}
use Rattle.std.proofs.Math.Path.{fun_ext}
use Rattle.fx_outcomes.proofs.Follows.{nat_split}
use Rattle.fx_x64_forms.specs.Numbers.{width_bytes}
use Rattle.fx_x64_forms.specs.declared.operand.Width.{Width}
use Rattle.fx_x64_forms.specs.declared.operand.Width.TheVariants.{W8, W16, W32, W64}
use Rattle.fx_cpu.specs.Memory.{on, word_at, stored}
use Rattle.fx_cpu.specs.Flat.{bytes_of}
use Rattle.fx_cpu.proofs.Memory.{byte_other, byte_at, beyond}
use Rattle.fx_image.specs.Layout.{first_stack}
use Rattle.fx_image.specs.declared.forms.Image.{Image}
use Rattle.fx_machine_model.specs.Boot.{boot_byte}
use Rattle.fx_machine_model.specs.Regions.{word_start, sections_start}
use Rattle.fx_machine.specs.Memory.{mail_start, held, memory_of, IsLaidOut}
use Rattle.fx_machine.specs.declared.memory.Memory.{Memory}
use Rattle.fx_machine.proofs.Held.{at_stacks, at_sections, at_word, at_mail, at_none, by_regions}

-- ---- words and the memories that they lie in

word_same : (f g : ℕ → ℕ) (w : Width) (a b : ℕ) → f a ≡ g b → ((i : ℕ) → i < width_bytes w → f (on a i) ≡ g (on b i)) → word_at f w a ≡ word_at g w b
unfolding word_at
word_same f g W8 a b e h = e
word_same f g W16 a b e h = let h1 = h 1 (lit< tt) in cc
word_same f g W32 a b e h = let h1 = h 1 (lit< tt) in let h2 = h 2 (lit< tt) in let h3 = h 3 (lit< tt) in cc
word_same f g W64 a b e h =
    let h1 = h 1 (lit< tt) in
    let h2 = h 2 (lit< tt) in
    let h3 = h 3 (lit< tt) in
    let h4 = h 4 (lit< tt) in
    let h5 = h 5 (lit< tt) in
    let h6 = h 6 (lit< tt) in
    let h7 = h 7 (lit< tt) in
    cc

-- an address that isn't stored to
away : (m : ℕ → ℕ) (w : Width) (a v k : ℕ) → a + width_bytes w ≤ 2 ^ 64 → (k < a) ⊎ (a + width_bytes w ≤ k) → stored m w a v k ≡ m k
away m w a v k room (inl lt) = byte_other m w a v k (omega arith) (inr (lt, room))
away m w a v k room (inr le) = beyond m w a v k le room

-- a store is the same, wherever the memory begins
stored_same : (f g : ℕ → ℕ) (w : Width) (a b v k l : ℕ) → a + width_bytes w ≤ 2 ^ 64 → b + width_bytes w ≤ 2 ^ 64 → k + b ≡ l + a → f k ≡ g l → stored f w a v k ≡ stored g w b v l
stored_same f g w a b v k l room space shift e =
    ⊎_elim
    (λ p. away f w a v k room (inl p) ∙ e ∙ sym (away g w b v l space (inl (omega arith))))
    (λ p.
    ⊎_elim
    (λ q. byte_at f w a v k (k - a) (omega arith) (omega arith) (omega arith) ∙ sym (byte_at g w b v l (k - a) (omega arith) (omega arith) (omega arith)))
    (λ q. away f w a v k room (inr q) ∙ e ∙ sym (away g w b v l space (inr (omega arith))))
    (cases_lt k (a + width_bytes w)))
    (cases_lt k a)

-- ---- one region

-- the memory at an address whose region has these bytes
memory_there : (image : Image) (m : Memory) (xs : List ℕ) (start k : ℕ) → held m k ≡ slice_get xs (k - start) → start ≤ k → k - start < length xs → memory_of image m k ≡ slice_index xs (k - start)
memory_there image m xs start k has from lt = ap (λ x. unwrap_or x (boot_byte image k)) (has ∙ slice_get-get_or xs (k - start) 0 lt)

module _ (image : Image) (m : Memory) (w : Width) (a : ℕ) where
  loads : (xs : List ℕ) (start : ℕ) → ((k : ℕ) → a ≤ k → k < a + width_bytes w → held m k ≡ slice_get xs (k - start)) → start ≤ a → a + width_bytes w ≤ 2 ^ 64 → a - start + width_bytes w ≤ length xs
      → word_at (bytes_of xs) w (a - start) ≡ word_at (memory_of image m) w a
  loads xs start has from room inside =
      word_same (bytes_of xs) (memory_of image m) w (a - start) a (byte a (omega arith) (some w))
      (λ i lt.
      let there : on (a - start) i ≡ (a + i) - start = omega arith in
      let at : a + i ≡ on a i = omega arith in
      ap (slice_index xs) there ∙ byte (a + i) (omega arith) (omega arith) ∙ ap (memory_of image m) at)
    where
      byte : (k : ℕ) → a ≤ k → k < a + width_bytes w → slice_index xs (k - start) ≡ memory_of image m k
      byte k low high = sym (memory_there image m xs start k (has k low high) (omega arith) (omega arith))

      some : (w : Width) → a < a + width_bytes w
      some W8 = omega arith
      some W16 = omega arith
      some W32 = omega arith
      some W64 = omega arith

  -- the word at an address, where the region that it belongs to has all of it
  pub load_stacks : first_stack ≤ a → a + width_bytes w ≤ 2 ^ 64 → a - first_stack + width_bytes w ≤ length m.stacks.items → word_at (bytes_of m.stacks.items) w (a - first_stack) ≡ word_at (memory_of image m) w a
  load_stacks from room = loads m.stacks.items first_stack (λ k low high. at_stacks k _ _ _ _ _ (omega arith)) from room

  pub load_sections : sections_start ≤ a → a + width_bytes w ≤ first_stack → a - sections_start + width_bytes w ≤ length m.sections.items → word_at (bytes_of m.sections.items) w (a - sections_start) ≡ word_at (memory_of image m) w a
  load_sections from to = loads m.sections.items sections_start (λ k low high. at_sections k _ _ _ _ _ (omega arith) (omega arith)) from (omega arith)

  pub load_word : word_start ≤ a → a + width_bytes w ≤ sections_start → a - word_start + width_bytes w ≤ length m.word.items → word_at (bytes_of m.word.items) w (a - word_start) ≡ word_at (memory_of image m) w a
  load_word from to = loads m.word.items word_start (λ k low high. at_word k _ _ _ _ _ (omega arith) (omega arith)) from (omega arith)

  pub load_mail : mail_start ≤ a → a + width_bytes w ≤ word_start → a - mail_start + width_bytes w ≤ length m.mail.items → word_at (bytes_of m.mail.items) w (a - mail_start) ≡ word_at (memory_of image m) w a
  load_mail from to = loads m.mail.items mail_start (λ k low high. at_mail k _ _ _ _ _ (omega arith) (omega arith)) from (omega arith)

-- ---- a word that is stored

module _ (image : Image) (m n : Memory) (w : Width) (a v : ℕ) (room : a + width_bytes w ≤ 2 ^ 64) where
  abbrev Stores : ℕ → Type 0
  Stores k = memory_of image n k ≡ stored (memory_of image m) w a v k

  untouched : (k : ℕ) → held n k ≡ held m k → (k < a) ⊎ (a + width_bytes w ≤ k) → Stores k
  untouched k same apart = ap (λ x. unwrap_or x (boot_byte image k)) same ∙ sym (away (memory_of image m) w a v k room apart)

  -- in a region that it was stored to
  touched : (xs ys : List ℕ) (start k : ℕ) → held m k ≡ slice_get xs (k - start) → held n k ≡ slice_get ys (k - start) → start ≤ k → start ≤ a → a - start + width_bytes w ≤ length xs
      → length ys ≡ length xs → bytes_of ys ≡ stored (bytes_of xs) w (a - start) v → Stores k
  touched xs ys start k old new from low inside size is = elim (nat_split (length xs) (k - start)) [
    | inl past ↦ untouched k (new ∙ slice_get_past ys (k - start) (omega arith) ∙ sym (slice_get_past xs (k - start) past) ∙ sym old) (inr (omega arith))
    | inr (j, e) ↦
        memory_there image n ys start k new from (omega arith)
        ∙ ap (λ f. f (k - start)) is
        ∙ stored_same (bytes_of xs) (memory_of image m) w (a - start) a v (k - start) k (omega arith) room (omega arith)
        (sym (memory_there image m xs start k old from (omega arith)))
  ]

  kept_stacks : n.stacks.items ≡ m.stacks.items → (k : ℕ) → first_stack ≤ k → held n k ≡ held m k
  kept_stacks e k h = at_stacks k _ _ _ _ _ h ∙ ap (λ l. slice_get l (k - first_stack)) e ∙ sym (at_stacks k _ _ _ _ _ h)

  kept_sections : n.sections.items ≡ m.sections.items → (k : ℕ) → sections_start ≤ k → k < first_stack → held n k ≡ held m k
  kept_sections e k h lt = at_sections k _ _ _ _ _ h lt ∙ ap (λ l. slice_get l (k - sections_start)) e ∙ sym (at_sections k _ _ _ _ _ h lt)

  kept_word : n.word.items ≡ m.word.items → (k : ℕ) → word_start ≤ k → k < sections_start → held n k ≡ held m k
  kept_word e k h lt = at_word k _ _ _ _ _ h lt ∙ ap (λ l. slice_get l (k - word_start)) e ∙ sym (at_word k _ _ _ _ _ h lt)

  kept_mail : n.mail.items ≡ m.mail.items → (k : ℕ) → mail_start ≤ k → k < word_start → held n k ≡ held m k
  kept_mail e k h lt = at_mail k _ _ _ _ _ h lt ∙ ap (λ l. slice_get l (k - mail_start)) e ∙ sym (at_mail k _ _ _ _ _ h lt)

  kept_none : (k : ℕ) → k < mail_start → held n k ≡ held m k
  kept_none k lt = at_none k _ _ _ _ _ lt ∙ sym (at_none k _ _ _ _ _ lt)

  pub store_stacks : first_stack ≤ a → a - first_stack + width_bytes w ≤ length m.stacks.items → length n.stacks.items ≡ length m.stacks.items → bytes_of n.stacks.items ≡ stored (bytes_of m.stacks.items) w (a - first_stack) v
      → n.sections.items ≡ m.sections.items → n.word.items ≡ m.word.items → n.mail.items ≡ m.mail.items → memory_of image n ≡ stored (memory_of image m) w a v
  store_stacks from inside size is e f g = fun_ext (λ k.
      by_regions k (Stores k)
      (λ h. touched m.stacks.items n.stacks.items first_stack k (at_stacks k _ _ _ _ _ h) (at_stacks k _ _ _ _ _ h) h from inside size is)
      (λ h lt. untouched k (kept_sections e k h lt) (inl (omega arith)))
      (λ h lt. untouched k (kept_word f k h lt) (inl (omega arith)))
      (λ h lt. untouched k (kept_mail g k h lt) (inl (omega arith)))
      (λ lt. untouched k (kept_none k lt) (inl (omega arith))))

  pub store_sections : sections_start ≤ a → a + width_bytes w ≤ first_stack → a - sections_start + width_bytes w ≤ length m.sections.items → length n.sections.items ≡ length m.sections.items
      → bytes_of n.sections.items ≡ stored (bytes_of m.sections.items) w (a - sections_start) v
      → n.stacks.items ≡ m.stacks.items → n.word.items ≡ m.word.items → n.mail.items ≡ m.mail.items → memory_of image n ≡ stored (memory_of image m) w a v
  store_sections from to inside size is e f g = fun_ext (λ k.
      by_regions k (Stores k)
      (λ h. untouched k (kept_stacks e k h) (inr (omega arith)))
      (λ h lt. touched m.sections.items n.sections.items sections_start k (at_sections k _ _ _ _ _ h lt) (at_sections k _ _ _ _ _ h lt) h from inside size is)
      (λ h lt. untouched k (kept_word f k h lt) (inl (omega arith)))
      (λ h lt. untouched k (kept_mail g k h lt) (inl (omega arith)))
      (λ lt. untouched k (kept_none k lt) (inl (omega arith))))

  pub store_word : word_start ≤ a → a + width_bytes w ≤ sections_start → a - word_start + width_bytes w ≤ length m.word.items → length n.word.items ≡ length m.word.items
      → bytes_of n.word.items ≡ stored (bytes_of m.word.items) w (a - word_start) v
      → n.stacks.items ≡ m.stacks.items → n.sections.items ≡ m.sections.items → n.mail.items ≡ m.mail.items → memory_of image n ≡ stored (memory_of image m) w a v
  store_word from to inside size is e f g = fun_ext (λ k.
      by_regions k (Stores k)
      (λ h. untouched k (kept_stacks e k h) (inr (omega arith)))
      (λ h lt. untouched k (kept_sections f k h lt) (inr (omega arith)))
      (λ h lt. touched m.word.items n.word.items word_start k (at_word k _ _ _ _ _ h lt) (at_word k _ _ _ _ _ h lt) h from inside size is)
      (λ h lt. untouched k (kept_mail g k h lt) (inl (omega arith)))
      (λ lt. untouched k (kept_none k lt) (inl (omega arith))))

  pub store_mail : mail_start ≤ a → a + width_bytes w ≤ word_start → a - mail_start + width_bytes w ≤ length m.mail.items → length n.mail.items ≡ length m.mail.items
      → bytes_of n.mail.items ≡ stored (bytes_of m.mail.items) w (a - mail_start) v
      → n.stacks.items ≡ m.stacks.items → n.sections.items ≡ m.sections.items → n.word.items ≡ m.word.items → memory_of image n ≡ stored (memory_of image m) w a v
  store_mail from to inside size is e f g = fun_ext (λ k.
      by_regions k (Stores k)
      (λ h. untouched k (kept_stacks e k h) (inr (omega arith)))
      (λ h lt. untouched k (kept_sections f k h lt) (inr (omega arith)))
      (λ h lt. untouched k (kept_word g k h lt) (inr (omega arith)))
      (λ h lt. touched m.mail.items n.mail.items mail_start k (at_mail k _ _ _ _ _ h lt) (at_mail k _ _ _ _ _ h lt) h from inside size is)
      (λ lt. untouched k (kept_none k lt) (inl (omega arith))))

-- ---- what is held, where the regions keep their lengths

pub laid_kept : (m n : Memory) → length n.stacks.items ≡ length m.stacks.items → length n.sections.items ≡ length m.sections.items → length n.word.items ≡ length m.word.items → length n.mail.items ≡ length m.mail.items
    → (image : Image) → IsLaidOut image m → IsLaidOut image n
laid_kept m n e f g h image l = record { stacks = e ∙ l.stacks; sections = f ∙ l.sections; word = g ∙ l.word; mail = h ∙ l.mail }
