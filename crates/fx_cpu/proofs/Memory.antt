use Rattle.std.proofs.Common.{◌≡◌, ◌<◌, ◌≤◌, ◌+◌, ◌-◌, ◌^◌, ◌⊎◌, ℕ, pos, negsuc, arith, Bool, true, false, ap, ◌∙◌, inl, inr, ⊎_elim, lit<, lt-ltb, le-ltb}
use Rattle.std.specs.Prelude.{◌&&◌, nat_lt, if◌then◌else◌}
use Rattle.std.proofs.lemmas.Bool.{cond-true, cond-false, cases_lt, and_from, and_left, and_right}
use Rattle.fx_x64_forms.specs.Numbers.{width_bytes}
use Rattle.fx_x64_forms.specs.declared.operand.Width.{Width}
use Rattle.fx_x64_forms.specs.declared.operand.Width.TheVariants.{W8, W16, W32, W64}
use Rattle.fx_word_ops.specs.Words.{size}
use Rattle.fx_cpu.specs.Memory.{word_at, stored, byte_of, on, behind}
use Rattle.fx_cpu.specs.Registers.{plus, above, below}
use Rattle.fx_cpu.specs.Laws.{Apart}

-- ---- addresses

pub plus_back : (a k : ℕ) → k + 1 ≤ a → a < 2 ^ 64 → plus a (negsuc k) ≡ a - (k + 1)
unfolding plus
plus_back a k p q = omega arith

pub plus_on : (a k : ℕ) → k < 2 ^ 31 → a + k < 2 ^ 64 → plus a (pos k) ≡ a + k
unfolding plus
plus_on a k p q = omega arith

pub below_is : (a : ℕ) → 8 ≤ a → a < 2 ^ 64 → below a ≡ a - 8
unfolding below
below_is a p q = omega arith

pub above_is : (a : ℕ) → a + 8 < 2 ^ 64 → above a ≡ a + 8
unfolding above
above_is a p = omega arith

pub above_back : (a : ℕ) → 8 ≤ a → a < 2 ^ 64 → above (a - 8) ≡ a
unfolding above
above_back a p q = omega arith

-- ---- bytes

width_small : (w : Width) → width_bytes w < 9
width_small W8 = lit< tt
width_small W16 = lit< tt
width_small W32 = lit< tt
width_small W64 = lit< tt

-- an address away from the n bytes at a
abbrev Away : ℕ → ℕ → ℕ → Type 0
Away a n k = (a + n ≤ k) ⊎ ((k < a) × (a + n ≤ 2 ^ 64))

far : (a n k : ℕ) → k < 2 ^ 64 → Away a n k → n ≤ behind a k
far a n k l (inl h) = omega arith
far a n k l (inr h) = let p = h.0 in let q = h.1 in omega arith

pub byte_other : (m : ℕ → ℕ) (w : Width) (a v k : ℕ) → k < 2 ^ 64 → Away a (width_bytes w) k → stored m w a v k ≡ m k
unfolding stored
byte_other m w a v k l h =
    cond-false _ _ _ (and_right (nat_lt k (2 ^ 64)) (nat_lt (behind a k) (width_bytes w)) (le-ltb (behind a k) (width_bytes w) (far a (width_bytes w) k l h)))

pub byte_at : (m : ℕ → ℕ) (w : Width) (a v k i : ℕ) → k < 2 ^ 64 → behind a k ≡ i → i < width_bytes w → stored m w a v k ≡ byte_of v i
unfolding stored
byte_at m w a v k i l e h =
    cond-true _ _ _ (and_from (nat_lt k (2 ^ 64)) (nat_lt (behind a k) (width_bytes w)) (lt-ltb k (2 ^ 64) l) (lt-ltb (behind a k) (width_bytes w) (rw e h)))
    ∙ ap (byte_of v) e

-- an address behind the n bytes at a, where they don't go past the last address
pub beyond : (m : ℕ → ℕ) (w : Width) (a v k : ℕ) → a + width_bytes w ≤ k → a + width_bytes w ≤ 2 ^ 64 → stored m w a v k ≡ m k
unfolding stored
beyond m w a v k p h =
    ⊎_elim
    (λ q. byte_other m w a v k q (inl p))
    (λ q. cond-false _ _ _ (and_left (nat_lt k (2 ^ 64)) (nat_lt (behind a k) (width_bytes w)) (le-ltb k (2 ^ 64) q)))
    (cases_lt k (2 ^ 64))

byte_first : (m : ℕ → ℕ) (w : Width) (a v : ℕ) → a < 2 ^ 64 → 0 < width_bytes w → stored m w a v a ≡ byte_of v 0
byte_first m w a v l h = byte_at m w a v a 0 l (omega arith) h

byte_same : (m : ℕ → ℕ) (w : Width) (a v i : ℕ) → a < 2 ^ 64 → i < width_bytes w → stored m w a v (on a i) ≡ byte_of v i
byte_same m w a v i l h = let s = width_small w in byte_at m w a v (on a i) i (omega arith) (omega arith) h

-- ---- words

outside : (a n b k i : ℕ) → i < k → Apart a n b k → Away a n (on b i)
outside a n b k i p (inl h) = let q = h.0 in let r = h.1 in inl (omega arith)
outside a n b k i p (inr h) = let q = h.0 in let r = h.1 in inr (omega arith, r)

first_outside : (a n b k : ℕ) → 0 < k → Apart a n b k → Away a n b
first_outside a n b k p (inl h) = inl h.0
first_outside a n b k p (inr h) = let q = h.0 in inr (omega arith, h.1)

inside : (a n b k : ℕ) → 0 < k → Apart a n b k → b < 2 ^ 64
inside a n b k p (inl h) = let q = h.1 in omega arith
inside a n b k p (inr h) = let q = h.0 in let r = h.1 in omega arith

module _ (m : ℕ → ℕ) (w : Width) (a v : ℕ) where
  other : (u : Width) (b i : ℕ) → i < width_bytes u → Apart a (width_bytes w) b (width_bytes u) → stored m w a v (on b i) ≡ m (on b i)
  other u b i p h = byte_other m w a v (on b i) (omega arith) (outside a (width_bytes w) b (width_bytes u) i p h)

  other_first : (u : Width) (b : ℕ) → 0 < width_bytes u → Apart a (width_bytes w) b (width_bytes u) → stored m w a v b ≡ m b
  other_first u b p h = byte_other m w a v b (inside a (width_bytes w) b (width_bytes u) p h) (first_outside a (width_bytes w) b (width_bytes u) p h)

  pub read_other : (u : Width) (b : ℕ) → Apart a (width_bytes w) b (width_bytes u) → word_at (stored m w a v) u b ≡ word_at m u b
  unfolding word_at
  read_other W8 b h = other_first W8 b (lit< tt) h
  read_other W16 b h = rw (other_first W16 b (lit< tt) h, other W16 b 1 (lit< tt) h)
  read_other W32 b h = rw (other_first W32 b (lit< tt) h, other W32 b 1 (lit< tt) h, other W32 b 2 (lit< tt) h, other W32 b 3 (lit< tt) h)
  read_other W64 b h =
      let k : (i : ℕ) → i < 8 → stored m w a v (on b i) ≡ m (on b i) = λ i p. other W64 b i p h in
      rw (other_first W64 b (lit< tt) h, k 1 (lit< tt), k 2 (lit< tt), k 3 (lit< tt), k 4 (lit< tt), k 5 (lit< tt), k 6 (lit< tt), k 7 (lit< tt))

pub read_same : (m : ℕ → ℕ) (w : Width) (a v : ℕ) → a < 2 ^ 64 → v < size w → word_at (stored m w a v) w a ≡ v
unfolding word_at
read_same m W8 a v l h = rw (byte_first m W8 a v l (lit< tt)) (omega arith)
read_same m W16 a v l h = rw (byte_first m W16 a v l (lit< tt), byte_same m W16 a v 1 l (lit< tt)) (omega arith)
read_same m W32 a v l h =
    let k : (i : ℕ) → i < 4 → stored m W32 a v (on a i) ≡ byte_of v i = λ i p. byte_same m W32 a v i l p in
    rw (byte_first m W32 a v l (lit< tt), k 1 (lit< tt), k 2 (lit< tt), k 3 (lit< tt)) (omega arith)
read_same m W64 a v l h =
    let k : (i : ℕ) → i < 8 → stored m W64 a v (on a i) ≡ byte_of v i = λ i p. byte_same m W64 a v i l p in
    rw (byte_first m W64 a v l (lit< tt), k 1 (lit< tt), k 2 (lit< tt), k 3 (lit< tt), k 4 (lit< tt), k 5 (lit< tt), k 6 (lit< tt), k 7 (lit< tt)) (omega arith)

pub word_fits : (m : ℕ → ℕ) (w : Width) (a : ℕ) → ((k : ℕ) → m k < 256) → word_at m w a < size w
unfolding word_at
word_fits m W8 a h = h a
word_fits m W16 a h = let b0 = h a in let b1 = h (on a 1) in omega arith
word_fits m W32 a h = let b0 = h a in let b1 = h (on a 1) in let b2 = h (on a 2) in let b3 = h (on a 3) in omega arith
word_fits m W64 a h =
    let b0 = h a in let b1 = h (on a 1) in let b2 = h (on a 2) in let b3 = h (on a 3) in
    let b4 = h (on a 4) in let b5 = h (on a 5) in let b6 = h (on a 6) in let b7 = h (on a 7) in omega arith

either_below : (b : Bool) (x y n : ℕ) → x < n → y < n → (if b then x else y) < n
either_below true x y n p q = p
either_below false x y n p q = q

pub stored_bytes : (m : ℕ → ℕ) (w : Width) (a v : ℕ) → ((k : ℕ) → m k < 256) → (k : ℕ) → stored m w a v k < 256
unfolding stored
stored_bytes m w a v h k = either_below (nat_lt k (2 ^ 64) && nat_lt (behind a k) (width_bytes w)) _ _ 256 (omega arith) (h k)
