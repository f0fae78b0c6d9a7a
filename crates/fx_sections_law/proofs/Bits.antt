-- The bits of a PKRU value.
use Rattle.std.proofs.Common.{◌≡◌, ℕ, ◌+◌, ◌*◌, ◌/◌, ◌%◌, ◌^◌, ◌<◌, ◌≤◌, Bool, true, false, ◌&&◌, ◌||◌, if◌then◌else◌, nat_eq, not, List, length, get_or, Some, None, refl, sym, ap, ◌∙◌, arith}
use Rattle.std.proofs.Math.Nat.{div-div-eq-div-mul}
use Rattle.std.proofs.lemmas.Nat.{pow-add, mul-pow}
use Rattle.std.proofs.lemmas.Grind.{pow_more}
use Rattle.std.specs.Int.{bit_at}
use Rattle.fx_config.specs.declared.configuration.Mechanism.{Mechanism}
use Rattle.fx_grants.specs.declared.grants.Pair.{Pair}
use Rattle.fx_grants.specs.Sets.{has_member}
use Rattle.fx_image.specs.declared.forms.Section.{Section}
use Rattle.fx_image.specs.Keys.{key_bits, key_read, key_written, pkru_of}
use Rattle.fx_sections.specs.declared.regions.Room.{Room}
use Rattle.fx_sections.specs.Pairs.{is_keyed}
use Rattle.fx_vm_pages.specs.Entries.{is_writable, is_device}
use Rattle.fx_vm_pages.specs.declared.entry.PageFlags.{PageFlags}
use Rattle.fx_vm_pages.specs.declared.access.Access.TheVariants.{Read, Write}
use Rattle.fx_vm_pages.specs.declared.access.Refusal.TheVariants.{Permission, Key}
use Rattle.fx_vm_pages.specs.Access.{verdict}
use Rattle.fx_sections_law.specs.Permits.{value_of, checked, allowed, Permits}
use Rattle.fx_sections_law.proofs.Digits.{digit, lowest}
use Rattle.fx_sections_law.proofs.Found.{shown, one_there, none_above}

fours : (k : ℕ) → 2 ^ (2 * k) ≡ 4 ^ k
fours k = ap (λ n. 2 ^ n) (twice k) ∙ pow-add 2 k k ∙ sym (mul-pow 2 2 k)
  where
    twice : (n : ℕ) → 2 * n ≡ n + n
    twice n = omega arith

even_bit : (v k : ℕ) → bit_at v (2 * k) ≡ v / 4 ^ k % 2
even_bit v k = ap (λ u. v / u % 2) (fours k)

odd_bit : (v k : ℕ) → bit_at v (2 * k + 1) ≡ v / 4 ^ k / 2 % 2
odd_bit v k = ap (λ u. v / u % 2) (pow_more 2 (2 * k) ∙ ap (λ u. u * 2) (fours k)) ∙ ap (λ n. n % 2) (sym (div-div-eq-div-mul v (4 ^ k) 2))

low_part : (b q : ℕ) → (b + 4 * q) % 2 ≡ b % 2
low_part b q = omega arith

high_part : (b q : ℕ) → (b + 4 * q) / 2 % 2 ≡ b / 2 % 2
high_part b q = omega arith

-- the two bits of a key
read_bit : (r w : Bool) → ((if r then 0 else 1) + (if w then 0 else 2)) % 2 ≡ (if r then 0 else 1)
read_bit true true = refl
read_bit true false = refl
read_bit false true = refl
read_bit false false = refl

write_bit : (r w : Bool) → ((if r then 0 else 1) + (if w then 0 else 2)) / 2 % 2 ≡ (if w then 0 else 1)
write_bit true true = refl
write_bit true false = refl
write_bit false true = refl
write_bit false false = refl

scheduler_bit : ℕ → ℕ → ℕ
scheduler_bit scheduler c = if nat_eq c scheduler then 0 else 8

scheduler_small : (scheduler c : ℕ) → scheduler_bit scheduler c < 16
unfolding scheduler_bit
scheduler_small scheduler c = by (nat_eq c scheduler)
  where
    by : (b : Bool) → (if b then 0 else 8) < 16
    by true = omega arith
    by false = omega arith

pub key_reads : (sections : List Section) (scheduler c k : ℕ) → 2 ≤ k → k < 16 → bit_at (pkru_of sections scheduler c) (2 * k) ≡ (if key_read sections c k then 0 else 1)
unfolding pkru_of scheduler_bit
key_reads sections scheduler c k le less =
    let d = digit sections c (scheduler_bit scheduler c) (scheduler_small scheduler c) k le less in
    even_bit (pkru_of sections scheduler c) k ∙ ap (λ n. n % 2) d.1 ∙ low_part (key_bits sections c k) d.0 ∙ read_bit (key_read sections c k) (key_written sections c k)

pub key_writes : (sections : List Section) (scheduler c k : ℕ) → 2 ≤ k → k < 16 → bit_at (pkru_of sections scheduler c) (2 * k + 1) ≡ (if key_written sections c k then 0 else 1)
unfolding pkru_of scheduler_bit
key_writes sections scheduler c k le less =
    let d = digit sections c (scheduler_bit scheduler c) (scheduler_small scheduler c) k le less in
    odd_bit (pkru_of sections scheduler c) k ∙ ap (λ n. n / 2 % 2) d.1 ∙ high_part (key_bits sections c k) d.0 ∙ write_bit (key_read sections c k) (key_written sections c k)

low_bits : (b : Bool) (q : ℕ) → let v = (if b then 0 else 8) + 16 * q in (bit_at v 0 ≡ 0) × (bit_at v 1 ≡ 0) × (bit_at v 2 ≡ 0) × (bit_at v 3 ≡ (if b then 0 else 1))
low_bits true q = (omega arith, omega arith, omega arith, omega arith)
low_bits false q = (omega arith, omega arith, omega arith, omega arith)

first_bits : (sections : List Section) (scheduler c : ℕ) → let v = pkru_of sections scheduler c in (bit_at v 0 ≡ 0) × (bit_at v 1 ≡ 0) × (bit_at v 2 ≡ 0) × (bit_at v 3 ≡ (if nat_eq c scheduler then 0 else 1))
unfolding pkru_of scheduler_bit
first_bits sections scheduler c =
    let l = lowest sections c (scheduler_bit scheduler c) (scheduler_small scheduler c) in
    let b = low_bits (nat_eq c scheduler) l.0 in
    (ap (λ v. bit_at v 0) l.1 ∙ b.0, ap (λ v. bit_at v 1) l.1 ∙ b.1, ap (λ v. bit_at v 2) l.1 ∙ b.2, ap (λ v. bit_at v 3) l.1 ∙ b.3)

-- ---- the access check, by the two bits of the page's key

-- whether a bit that is clear exactly under a condition is set
set_unless : (bit : ℕ) (b : Bool) → bit ≡ (if b then 0 else 1) → nat_eq bit 1 ≡ not b
set_unless bit true e = ap (λ n. nat_eq n 1) e
set_unless bit false e = ap (λ n. nat_eq n 1) e

-- what is left of the check where the page's flags allow the access
by_lock : (device locked : Bool) → verdict (if device && not true then Some Permission else if locked then Some Key else None) ≡ allowed (not locked)
by_lock true true = refl
by_lock true false = refl
by_lock false true = refl
by_lock false false = refl

unlocked : (r w : Bool) → not (not r || not w) ≡ (r && w)
unlocked true true = refl
unlocked true false = refl
unlocked false w = refl

twice : (r : Bool) → not (not r) ≡ r
twice true = refl
twice false = refl

read_checked : (value : ℕ) (flags : PageFlags) (frame key : ℕ) (r : Bool) → bit_at value (2 * key) ≡ (if r then 0 else 1) → checked value flags frame key Read ≡ allowed r
read_checked value flags frame key r e =
    by_lock (is_device flags) (nat_eq (bit_at value (2 * key)) 1) ∙ ap (λ b. allowed (not b)) (set_unless (bit_at value (2 * key)) r e) ∙ ap allowed (twice r)

write_checked : (value : ℕ) (flags : PageFlags) (frame key : ℕ) (r w : Bool) → is_writable flags ≡ true → bit_at value (2 * key) ≡ (if r then 0 else 1) → bit_at value (2 * key + 1) ≡ (if w then 0 else 1)
    → checked value flags frame key Write ≡ allowed (r && w)
write_checked value flags frame key r w writable e f =
    let locked : Bool = nat_eq (bit_at value (2 * key)) 1 || nat_eq (bit_at value (2 * key + 1)) 1 in
    ap (λ b. verdict (if not b then Some Permission else if is_device flags && not true then Some Permission else if locked then Some Key else None)) writable
    ∙ by_lock (is_device flags) locked
    ∙ ap (λ b. allowed (not (b || nat_eq (bit_at value (2 * key + 1)) 1))) (set_unless (bit_at value (2 * key)) r e)
    ∙ ap (λ b. allowed (not (not r || b))) (set_unless (bit_at value (2 * key + 1)) w f)
    ∙ ap allowed (unlocked r w)

clear_if : (b c : Bool) → b ≡ c → ◌≡◌ {A = ℕ} (if b then 0 else 1) (if c then 0 else 1)
clear_if b c e = ap (λ x. if x then 0 else 1) e

module _ (m : Mechanism) (page : ℕ) (ps : List Pair) (rs : List Room) (scheduler c : ℕ) (keyed : is_keyed m ≡ true) (same : length rs ≡ length ps) (few : length ps ≤ 14) where
  zeroed : (n : ℕ) → n ≡ 0 + n
  zeroed n = omega arith

  reads_bit : (i : ℕ) → i < length ps → (d : Pair) → bit_at (value_of m page ps rs scheduler c) (2 * (i + 2)) ≡ (if has_member (get_or ps i d).readers c then 0 else 1)
  reads_bit i less d =
      let ss : List Section = shown m 0 page ps rs in
      key_reads ss scheduler c (i + 2) (omega arith) (omega arith) ∙ clear_if (key_read ss c (i + 2)) (has_member (get_or ps i d).readers c)
      (ap (λ n. key_read ss c n) (zeroed (i + 2)) ∙ one_there (λ (s : Section). has_member s.readers c) (λ (p : Pair). has_member p.readers c) (λ m k page p r. refl) m 0 page i ps rs d keyed same less)

  writes_bit : (i : ℕ) → i < length ps → (d : Pair) → bit_at (value_of m page ps rs scheduler c) (2 * (i + 2) + 1) ≡ (if has_member (get_or ps i d).writers c then 0 else 1)
  writes_bit i less d =
      let ss : List Section = shown m 0 page ps rs in
      key_writes ss scheduler c (i + 2) (omega arith) (omega arith) ∙ clear_if (key_written ss c (i + 2)) (has_member (get_or ps i d).writers c)
      (ap (λ n. key_written ss c n) (zeroed (i + 2)) ∙ one_there (λ (s : Section). has_member s.writers c) (λ (p : Pair). has_member p.writers c) (λ m k page p r. refl) m 0 page i ps rs d keyed same less)

  unused_read : (k : ℕ) → length ps + 2 ≤ k → k < 16 → bit_at (value_of m page ps rs scheduler c) (2 * k) ≡ 1
  unused_read k le less =
      let ss : List Section = shown m 0 page ps rs in
      key_reads ss scheduler c k (omega arith) less ∙ clear_if (key_read ss c k) false (none_above (λ (s : Section). has_member s.readers c) m 0 page k ps rs keyed (omega arith))

  unused_write : (k : ℕ) → length ps + 2 ≤ k → k < 16 → bit_at (value_of m page ps rs scheduler c) (2 * k + 1) ≡ 1
  unused_write k le less =
      let ss : List Section = shown m 0 page ps rs in
      key_writes ss scheduler c k (omega arith) less ∙ clear_if (key_written ss c k) false (none_above (λ (s : Section). has_member s.writers c) m 0 page k ps rs keyed (omega arith))

  pub permits : (flags : PageFlags) (frame : ℕ) → is_writable flags ≡ true → Permits m page ps rs scheduler c flags frame
  permits flags frame writable =
      let v : ℕ = value_of m page ps rs scheduler c in
      let f = first_bits (shown m 0 page ps rs) scheduler c in
      record {
        reads = λ i less d. read_checked v flags frame (i + 2) (has_member (get_or ps i d).readers c) (reads_bit i less d);
        writes = λ i less d. write_checked v flags frame (i + 2) (has_member (get_or ps i d).readers c) (has_member (get_or ps i d).writers c) writable (reads_bit i less d) (writes_bit i less d);
        unused = λ k le less. (read_checked v flags frame k false (unused_read k le less), write_checked v flags frame k false false writable (unused_read k le less) (unused_write k le less));
        common = (read_checked v flags frame 0 true f.0, write_checked v flags frame 0 true true writable f.0 f.1);
        thread = (read_checked v flags frame 1 true f.2, write_checked v flags frame 1 true (nat_eq c scheduler) writable f.2 f.3);
      }
