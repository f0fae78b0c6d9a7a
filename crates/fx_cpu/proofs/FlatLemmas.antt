use Rattle.std.proofs.Common.{inr, lt-ltb, le-ltb, ◌≡◌, ◌≢◌, ◌<◌, ◌≤◌, ◌+◌, ◌-◌, ◌/◌, ◌%◌, ◌^◌, ℕ, List, length, arith, ap, sym, add-one, ◌∙◌, ⊎_elim, get_or-set_other, get_or-set_same, bit_and}
use Rattle.std.specs.Prelude.{slice_index, slice_set, nat_le, nat_lt}
use Rattle.std.proofs.lemmas.Bool.{cond-true, cond-false, cases_eq, cases_lt, and_from, and_left, and_right, le-leb, lt-leb}
use Rattle.std.proofs.lemmas.Bool.Decides.{nat_tests}
use Rattle.std.proofs.lemmas.Nat.{and_mask}
use Rattle.std.proofs.Math.Nat.{pow-suc, div-div-eq-div-mul}
use Rattle.fx_x64_forms.specs.Numbers.{width_bytes}
use Rattle.fx_x64_forms.specs.declared.operand.Width.{Width}
use Rattle.fx_cpu.proofs.Memory.{byte_other, byte_at, beyond}
use Rattle.fx_cpu.specs.Flat.{written, bytes_of}
use Rattle.fx_cpu.specs.Memory.{byte_of, stored}

pub next_rest : (v i rest : ℕ) → rest ≡ v / 256 ^ i → rest / 256 ≡ v / 256 ^ (i + 1)
next_rest v i rest e = ap (λ x. x / 256) e ∙ div-div-eq-div-mul v (256 ^ i) 256 ∙ ap (λ x. v / x) (rw (add-one, pow-suc 256 i))

written_other : (m : ℕ → ℕ) (n a v k : ℕ) → k ≢ a + n → written m (n + 1) a v k ≡ written m n a v k
written_other m n a v k h = grind (arith, nat_tests)

written_here : (m : ℕ → ℕ) (n a v : ℕ) → written m (n + 1) a v (a + n) ≡ byte_of v n
written_here m n a v =
    cond-true _ _ _ (and_from (nat_le a (a + n)) (nat_lt (a + n) (a + (n + 1))) (le-leb a (a + n) (omega arith)) (lt-ltb (a + n) (a + (n + 1)) (omega arith)))
    ∙ ap (byte_of v) (omega arith)

pub next_byte : (s f : List ℕ) (n a v rest k : ℕ) → a + n < length s → rest ≡ v / 256 ^ n → slice_index s k ≡ written (bytes_of f) n a v k → slice_index (slice_set s (a + n) (bit_and rest 255)) k ≡ written (bytes_of f) (n + 1) a v k
next_byte s f n a v rest k p e h =
    ⊎_elim
    (λ q. rw q (get_or-set_same {A = ℕ} s (a + n) (bit_and rest 255) 0 p ∙ and_mask rest 8 ∙ ap (λ x. x % 256) e ∙ sym (written_here (bytes_of f) n a v)))
    (λ q. get_or-set_other {A = ℕ} s (a + n) k (bit_and rest 255) 0 q ∙ h ∙ sym (written_other (bytes_of f) n a v k q))
    (cases_eq k (a + n))

pub written_none : (m : ℕ → ℕ) (a v k : ℕ) → m k ≡ written m 0 a v k
written_none m a v k = grind (arith, nat_tests)

-- what is written below the last address is stored
pub stored_written : (m : ℕ → ℕ) (w : Width) (a v k : ℕ) → a + width_bytes w ≤ 2 ^ 64 → written m (width_bytes w) a v k ≡ stored m w a v k
stored_written m w a v k h =
    ⊎_elim
    (λ p. cond-false _ _ _ (and_left (nat_le a k) (nat_lt k (a + width_bytes w)) (lt-leb a k p)) ∙ sym (byte_other m w a v k (omega arith) (inr (p, h))))
    (λ p.
    ⊎_elim
    (λ q.
    cond-true _ _ _ (and_from (nat_le a k) (nat_lt k (a + width_bytes w)) (le-leb a k p) (lt-ltb k (a + width_bytes w) q))
    ∙ sym (byte_at m w a v k (k - a) (omega arith) (omega arith) (omega arith)))
    (λ q. cond-false _ _ _ (and_right (nat_le a k) (nat_lt k (a + width_bytes w)) (le-ltb k (a + width_bytes w) q)) ∙ sym (beyond m w a v k q h))
    (cases_lt k (a + width_bytes w)))
    (cases_lt k a)
