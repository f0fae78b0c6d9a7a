-- One key more in a PKRU value.
use Rattle.std.proofs.Common.{◌≡◌, ℕ, ◌+◌, ◌*◌, ◌^◌, ◌<◌, ◌≤◌, cond, ltb, List, refl, sym, ap, ◌∙◌, arith, add-one}
use Rattle.std.proofs.Math.Nat.{pow-suc, pow-le-pow_right, mul-le-mul_left}
use Rattle.std.proofs.lemmas.Bool.{cond-false, le-ltb}
use Rattle.fx_image.specs.Keys.{keys_below, key_bits}
use Rattle.fx_image.specs.declared.forms.Section.{Section}

pub next_unit : (unit k : ℕ) → unit ≡ 4 ^ k → unit * 4 ≡ 4 ^ (k + 1)
next_unit unit k is = rw (add-one k, pow-suc 4 k) (ap (λ n. n * 4) is)

pub next_value : (sections : List Section) (c k base value unit : ℕ) → unit ≡ 4 ^ k → value ≡ base + keys_below sections c k → 2 ≤ k
    → value + unit * key_bits sections c k ≡ base + keys_below sections c (k + 1)
unfolding keys_below
next_value sections c k base value unit is sum past =
    let here : cond (ltb k 2) 0 (4 ^ k * key_bits sections c k) ≡ unit * key_bits sections c k =
    cond-false {A = ℕ} (ltb k 2) 0 (4 ^ k * key_bits sections c k) (le-ltb k 2 past) ∙ ap (λ n. n * key_bits sections c k) (sym is) in
    rw (add-one k) (omega (arith, here, sum))

pub next_small : (value unit bits : ℕ) → value < unit → bits < 4 → value + unit * bits < unit * 4
next_small value unit bits small few =
    let le : bits ≤ 3 = omega arith in
    omega (arith, mul-le-mul_left unit le)

pub unit_bound : (unit k : ℕ) → unit ≡ 4 ^ k → k < 16 → unit ≤ 1073741824
unit_bound unit k is below =
    let four : 0 < 4 = omega arith in
    let le : k ≤ 15 = omega arith in
    let most : 4 ^ k ≤ 4 ^ 15 = pow-le-pow_right four le in
    omega (arith, most, is)

pub product_bound : (unit bits : ℕ) → unit ≤ 1073741824 → bits < 4 → unit * bits ≤ 3221225472
product_bound unit bits most few =
    let le : bits ≤ 3 = omega arith in
    omega (arith, mul-le-mul_left unit le, most)

pub none_below : (sections : List Section) (c : ℕ) → keys_below sections c 2 ≡ 0
unfolding keys_below
none_below sections c = refl
