-- An integer as a long is the same number.
use Rattle.std.proofs.Common.{◌≡◌, Bool, true, false, ℕ, ◌+◌, ◌-◌, ◌*◌, ◌%◌, ◌^◌, ◌<◌, ◌≤◌, if◌then◌else◌, refl, arith}
use Rattle.std.specs.Prelude.{nat_le, pos, ◌-ℤ◌}
use Rattle.std.proofs.lemmas.Bool.Decides.{nat_tests}
use Rattle.std.proofs.lemmas.Int.{ints}
use Rattle.fx_c_ast.specs.declared.operator.IntType.{IntType}
use Rattle.fx_c_ast.specs.declared.operator.IntType.TheVariants.{Char, Uchar, Short, Ushort, Int, Uint, Long, Ulong}
use Rattle.fx_word_ops.specs.Words.{signed}
use Rattle.fx_c_lower_law.proofs.Relation.{is_wide}
use Rattle.fx_c_mean_blocks.specs.Integers.{number, converted}

upper : (h x : ℕ) → h ≤ x → x < 2 * h → h ≤ 2 ^ 31 → signed (2 ^ 63) (((x + (2 ^ 64 - 2 * h)) % 2 ^ 64) % 2 ^ 64) ≡ pos x -ℤ pos (2 * h)
upper h x a b c =
    let e : ((x + (2 ^ 64 - 2 * h)) % 2 ^ 64) % 2 ^ 64 ≡ x + (2 ^ 64 - 2 * h) = omega arith in
    let t : nat_le (2 ^ 63) (x + (2 ^ 64 - 2 * h)) ≡ true = grind (arith, nat_tests) in
    rw (e, t) (grind (arith, ints))

lower : (x : ℕ) → x < 2 ^ 32 → signed (2 ^ 63) ((x % 2 ^ 64) % 2 ^ 64) ≡ pos x
lower x a =
    let e : (x % 2 ^ 64) % 2 ^ 64 ≡ x = omega arith in
    let t : nat_le (2 ^ 63) x ≡ false = grind (arith, nat_tests) in
    rw (e, t)

signs : (h x : ℕ) (b : Bool) → nat_le h x ≡ b → x < 2 * h → h ≤ 2 ^ 31 → signed (2 ^ 63) (((if b then x + (2 ^ 64 - 2 * h) else x) % 2 ^ 64) % 2 ^ 64) ≡ (if b then pos x -ℤ pos (2 * h) else pos x)
signs h x true e a c = upper h x (grind (arith, nat_tests)) a c
signs h x false e a c = lower x (omega (arith, a, c))

pub wide_is : (i : IntType) → is_wide i ≡ true → (w : ℕ) → number Long (converted i Long w) ≡ number i w
wide_is Char e w = signs (2 ^ 7) (w % 2 ^ 8) (nat_le (2 ^ 7) (w % 2 ^ 8)) refl (omega arith) (omega arith)
wide_is Uchar e w = lower (w % 2 ^ 8) (omega arith)
wide_is Short e w = signs (2 ^ 15) (w % 2 ^ 16) (nat_le (2 ^ 15) (w % 2 ^ 16)) refl (omega arith) (omega arith)
wide_is Ushort e w = lower (w % 2 ^ 16) (omega arith)
wide_is Int e w = signs (2 ^ 31) (w % 2 ^ 32) (nat_le (2 ^ 31) (w % 2 ^ 32)) refl (omega arith) (omega arith)
wide_is Uint e w = lower (w % 2 ^ 32) (omega arith)
wide_is Long e w = absurd cc
wide_is Ulong e w = absurd cc
