-- The bytes 0F 01 stand nowhere in the code, so WRPKRU's bytes don't either.
use Rattle.std.proofs.Common.{◌≡◌, ℕ, zero, suc, ◌+◌, ◌-◌, ◌*◌, ◌/◌, ◌%◌, ◌^◌, ◌<◌, ◌≤◌, ◌⊎◌, inl, inr, List, [], ◌∷◌, ◌++◌, length, replicate, refl, ap, sym, ◌∙◌, subst, arith, Bool, true, false, ◌==◌, cond, not, ◌&&◌, IsTrue, Option, Some, None}
use Rattle.std.proofs.lemmas.Bool.Decides.{nat_tests}
use Rattle.std.specs.List.{flat_map}
use Rattle.fx_image.specs.Rules.{is_key_sequence, unlisted_from, first_unlisted}
use Rattle.fx_x64_forms.specs.declared.inst.Inst.TheVariants.{Ret}
use Rattle.fx_x64_code.specs.Spelling.{spelling}
use Rattle.fx_early_image.specs.Code.{putc_bytes, main_bytes, spelled, start_code, abort_code, filled, entry_table, range_bytes, code_bytes}
use Rattle.fx_early_image.proofs.Lengths.{range_length, range_some, range_whole}

-- no 0F directly before a 01
abbrev pub calm : List ℕ → Bool
calm [] = true
calm (x ∷ []) = true
calm (x ∷ y ∷ rest) = not ((1 == y) && (15 == x)) && calm (y ∷ rest)

-- numbers of 8 bits
abbrev pub AreBytes : List ℕ → Type 0
AreBytes [] = Unit {0}
AreBytes (c ∷ cs) = (c < 256) × AreBytes cs

-- what may follow any byte
abbrev pub follows : List ℕ → Bool
follows [] = true
follows (x ∷ rest) = not (1 == x)

split_and : (p q : Bool) → (p && q) ≡ true → (p ≡ true) × (q ≡ true)
split_and true q e = (refl, e)
split_and false q e = cc

both_and : (p q : Bool) → p ≡ true → q ≡ true → (p && q) ≡ true
both_and p q e f = rw (e, f) refl

first_apart : (p q : Bool) → not p ≡ true → not (p && q) ≡ true
first_apart true q e = cc
first_apart false q e = refl

pub calm-append : (xs ys : List ℕ) → calm xs ≡ true → calm ys ≡ true → follows ys ≡ true → calm (xs ++ ys) ≡ true
calm-append [] ys a b f = b
calm-append (x ∷ []) [] a b f = refl
calm-append (x ∷ []) (y ∷ ys) a b f = both_and _ _ (first_apart (1 == y) (15 == x) f) b
calm-append (x ∷ z ∷ xs) ys a b f = let s = split_and _ _ a in both_and _ _ s.0 (calm-append (z ∷ xs) ys s.1 b f)

pub calm-replicate : (n : ℕ) → (calm (replicate n 0xf4) ≡ true) × (follows (replicate n 0xf4) ≡ true)
calm-replicate zero = (refl, refl)
calm-replicate (suc zero) = (refl, refl)
calm-replicate (suc (suc n)) = ((calm-replicate (suc n)).0, refl)

pub calm-filled : (unit : ℕ) (bytes : List ℕ) → calm bytes ≡ true → calm (filled unit bytes) ≡ true
unfolding filled
calm-filled unit bytes c =
    let n = (unit - length bytes % unit) % unit in
    calm-append bytes (replicate n 0xf4) c (calm-replicate n).0 (calm-replicate n).1

and_false : (p : Bool) → (p && false) ≡ false
and_false true = refl
and_false false = refl

calm-putc : (c : ℕ) → c < 256 → calm (putc_bytes c) ≡ true
calm-putc c small =
    let second : c / 256 % 256 ≡ 0 = omega arith in
    let third : c / 65536 % 256 ≡ 0 = omega arith in
    let fourth : c / 16777216 % 256 ≡ 0 = omega arith in
    simp (second, third, fourth, and_false)

pub calm-putcs : (constants : List ℕ) → AreBytes constants → (calm (flat_map putc_bytes constants) ≡ true) × (follows (flat_map putc_bytes constants) ≡ true)
calm-putcs [] small = (refl, refl)
calm-putcs (c ∷ cs) small =
    let rest = calm-putcs cs small.1 in
    (calm-append (putc_bytes c) (flat_map putc_bytes cs) (calm-putc c small.0) rest.0 rest.1, refl)

pub calm-main : (constants : List ℕ) → AreBytes constants → calm (main_bytes constants) ≡ true
calm-main constants small =
    let body = calm-putcs constants small in
    calm-append (72 ∷ 199 ∷ 192 ∷ 0 ∷ 0 ∷ 16 ∷ 15 ∷ flat_map putc_bytes constants) (spelling Ret) (calm-append (72 ∷ 199 ∷ 192 ∷ 0 ∷ 0 ∷ 16 ∷ 15 ∷ []) (flat_map putc_bytes constants) refl body.0 body.1) refl refl

pub calm-range : (constants : List ℕ) → AreBytes constants → calm (range_bytes constants) ≡ true
unfolding range_bytes
calm-range constants small =
    calm-filled 4096 (entry_table ++ main_bytes constants)
    (calm-append entry_table (main_bytes constants) (calm-filled 16 (0xe9 ∷ 11 ∷ 0 ∷ 0 ∷ 0 ∷ []) refl) (calm-main constants small) refl)

-- a start in a whole number of pages, up to four
pub pages : (n : ℕ) → 4096 ≤ n → n ≤ 16384 → n % 4096 ≡ 0 → (n ≡ 4096) ⊎ ((n ≡ 8192) ⊎ ((n ≡ 12288) ⊎ (n ≡ 16384)))
pages n some most whole = grind arith

calm-start : (n : ℕ) → (n ≡ 4096) ⊎ ((n ≡ 8192) ⊎ ((n ≡ 12288) ⊎ (n ≡ 16384))) → calm (spelled (start_code n)) ≡ true
calm-start n (inl e) = subst (λ m. calm (spelled (start_code m)) ≡ true) (sym e) refl
calm-start n (inr (inl e)) = subst (λ m. calm (spelled (start_code m)) ≡ true) (sym e) refl
calm-start n (inr (inr (inl e))) = subst (λ m. calm (spelled (start_code m)) ≡ true) (sym e) refl
calm-start n (inr (inr (inr e))) = subst (λ m. calm (spelled (start_code m)) ≡ true) (sym e) refl

pub calm-code : (constants : List ℕ) → length constants ≤ 1000 → AreBytes constants → calm (code_bytes constants) ≡ true
unfolding code_bytes
calm-code constants few small =
    let n = length (range_bytes constants) in
    let start = calm-start n (pages n (range_some constants) (range_length constants few) (range_whole constants)) in
    calm-filled 4096 ((range_bytes constants ++ spelled (start_code n)) ++ spelled abort_code)
    (calm-append (range_bytes constants ++ spelled (start_code n)) (spelled abort_code)
    (calm-append (range_bytes constants) (spelled (start_code n)) (calm-range constants small) start refl) refl refl)

-- ---- where no 0F stands before a 01, WRPKRU's bytes stand nowhere

apart : (p q r : Bool) → not (q && p) ≡ true → (p && (q && r)) ≡ false
apart true true r e = cc
apart true false r e = refl
apart false q r e = refl

not_sequence : (b : ℕ) (bs : List ℕ) → calm (b ∷ bs) ≡ true → is_key_sequence (b ∷ bs) 0 ≡ false
not_sequence b [] quiet = and_false (15 == b)
not_sequence b (c ∷ bs) quiet = apart (15 == b) (1 == c) _ (split_and _ _ quiet).0

calm-tail : (b : ℕ) (bs : List ℕ) → calm (b ∷ bs) ≡ true → calm bs ≡ true
calm-tail b [] quiet = refl
calm-tail b (c ∷ bs) quiet = (split_and _ _ quiet).1

pub none_unlisted : (k : ℕ) (bytes : List ℕ) → calm bytes ≡ true → unlisted_from [] k bytes ≡ None
none_unlisted k [] quiet = refl
none_unlisted k (b ∷ bs) quiet =
    ap (λ t. cond (t && true) (Some k) (unlisted_from [] (k + 1) bs)) (not_sequence b bs quiet)
    ∙ none_unlisted (k + 1) bs (calm-tail b bs quiet)
