-- A text has no more tokens than bytes.
use Rattle.std.proofs.Common.{◌≡◌, ℕ, suc, ◌+◌, ◌^◌, ◌<◌, ◌≤◌, List, [], ◌∷◌, length, refl, ap, arith}
use Rattle.fx_c_lex.specs.declared.token.Token.{Token}
use Rattle.fx_c_lex.specs.Laws.{IsBlankTo, nothing, more, InOrder}
use Rattle.fx_c_parse.specs.Words.{words}

blank_ascends : (text : List ℕ) (at to : ℕ) → IsBlankTo text at to → at ≤ to
blank_ascends _ _ _ (nothing text at) = omega arith
blank_ascends _ _ _ (more text at n to some within blank rest) = omega (arith, blank_ascends text (at + n) to rest)

counted : (text : List ℕ) (ts : List Token) (at : ℕ) → InOrder text at ts → at + length ts ≤ length text
counted text [] at h = omega (arith, blank_ascends text at (length text) h)
counted text (t ∷ ts) at h = omega (arith, h.0, h.2.some, counted text ts t.end h.3)

pub words_length : (text : List ℕ) (ts : List Token) → length (words text ts) ≡ length ts
words_length text [] = refl
words_length text (t ∷ ts) = ap suc (words_length text ts)

pub no_more_words : (text : List ℕ) (ts : List Token) → InOrder text 0 ts → length (words text ts) ≤ length text
no_more_words text ts h = omega (arith, counted text ts 0 h, words_length text ts)

pub words_fit : (text : List ℕ) (us ts : List Token) → us ≡ ts → InOrder text 0 ts → length text ≤ 1048576 → length (words text us) < 2 ^ 32
words_fit text us ts e h le =
    let at : length (words text us) ≡ length (words text ts) = ap (λ l. length (words text l)) e in
    let less = no_more_words text ts h in
    omega (arith, at, less, le)
