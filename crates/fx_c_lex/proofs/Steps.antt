-- Tokens one after another: one step of the loop.
use Rattle.std.proofs.Common.{◌≡◌, ℕ, zero, suc, List, [], ◌∷◌, ◌++◌, ◌+◌, ◌-◌, ◌≤◌, ◌<◌, Option, Some, None, Result, Ok, Err, refl, sym, ap, ◌∙◌, subst, arith, append_assoc, drop, length, cond, eqb}
use Rattle.std.specs.Prelude.{Bool, true, false, ◌&&◌, IfSome, option_map, not}
use Rattle.std.specs.List.{position_or_len}
use Rattle.std.proofs.lemmas.List.Sums.{prefix_len-le-length}
use Rattle.std.proofs.lemmas.Bool.{eqb-true}
use Rattle.fx_c_lex.specs.declared.token.Token.{Token}
use Rattle.fx_c_lex.specs.declared.token.TokenKind.{TokenKind}
use Rattle.fx_c_lex.specs.declared.lexer.Front.{Front}
use Rattle.fx_c_lex.specs.declared.lexer.Front.TheVariants.{NoToken, Blank, Lexeme}
use Rattle.fx_c_lex.specs.Bytes.{is_white_space}
use Rattle.fx_c_lex.specs.Lexis.{to_comment_end, longest, or_shorter, token_of_length, longest_token, block_comment, front, front_length, joined, tokens_from}
use Rattle.fx_c_lex.specs.Reading.{follow, IsWithin}

longest_within : (text : List ℕ) (n : ℕ) → IfSome (longest text n) (λ f. (0 < f.1) × (f.1 ≤ n))
longest_within text zero = tt
longest_within text (suc n) = by_kind (token_of_length text (suc n)) (longest text n) (longest_within text n)
  where
    by_kind : (kind : Option TokenKind) (shorter : Option (TokenKind × ℕ)) → IfSome shorter (λ f. (0 < f.1) × (f.1 ≤ n)) → IfSome (or_shorter (suc n) kind shorter) (λ f. (0 < f.1) × (f.1 ≤ suc n))
    by_kind None None h = tt
    by_kind None (Some f) h = (h.0, omega arith)
    by_kind (Some kind) shorter h = (omega arith, omega arith)

pub comment_within : (text : List ℕ) → IfSome (to_comment_end text) (λ n. n ≤ length text)
comment_within [] = tt
comment_within (b ∷ []) = elim (eqb b 42) as (λ t. IfSome (cond (t && false) (Some 2) None) (λ n. n ≤ 1)) [ true ↦ tt | false ↦ tt ]
comment_within (b ∷ c ∷ text) = by_case (eqb b 42 && eqb c 47) (to_comment_end (c ∷ text)) (comment_within (c ∷ text))
  where
    by_case : (t : Bool) (rest : Option ℕ) → IfSome rest (λ n. n ≤ length (c ∷ text)) → IfSome (cond t (Some 2) (option_map (λ n. n + 1) rest)) (λ n. n ≤ length (b ∷ c ∷ text))
    by_case true rest h = omega arith
    by_case false None h = tt
    by_case false (Some n) h = omega arith

found_within : (n : ℕ) (found : Option (TokenKind × ℕ)) → IfSome found (λ f. (0 < f.1) × (f.1 ≤ n)) → IsWithin n (longest_token found)
found_within n None h = tt
found_within n (Some f) h = h

block_within : (n m : ℕ) (found : Option ℕ) → n + 2 ≤ m → IfSome found (λ k. k ≤ n) → IsWithin m (block_comment found)
block_within n m None h within = tt
block_within n m (Some k) h within = (omega arith, omega arith)

-- what stands at the front has at least one byte, and ends within the text
pub front_within : (text : List ℕ) → 0 < length text → IsWithin (length text) (front text)
front_within [] some = absurd (omega arith)
front_within (b ∷ []) some = by_case (is_white_space b) (eqb 47 b)
  where
    by_case : (white slash : Bool) → IsWithin 1 (cond white (Blank 1) (cond (slash && false) (block_comment None) (cond (slash && false) (Blank (position_or_len (λ b. eqb b 10) (b ∷ []))) (longest_token (longest (b ∷ []) 1)))))
    by_case true slash = (omega arith, omega arith)
    by_case false true = found_within 1 (longest (b ∷ []) 1) (longest_within (b ∷ []) 1)
    by_case false false = found_within 1 (longest (b ∷ []) 1) (longest_within (b ∷ []) 1)
front_within (b ∷ c ∷ text) some = by_case (is_white_space b) (eqb 47 b) refl (eqb 42 c) (eqb 47 c)
  where
    from_slash : b ≡ 47 → 0 < position_or_len (λ b. eqb b 10) (b ∷ c ∷ text)
    from_slash e = subst (λ b. 0 < position_or_len (λ x. eqb x 10) (b ∷ c ∷ text)) (sym e) (omega arith)

    by_case : (white slash : Bool) → eqb 47 b ≡ slash → (star slash_2 : Bool) → IsWithin (length (b ∷ c ∷ text)) (cond white (Blank 1) (cond (slash && (star && true)) (block_comment (to_comment_end text)) (cond (slash && (slash_2 && true)) (Blank (position_or_len (λ b. eqb b 10) (b ∷ c ∷ text))) (longest_token (longest (b ∷ c ∷ text) (length (b ∷ c ∷ text)))))))
    by_case true slash e star slash_2 = (omega arith, omega arith)
    by_case false false e star slash_2 = found_within (length (b ∷ c ∷ text)) _ (longest_within (b ∷ c ∷ text) (length (b ∷ c ∷ text)))
    by_case false true e true slash_2 = block_within (length text) (length (b ∷ c ∷ text)) (to_comment_end text) (omega arith) (comment_within text)
    by_case false true e false true = (from_slash (sym (eqb-true 47 b e)), prefix_len-le-length (λ x. not (eqb x 10)) (b ∷ c ∷ text))
    by_case false true e false false = found_within (length (b ∷ c ∷ text)) _ (longest_within (b ∷ c ∷ text) (length (b ∷ c ∷ text)))

pub blank_within : (n : ℕ) (text : List ℕ) (f : Front) → 0 < length text → f ≡ front text → f ≡ Blank n → (0 < n) × (n ≤ length text)
blank_within n text f some is blank = subst (IsWithin (length text)) (sym is ∙ blank) (front_within text some)

pub lexeme_within : (n : ℕ) (kind : TokenKind) (text : List ℕ) (f : Front) → 0 < length text → f ≡ front text → f ≡ Lexeme kind n → (0 < n) × (n ≤ length text)
lexeme_within n kind text f some is lexeme = subst (IsWithin (length text)) (sym is ∙ lexeme) (front_within text some)

-- bytes that belong to what stands before
skipped : (at n : ℕ) (text : List ℕ) → n ≤ length text → tokens_from at n text ≡ tokens_from (at + n) 0 (drop n text)
skipped at zero text h = ap (λ k. tokens_from k 0 text) (omega arith)
skipped at (suc n) [] h = absurd (omega arith)
skipped at (suc n) (b ∷ text) h =
    let sum : at + 1 + n ≡ at + suc n = omega arith in
    skipped (at + 1) n text (omega arith) ∙ ap (λ k. tokens_from k 0 (drop n text)) sum

-- what follows n bytes that stand at the front
pub stepped : (at n : ℕ) (text : List ℕ) (f : Front) → 0 < length text → front text ≡ f → front_length f ≡ n → 0 < n → n ≤ length text → tokens_from at 0 text ≡ joined at f (tokens_from (at + n) 0 (drop n text))
stepped at n [] f some is long n_some within = absurd (omega arith)
stepped at zero (b ∷ text) f some is long n_some within = absurd (omega arith)
stepped at (suc n) (b ∷ text) f some is long n_some within =
    let sum : at + 1 + n ≡ at + suc n = omega arith in
    let less : front_length (front (b ∷ text)) - 1 ≡ n = omega (arith, ap front_length is) in
    ap (λ k. joined at (front (b ∷ text)) (tokens_from (at + 1) k text)) less
    ∙ ap (λ f. joined at f (tokens_from (at + 1) n text)) is
    ∙ ap (joined at f) (skipped (at + 1) n text (omega arith) ∙ ap (λ k. tokens_from k 0 (drop n text)) sum)

-- nothing but white space or a comment
pub blank_step : (at n : ℕ) (text : List ℕ) (tokens : List Token) → 0 < length text → front text ≡ Blank n → 0 < n → n ≤ length text → follow tokens (tokens_from (at + n) 0 (drop n text)) ≡ follow tokens (tokens_from at 0 text)
blank_step at n text tokens some is n_some within = ap (follow tokens) (sym (stepped at n text (Blank n) some is refl n_some within))

pub lexeme_step : (at n : ℕ) (kind : TokenKind) (text : List ℕ) (tokens more : List Token) → more ≡ tokens ++ record { kind = kind; start = at; end = at + n } ∷ [] → 0 < length text → front text ≡ Lexeme kind n → 0 < n → n ≤ length text → follow more (tokens_from (at + n) 0 (drop n text)) ≡ follow tokens (tokens_from at 0 text)
lexeme_step at n kind text tokens more pushed some is n_some within =
    later (tokens_from (at + n) 0 (drop n text)) ∙ ap (follow tokens) (sym (stepped at n text (Lexeme kind n) some is refl n_some within))
  where
    later : (rest : Result (List Token) ℕ) → follow more rest ≡ follow tokens (joined at (Lexeme kind n) rest)
    later (Ok rest) = ap (λ (l : List Token). Ok (l ++ rest)) pushed ∙ ap (λ (l : List Token). Ok l) (append_assoc tokens (record { kind = kind; start = at; end = at + n } ∷ []) rest)
    later (Err place) = refl

pub no_step : (at : ℕ) (text : List ℕ) (tokens : List Token) → 0 < length text → front text ≡ NoToken → follow tokens (tokens_from at 0 text) ≡ Err at
no_step at [] tokens some is = absurd (omega arith)
no_step at (b ∷ text) tokens some is =
    ap (λ f. follow tokens (joined at f (tokens_from (at + 1) (front_length f - 1) text))) is

pub none_follow : (read : Result (List Token) ℕ) → follow [] read ≡ read
none_follow (Ok tokens) = refl
none_follow (Err place) = refl

pub ruleset token_steps = (blank_step, lexeme_step, no_step, none_follow)
