-- The tokens of a text are those that stand in it in order.
use Rattle.std.proofs.Common.{◌≡◌, ℕ, zero, suc, List, [], ◌∷◌, ◌+◌, ◌-◌, ◌≤◌, ◌<◌, Option, Some, None, Result, Ok, Err, refl, sym, ap, ◌∙◌, subst, arith, drop, take, length, cond, inl, inr, length-drop}
use Rattle.std.specs.Prelude.{Bool, true, false, ◌&&◌, ◌⊎◌, IfOk, nat_eq, codes}
use Rattle.std.specs.List.{starts_with, position_or_len}
use Rattle.std.proofs.lemmas.Bool.{cases_order}
use Rattle.std.proofs.lemmas.List.{drop-drop, drop_all}
use Rattle.fx_c_lex.specs.declared.token.Token.{Token}
use Rattle.fx_c_lex.specs.declared.token.TokenKind.{TokenKind}
use Rattle.fx_c_lex.specs.declared.token.LexError.{LexError}
use Rattle.fx_c_lex.specs.declared.token.LexError.TheVariants.{Byte, OutOfMemory}
use Rattle.fx_c_lex.specs.declared.lexer.Front.{Front}
use Rattle.fx_c_lex.specs.declared.lexer.Front.TheVariants.{NoToken, Blank, Lexeme}
use Rattle.fx_c_lex.specs.Bytes.{is_white_space, is_word_byte, byte_at}
use Rattle.fx_c_lex.specs.Lexis.{meaning, token_of_length, to_comment_end, longest, or_shorter, longest_token, block_comment, front, front_length, joined, tokens_from, tokens_of, Gives}
use Rattle.fx_c_lex.specs.Laws.{IsTokenOf, IsBlankTo, nothing, more, InOrder, IsNoToken, StopsAfter, AreInOrder, AreTheOnly, IsFirstPlace, IfByte}
use Rattle.fx_c_lex.proofs.Steps.{blank_within, lexeme_within, stepped, no_step, none_follow}

-- the longest token is one, and no longer one is

record IsLongest (text : List ℕ) (n : ℕ) (kind : TokenKind) (k : ℕ) : Type 0 where
  is : token_of_length text k ≡ Some kind
  none : (m : ℕ) → k < m → m ≤ n → token_of_length text m ≡ None

abbrev kind_or : TokenKind → Option (TokenKind × ℕ) → TokenKind
kind_or kind None = kind
kind_or kind (Some f) = f.0

abbrev length_or : Option (TokenKind × ℕ) → ℕ
length_or None = 0
length_or (Some f) = f.1

longest_is : (text : List ℕ) (n : ℕ) (kind : TokenKind) (k : ℕ) → longest text n ≡ Some (kind, k) → IsLongest text n kind k
longest_is text zero kind k e = absurd cc
longest_is text (suc n) kind k e = by_kind (token_of_length text (suc n)) refl e (λ f. longest_is text n kind k f)
  where
    by_kind : (here : Option TokenKind) → token_of_length text (suc n) ≡ here → or_shorter (suc n) here (longest text n) ≡ Some (kind, k) → (longest text n ≡ Some (kind, k) → IsLongest text n kind k) → IsLongest text (suc n) kind k
    by_kind None at e again =
        let shorter = again e in
        record {
          is = shorter.is;
          none = λ m gt le. elim (cases_order m (suc n)) [
            | inl same ↦ ap (token_of_length text) same ∙ at
            | inr o ↦ elim o [ inl lt ↦ shorter.none m gt (omega arith) | inr above ↦ absurd (omega arith) ]
          ];
        }
    by_kind (Some here) at e again =
        let kind_is : here ≡ kind = ap (kind_or here) e in
        let length_is : suc n ≡ k = ap length_or e in
        record {
          is = ap (token_of_length text) (sym length_is) ∙ at ∙ ap (λ (k : TokenKind). Some k) kind_is;
          none = λ m gt le. absurd (omega arith);
        }

longest_none : (text : List ℕ) (n : ℕ) → longest text n ≡ None → (m : ℕ) → m ≤ n → token_of_length text m ≡ None
longest_none text zero e m le = let e : m ≡ 0 = omega arith in ap (token_of_length text) e ∙ at_0 (is_word_byte (byte_at text 0) && is_word_byte (byte_at text 0))
  where
    at_0 : (t : Bool) → cond t None (meaning []) ≡ None
    at_0 true = refl
    at_0 false = refl
longest_none text (suc n) e m le = by_kind (token_of_length text (suc n)) refl e (λ f. longest_none text n f m)
  where
    by_kind : (here : Option TokenKind) → token_of_length text (suc n) ≡ here → or_shorter (suc n) here (longest text n) ≡ None → (longest text n ≡ None → m ≤ n → token_of_length text m ≡ None) → token_of_length text m ≡ None
    by_kind None at e again = elim (cases_order m (suc n)) [
      | inl same ↦ ap (token_of_length text) same ∙ at
      | inr o ↦ elim o [ inl lt ↦ again e (omega arith) | inr above ↦ absurd (omega arith) ]
    ]
    by_kind (Some here) at e again = absurd cc

-- a token at the front is the longest
lexeme_is : (text : List ℕ) (kind : TokenKind) (k : ℕ) → front text ≡ Lexeme kind k → IsLongest text (length text) kind k
lexeme_is text kind k e = longest_is text (length text) kind k (by_case (is_white_space (byte_at text 0)) (starts_with nat_eq text (codes "/*")) (starts_with nat_eq text (codes "//")) (to_comment_end (drop 2 text)) (longest text (length text)) e)
  where
    by_case : (white block line : Bool) (end : Option ℕ) (found : Option (TokenKind × ℕ)) → cond white (Blank 1) (cond block (block_comment end) (cond line (Blank (position_or_len (λ b. nat_eq b 10) text)) (longest_token found))) ≡ Lexeme kind k → found ≡ Some (kind, k)
    by_case true block line end found e = absurd cc
    by_case false true line None found e = absurd cc
    by_case false true line (Some n) found e = absurd cc
    by_case false false true end found e = absurd cc
    by_case false false false end None e = absurd cc
    by_case false false false end (Some f) e = let first : f.0 ≡ kind = cc in let second : f.1 ≡ k = cc in (λ i. Some (first i, second i))

none_is : (text : List ℕ) → front text ≡ NoToken → (starts_with nat_eq text (codes "/*") ≡ true) ⊎ ((n : ℕ) → n ≤ length text → token_of_length text n ≡ None)
none_is text e = by_case (is_white_space (byte_at text 0)) (starts_with nat_eq text (codes "/*")) refl (starts_with nat_eq text (codes "//")) (longest text (length text)) refl e
  where
    by_case : (white block : Bool) → starts_with nat_eq text (codes "/*") ≡ block → (line : Bool) (found : Option (TokenKind × ℕ)) → longest text (length text) ≡ found → cond white (Blank 1) (cond block (block_comment (to_comment_end (drop 2 text))) (cond line (Blank (position_or_len (λ b. nat_eq b 10) text)) (longest_token found))) ≡ NoToken → (starts_with nat_eq text (codes "/*") ≡ true) ⊎ ((n : ℕ) → n ≤ length text → token_of_length text n ≡ None)
    by_case true block at line found l e = absurd cc
    by_case false true at line found l e = inl at
    by_case false false at true found l e = absurd cc
    by_case false false at false None l e = inr (λ n le. longest_none text (length text) l n le)
    by_case false false at false (Some f) l e = absurd cc

means_is : (text : List ℕ) (n : ℕ) (kind : TokenKind) → token_of_length text n ≡ Some kind → meaning (take n text) ≡ Some kind
means_is text n kind e = by_case (is_word_byte (byte_at text 0) && is_word_byte (byte_at text n)) (meaning (take n text)) e
  where
    by_case : (t : Bool) (found : Option TokenKind) → cond t None found ≡ Some kind → found ≡ Some kind
    by_case true found e = absurd cc
    by_case false found e = e

token_is : (text : List ℕ) (at n : ℕ) (kind : TokenKind) → 0 < n → n ≤ length (drop at text) → at ≤ length text → front (drop at text) ≡ Lexeme kind n → IsTokenOf text (record { kind = kind; start = at; end = at + n })
token_is text at n kind some le within e =
    let is = lexeme_is (drop at text) kind n e in
    let left = length-drop at text in
    let long : at + n - at ≡ n = omega arith in
    record {
      some = omega arith;
      within = omega arith;
      stands = e ∙ ap (Lexeme kind) (sym long);
      means = ap (λ k. meaning (take k (drop at text))) long ∙ means_is (drop at text) n kind is.is;
      longest = λ m gt le. is.none m (omega arith) (omega arith);
    }

-- what is read at a place, by what stands there

pub record IsPlace (text : List ℕ) (at n : ℕ) (f : Front) : Type 0 where
  pub stands : front (drop at text) ≡ f
  pub some : 0 < n
  pub within : at + n ≤ length text

reads_on : (text : List ℕ) (at n : ℕ) (f : Front) → IsPlace text at n f → n ≡ front_length f → tokens_from at 0 (drop at text) ≡ joined at f (tokens_from (at + n) 0 (drop (at + n) text))
reads_on text at n f p long =
    let left = length-drop at text in
    stepped at n (drop at text) f (let s = p.some in let w = p.within in omega arith) p.stands (sym long) p.some (let w = p.within in omega arith)
    ∙ ap (λ rest. joined at f (tokens_from (at + n) 0 rest)) (drop-drop n at text)

nothing_left : (text : List ℕ) (at : ℕ) → length text ≤ at → tokens_from at 0 (drop at text) ≡ Ok []
nothing_left text at past = ap (tokens_from at 0) (drop_all at text past)

fails_at : (text : List ℕ) (at : ℕ) → at < length text → front (drop at text) ≡ NoToken → tokens_from at 0 (drop at text) ≡ Err at
fails_at text at some stands =
    let left = length-drop at text in
    sym (none_follow (tokens_from at 0 (drop at text))) ∙ no_step at (drop at text) [] (omega arith) stands

blank_place : (text : List ℕ) (at n : ℕ) → at < length text → front (drop at text) ≡ Blank n → IsPlace text at n (Blank n)
blank_place text at n some stands =
    let left = length-drop at text in
    let w = blank_within n (drop at text) _ (omega arith) refl stands in
    record { stands = stands; some = w.0; within = let le = w.1 in omega arith }

lexeme_place : (text : List ℕ) (at n : ℕ) (kind : TokenKind) → at < length text → front (drop at text) ≡ Lexeme kind n → IsPlace text at n (Lexeme kind n)
lexeme_place text at n kind some stands =
    let left = length-drop at text in
    let w = lexeme_within n kind (drop at text) _ (omega arith) refl stands in
    record { stands = stands; some = w.0; within = let le = w.1 in omega arith }

-- white space or a comment before what is in order

blank_first : (text : List ℕ) (at n : ℕ) (ts : List Token) → IsPlace text at n (Blank n) → InOrder text (at + n) ts → InOrder text at ts
blank_first text at n [] p h = more text at n (length text) p.some p.within p.stands h
blank_first text at n (t ∷ ts) p h = (let le = h.0 in omega arith, more text at n t.start p.some p.within p.stands h.1, h.2, h.3)

blank_stop : (text : List ℕ) (at n : ℕ) (ts : List Token) (place : ℕ) → IsPlace text at n (Blank n) → StopsAfter text (at + n) ts place → StopsAfter text at ts place
blank_stop text at n [] place p h = (more text at n place p.some p.within p.stands h.0, h.1)
blank_stop text at n (t ∷ ts) place p h = (let le = h.0 in omega arith, more text at n t.start p.some p.within p.stands h.1, h.2, h.3)

abbrev token_at : ℕ → ℕ → TokenKind → Token
token_at at n kind = record { kind = kind; start = at; end = at + n }

is_token_at : (text : List ℕ) (at n : ℕ) (kind : TokenKind) → IsPlace text at n (Lexeme kind n) → IsTokenOf text (token_at at n kind)
is_token_at text at n kind p =
    let left = length-drop at text in
    token_is text at n kind p.some (let w = p.within in omega arith) (let w = p.within in omega arith) p.stands

-- Ok, and the tokens behind the first
lexeme_ok : (at n : ℕ) (kind : TokenKind) (read : Result (List Token) ℕ) (ts : List Token) → joined at (Lexeme kind n) read ≡ Ok ts → (us : List Token) × (read ≡ Ok us) × (token_at at n kind ∷ us ≡ ts)
lexeme_ok at n kind (Ok us) ts e = (us, refl, cc)
lexeme_ok at n kind (Err place) ts e = absurd cc

lexeme_err : (at n : ℕ) (kind : TokenKind) (read : Result (List Token) ℕ) (place : ℕ) → joined at (Lexeme kind n) read ≡ Err place → read ≡ Err place
lexeme_err at n kind (Ok us) place e = absurd cc
lexeme_err at n kind (Err other) place e = e

in_order : (text : List ℕ) (left at : ℕ) (ts : List Token) → at + left ≡ length text → tokens_from at 0 (drop at text) ≡ Ok ts → (bound : ℕ) → left ≤ bound → InOrder text at ts
in_order text zero at ts all e bound le =
    let none : [] ≡ ts = let f = nothing_left text at (omega arith) in let g : Result (List Token) ℕ = Ok [] in cc in
    let same : at ≡ length text = omega arith in
    subst (InOrder text at) none (subst (λ to. IsBlankTo text at to) same (nothing text at))
in_order text (suc left) at ts all e zero le = absurd (omega arith)
in_order text (suc left) at ts all e (suc bound) le = by_front (front (drop at text)) refl (λ n us some within r. in_order text (suc left - n) (at + n) us (omega arith) r bound (omega arith))
  where
    by_front : (f : Front) → front (drop at text) ≡ f → ((n : ℕ) (us : List Token) → 0 < n → at + n ≤ length text → tokens_from (at + n) 0 (drop (at + n) text) ≡ Ok us → InOrder text (at + n) us) → InOrder text at ts
    by_front NoToken stands again = let f = fails_at text at (omega arith) stands in absurd cc
    by_front (Blank n) stands again =
        let p = blank_place text at n (omega arith) stands in
        blank_first text at n ts p (again n ts p.some p.within (sym (reads_on text at n (Blank n) p refl) ∙ e))
    by_front (Lexeme kind n) stands again =
        let p = lexeme_place text at n kind (omega arith) stands in
        let r = lexeme_ok at n kind (tokens_from (at + n) 0 (drop (at + n) text)) ts (sym (reads_on text at n (Lexeme kind n) p refl) ∙ e) in
        subst (InOrder text at) r.2 (omega arith, nothing text at, is_token_at text at n kind p, again n r.0 p.some p.within r.1)

first_place : (text : List ℕ) (left at place : ℕ) → at + left ≡ length text → tokens_from at 0 (drop at text) ≡ Err place → (bound : ℕ) → left ≤ bound → (ts : List Token) × StopsAfter text at ts place
first_place text zero at place all e bound le = let f = nothing_left text at (omega arith) in absurd cc
first_place text (suc left) at place all e zero le = absurd (omega arith)
first_place text (suc left) at place all e (suc bound) le = by_front (front (drop at text)) refl (λ n some within r. first_place text (suc left - n) (at + n) place (omega arith) r bound (omega arith))
  where
    by_front : (f : Front) → front (drop at text) ≡ f → ((n : ℕ) → 0 < n → at + n ≤ length text → tokens_from (at + n) 0 (drop (at + n) text) ≡ Err place → (ts : List Token) × StopsAfter text (at + n) ts place) → (ts : List Token) × StopsAfter text at ts place
    by_front NoToken stands again =
        let here : at ≡ place = let f = fails_at text at (omega arith) stands in cc in
        let rest = length-drop at text in
        let no_slice = none_is (drop at text) stands in (
          [],
          subst (λ place. IsBlankTo text at place × IsNoToken text place) here (
            nothing text at,
            record {
              within = omega arith;
              stands = stands;
              no_slice = elim no_slice [ inl comment ↦ inl comment | inr none ↦ inr (λ n le. none n (omega arith)) ];
            },
          ),
        )
    by_front (Blank n) stands again =
        let p = blank_place text at n (omega arith) stands in
        let r = again n p.some p.within (sym (reads_on text at n (Blank n) p refl) ∙ e) in
        (r.0, blank_stop text at n r.0 place p r.1)
    by_front (Lexeme kind n) stands again =
        let p = lexeme_place text at n kind (omega arith) stands in
        let r = again n p.some p.within (lexeme_err at n kind _ place (sym (reads_on text at n (Lexeme kind n) p refl) ∙ e)) in
        (token_at at n kind ∷ r.0, (omega arith, nothing text at, is_token_at text at n kind p, r.1))

blanks_read : (text : List ℕ) (at to : ℕ) → IsBlankTo text at to → tokens_from at 0 (drop at text) ≡ tokens_from to 0 (drop to text)
blanks_read _ at _ (nothing text _) = refl
blanks_read _ at to (more text _ n _ some within stands rest) =
    reads_on text at n (Blank n) (record { stands = stands; some = some; within = within }) refl ∙ blanks_read text (at + n) to rest

only : (text : List ℕ) (at : ℕ) (ts : List Token) → InOrder text at ts → tokens_from at 0 (drop at text) ≡ Ok ts
only text at [] h = blanks_read text at (length text) h ∙ nothing_left text (length text) (omega arith)
only text at (t ∷ ts) h =
    let n : ℕ = t.end - t.start in
    let some = h.2.some in
    let ends : t.start + n ≡ t.end = omega arith in
    let place : IsPlace text t.start n (Lexeme t.kind n) = record { stands = h.2.stands; some = omega arith; within = let w = h.2.within in omega arith } in
    blanks_read text at t.start h.1
    ∙ reads_on text t.start n (Lexeme t.kind n) place refl
    ∙ ap (λ to. joined t.start (Lexeme t.kind n) (tokens_from to 0 (drop to text))) ends
    ∙ ap (joined t.start (Lexeme t.kind n)) (only text t.end ts h.3)
    ∙ ap (λ to. Ok (record { kind = t.kind; start = t.start; end = to } ∷ ts)) ends

pub are_in_order : AreInOrder
unfolding tokens_of
are_in_order text ts e = in_order text (length text) 0 ts (omega arith) e (length text) (omega arith)

pub are_the_only : AreTheOnly
unfolding tokens_of
are_the_only text ts h = only text 0 ts h

pub is_first_place : IsFirstPlace
unfolding tokens_of
is_first_place text place e = first_place text (length text) 0 place (omega arith) e (length text) (omega arith)

-- the same of what `tokens` returns

pub given_in_order : (text : List ℕ) (r : Result (List Token) LexError) → Gives r (tokens_of text) → IfOk r (λ ts. InOrder text 0 ts)
given_in_order text (Ok ts) g = are_in_order text ts g
given_in_order text (Err e) g = tt

pub given_only : (text : List ℕ) (r : Result (List Token) LexError) → Gives r (tokens_of text) → (ts : List Token) → InOrder text 0 ts → Gives r (Ok ts)
given_only text r g ts h = subst (Gives r) (are_the_only text ts h) g

pub given_first : (text : List ℕ) (r : Result (List Token) LexError) → Gives r (tokens_of text) → IfByte r (λ at. (ts : List Token) × StopsAfter text 0 ts at)
given_first text (Ok ts) g = tt
given_first text (Err (Byte at)) g = is_first_place text at g
given_first text (Err OutOfMemory) g = tt
