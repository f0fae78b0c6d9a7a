-- The longest token at the front of a text: the one length that is possible for a word and a quoted
-- token, and one or two bytes for punctuation.
use Rattle.std.proofs.Common.{◌≡◌, ◌≢◌, ℕ, zero, suc, List, [], ◌∷◌, ◌+◌, ◌-◌, ◌≤◌, ◌<◌, Option, Some, None, refl, sym, ap, ◌∙◌, subst, arith, drop, take, length, get_or, add-one, cond, inl, inr, eqb, ltb, eq-eqb}
use Rattle.std.specs.Prelude.{Bool, true, false, ◌&&◌, not, nat_le}
use Rattle.std.specs.List.{list_all, prefix_len, position_or_len}
use Rattle.std.specs.Char.{is_ascii_digit}
use Rattle.std.specs.Str.{bytes_eq}
use Rattle.std.proofs.lemmas.Bool.{cases_order, ne_eqb, false_from_ne_true, true≢false}
use Rattle.std.proofs.lemmas.Bool.Decides.{nat_tests}
use Rattle.std.proofs.lemmas.Slice.Eq.{bytes_eq-Decides}
use Rattle.std.proofs.lemmas.List.{get_or-take, get_or_past, length-take-le, take_all}
use Rattle.std.proofs.lemmas.List.Elements.{All-get_or, All-from_get_or}
use Rattle.std.proofs.lemmas.List.Sums.{prefix_len_passes, prefix_len_stops, prefix_len-le-length, AllPass-from_list_all, list_all-from_AllPass}
use Rattle.fx_c_lex.specs.declared.token.TokenKind.{TokenKind}
use Rattle.fx_c_lex.specs.Bytes.{is_word_byte, byte_at}
use Rattle.fx_c_lex.specs.Words.{keywords, signs, place_of, keyword_or_name, sign, sign_by}
use Rattle.fx_c_lex.specs.Numbers.{number}
use Rattle.fx_c_lex.specs.Quoted.{contents, character, character_by, string, string_by}
use Rattle.fx_c_lex.specs.Lexis.{meaning, word, token_of_length, longest, or_shorter, longest_token}
use Rattle.fx_c_lex.specs.Reading.{contents_at, IsOther}
use Rattle.fx_c_lex.proofs.Contents.{cut, contents_cut}

pub longest_none : (text : List ℕ) (n : ℕ) → ((m : ℕ) → m ≤ n → token_of_length text m ≡ None) → longest text n ≡ None
longest_none text zero none = refl
longest_none text (suc n) none =
    ap (λ k. or_shorter (suc n) k (longest text n)) (none (suc n) (omega arith)) ∙ longest_none text n (λ m h. none m (omega arith))

-- where tokens of all other lengths are ruled out
pub longest_only : (text : List ℕ) (at n : ℕ) → 0 < at → at ≤ n → ((m : ℕ) → m ≤ n → m ≢ at → token_of_length text m ≡ None) → longest text n ≡ or_shorter at (token_of_length text at) None
longest_only text at zero some within none = absurd (omega arith)
longest_only text at (suc n) some within none = elim (cases_order at (suc n)) [
  | inl e ↦ subst (λ k. longest text (suc n) ≡ or_shorter k (token_of_length text k) None) (sym e)
      (ap (or_shorter (suc n) (token_of_length text (suc n))) (longest_none text n (λ m h. none m (omega arith) (λ same. absurd (omega arith)))))
  | inr o ↦ elim o [
    | inl lt ↦ ap (λ k. or_shorter (suc n) k (longest text n)) (none (suc n) (omega arith) (λ same. absurd (omega arith))) ∙ longest_only text at n some (omega arith) (λ m h other. none m (omega arith) other)
    | inr gt ↦ absurd (omega arith)
  ]
]

abbrev Kind : Type 0
Kind = Option TokenKind

none_if : (t : Bool) (x : Kind) → x ≡ None → cond t None x ≡ None
none_if true x e = refl
none_if false x e = e

both : (x y : Bool) (k : Kind) → x ≡ true → y ≡ true → cond (x && y) None k ≡ None
both x y k e f = ap (λ t. cond (t && y) None k) e ∙ ap (λ t. cond t None k) f

not_both : (x y : Bool) (k : Kind) → y ≡ false → cond (x && y) None k ≡ k
not_both true y k f = ap (λ t. cond t None k) f
not_both false y k f = refl

-- words

all_in_front : (text : List ℕ) → list_all is_word_byte (take (prefix_len is_word_byte text) text) ≡ true
all_in_front text =
    let n = prefix_len is_word_byte text in
    let within : n ≤ length text = prefix_len-le-length is_word_byte text in
    let long : length (take n text) ≡ n = length-take-le n text within in
    list_all-from_AllPass is_word_byte (take n text) (All-from_get_or (λ x. is_word_byte x ≡ true) (take n text) 0 (λ i lt.
    let below : i < n = omega arith in
    ap is_word_byte (get_or-take n text i 0 below) ∙ prefix_len_passes is_word_byte text i 0 below))

not_all_past : (text : List ℕ) (m : ℕ) → prefix_len is_word_byte text < m → m ≤ length text → list_all is_word_byte (take m text) ≡ false
not_all_past text m past within = false_from_ne_true _ (λ all.
    let n = prefix_len is_word_byte text in
    let long : length (take m text) ≡ m = length-take-le m text within in
    let passes : is_word_byte (get_or (take m text) n 0) ≡ true = All-get_or (λ x. is_word_byte x ≡ true) (take m text) n 0 (omega arith) (AllPass-from_list_all is_word_byte (take m text) all) in
    let stops : is_word_byte (get_or text n 0) ≡ false = prefix_len_stops is_word_byte text 0 (omega arith) in
    true≢false (sym passes ∙ ap is_word_byte (get_or-take m text n 0 past) ∙ stops))

no_word_byte_behind : (text : List ℕ) → is_word_byte (byte_at text (prefix_len is_word_byte text)) ≡ false
no_word_byte_behind text =
    let n = prefix_len is_word_byte text in
    let within : n ≤ length text = prefix_len-le-length is_word_byte text in
    elim (cases_order n (length text)) [
      | inl e ↦ ap is_word_byte (get_or_past text n 0 (omega arith))
      | inr o ↦ elim o [
        | inl lt ↦ prefix_len_stops is_word_byte text 0 lt
        | inr gt ↦ absurd (omega arith)
      ]
    ]

other_length : (b : ℕ) (bytes : List ℕ) → is_word_byte b ≡ true → (m : ℕ) → m ≤ length (b ∷ bytes) → m ≢ prefix_len is_word_byte (b ∷ bytes) → token_of_length (b ∷ bytes) m ≡ None
other_length b bytes letter m within other = elim (cases_order m (prefix_len is_word_byte (b ∷ bytes))) [
  | inl e ↦ absurd (other e)
  | inr o ↦ elim o [
    | inl lt ↦ both (is_word_byte b) (is_word_byte (byte_at (b ∷ bytes) m)) (meaning (take m (b ∷ bytes))) letter (prefix_len_passes is_word_byte (b ∷ bytes) m 0 lt)
    | inr gt ↦ longer m within gt
  ]
]
  where
    longer : (m : ℕ) → m ≤ length (b ∷ bytes) → prefix_len is_word_byte (b ∷ bytes) < m → token_of_length (b ∷ bytes) m ≡ None
    longer zero within gt = absurd (omega arith)
    longer (suc k) within gt =
        none_if (is_word_byte b && is_word_byte (byte_at (b ∷ bytes) (suc k))) (meaning (b ∷ take k bytes))
        (ap (λ t. cond t (word (b ∷ take k bytes)) (cond (eqb b 39) (character (take k bytes)) (cond (eqb b 34) (string (take k bytes)) (sign (b ∷ take k bytes))))) letter
        ∙ ap (λ t. cond t (cond (is_ascii_digit b) (number (b ∷ take k bytes)) (keyword_or_name (b ∷ take k bytes) (place_of keywords (b ∷ take k bytes)))) None) (not_all_past (b ∷ bytes) (suc k) gt within))

-- what the bytes of a word are
abbrev pub word_kind : List ℕ → Kind
word_kind bytes = cond (is_ascii_digit (byte_at bytes 0)) (number bytes) (keyword_or_name bytes (place_of keywords bytes))

some_word_byte : (b : ℕ) (bytes : List ℕ) → is_word_byte b ≡ true → 0 < prefix_len is_word_byte (b ∷ bytes)
some_word_byte b bytes letter = subst (λ t. 0 < cond t (1 + prefix_len is_word_byte bytes) 0) (sym letter) (omega arith)

pub word_front : (text : List ℕ) (n : ℕ) (kind : Kind) → is_word_byte (byte_at text 0) ≡ true → n ≡ prefix_len is_word_byte text → kind ≡ word_kind (take n text) → longest_token (or_shorter n kind None) ≡ longest_token (longest text (length text))
word_front [] n kind letter at is = absurd (cc)
word_front (b ∷ bytes) zero kind letter at is = absurd (let some = some_word_byte b bytes letter in omega arith)
word_front (b ∷ bytes) (suc k) kind letter at is =
    let text = b ∷ bytes in
    let within : suc k ≤ length text = let le = prefix_len-le-length is_word_byte text in omega arith in
    let only = longest_only text (suc k) (length text) (omega arith) within (λ m le other. other_length b bytes letter m le (λ e. other (e ∙ sym at))) in
    let all : list_all is_word_byte (take (suc k) text) ≡ true = subst (λ n. list_all is_word_byte (take n text) ≡ true) (sym at) (all_in_front text) in
    let ends : is_word_byte (byte_at text (suc k)) ≡ false = subst (λ n. is_word_byte (byte_at text n) ≡ false) (sym at) (no_word_byte_behind text) in
    let here : token_of_length text (suc k) ≡ kind =
    not_both (is_word_byte b) (is_word_byte (byte_at text (suc k))) (meaning (take (suc k) text)) ends
    ∙ ap (λ t. cond t (word (b ∷ take k bytes)) (cond (eqb b 39) (character (take k bytes)) (cond (eqb b 34) (string (take k bytes)) (sign (b ∷ take k bytes))))) letter
    ∙ ap (λ t. cond t (word_kind (b ∷ take k bytes)) None) all ∙ sym is in
    ap (λ f. longest_token (or_shorter (suc k) f None)) (sym here) ∙ ap longest_token (sym only)

-- quoted tokens

abbrev pub IsFound : ℕ → Option (List ℕ × ℕ) → Type 0
IsFound n None = Unit {0}
IsFound n (Some f) = f.1 ≤ n

-- what is found behind an opening quote, as a token
abbrev pub quoted_kind : (Option (List ℕ) → Kind) → Option (List ℕ × ℕ) → Option (TokenKind × ℕ)
quoted_kind kind_of None = None
quoted_kind kind_of (Some f) = or_shorter (f.1 + 1) (kind_of (Some f.0)) None

quoted_longest : (quote : ℕ) (kind_of : Option (List ℕ) → Kind) (rest : List ℕ) → token_of_length (quote ∷ rest) 0 ≡ None → ((m : ℕ) → token_of_length (quote ∷ rest) (suc m) ≡ kind_of (contents quote false (take m rest))) → kind_of None ≡ None → (found : Option (List ℕ × ℕ)) → contents_at quote false rest ≡ found → IsFound (length rest) found → longest (quote ∷ rest) (length (quote ∷ rest)) ≡ quoted_kind kind_of found
quoted_longest quote kind_of rest at_0 at_next bad None e within =
    longest_none (quote ∷ rest) (length (quote ∷ rest)) none
  where
    none : (m : ℕ) → m ≤ length (quote ∷ rest) → token_of_length (quote ∷ rest) m ≡ None
    none zero h = at_0
    none (suc m) h = at_next m ∙ ap kind_of (contents_cut quote false rest m (omega arith)) ∙ ap (λ f. kind_of (cut m f)) e ∙ bad
quoted_longest quote kind_of rest at_0 at_next bad (Some f) e within =
    longest_only (quote ∷ rest) (suc f.1) (length (quote ∷ rest)) (omega arith) (omega arith) none
    ∙ ap (λ k. or_shorter (suc f.1) k None) (at_next f.1 ∙ ap kind_of (contents_cut quote false rest f.1 within ∙ ap (cut f.1) e ∙ ap (λ t. cond t (Some f.0) None) (eq-eqb f.1 f.1 refl)))
    ∙ ap (λ n. or_shorter n (kind_of (Some f.0)) None) (sym (add-one f.1))
  where
    none : (m : ℕ) → m ≤ length (quote ∷ rest) → m ≢ suc f.1 → token_of_length (quote ∷ rest) m ≡ None
    none zero h other = at_0
    none (suc m) h other =
        let differs : eqb f.1 m ≡ false = ne_eqb f.1 m (λ same. other (ap suc (sym same))) in
        at_next m ∙ ap kind_of (contents_cut quote false rest m (omega arith) ∙ ap (cut m) e ∙ ap (λ t. cond t (Some f.0) None) differs) ∙ bad

headed : (text : List ℕ) (b : ℕ) → 0 < length text → byte_at text 0 ≡ b → text ≡ b ∷ drop 1 text
headed [] b some e = absurd (omega arith)
headed (c ∷ text) b some e = ap (λ c. c ∷ text) e

pub character_front : (text rest : List ℕ) (found : Option (List ℕ × ℕ)) → rest ≡ drop 1 text → 0 < length text → byte_at text 0 ≡ 39 → found ≡ contents_at 39 false rest → IsFound (length rest) found → longest_token (quoted_kind character_by found) ≡ longest_token (longest text (length text))
character_front text rest found behind some quote e within =
    ap longest_token (sym (quoted_longest 39 character_by rest refl (λ m. refl) refl found (sym e) within) ∙ ap (λ text. longest text (length text)) (ap (λ rest. 39 ∷ rest) behind ∙ sym (headed text 39 some quote)))

pub string_front : (text rest : List ℕ) (found : Option (List ℕ × ℕ)) → rest ≡ drop 1 text → 0 < length text → byte_at text 0 ≡ 34 → found ≡ contents_at 34 false rest → IsFound (length rest) found → longest_token (quoted_kind string_by found) ≡ longest_token (longest text (length text))
string_front text rest found behind some quote e within =
    ap longest_token (sym (quoted_longest 34 string_by rest refl (λ m. refl) refl found (sym e) within) ∙ ap (λ text. longest text (length text)) (ap (λ rest. 34 ∷ rest) behind ∙ sym (headed text 34 some quote)))

-- punctuation

as_sign : (b : ℕ) (bytes : List ℕ) (m : ℕ) → IsOther b → token_of_length (b ∷ bytes) (suc m) ≡ sign (b ∷ take m bytes)
as_sign b bytes m other =
    let rest = take m bytes in
    ap (λ t. cond (t && is_word_byte (byte_at (b ∷ bytes) (suc m))) None (meaning (b ∷ rest))) other.no_word
    ∙ ap (λ t. cond t (word (b ∷ rest)) (cond (eqb b 39) (character rest) (cond (eqb b 34) (string rest) (sign (b ∷ rest))))) other.no_word
    ∙ ap (λ t. cond t (character rest) (cond (eqb b 34) (string rest) (sign (b ∷ rest)))) (ne_eqb b 39 other.no_character)
    ∙ ap (λ t. cond t (string rest) (sign (b ∷ rest))) (ne_eqb b 34 other.no_string)

-- spellings of at most two bytes aren't longer bytes
none_longer : (spellings : List (List ℕ)) (bytes : List ℕ) → list_all (λ s. nat_le (length s) 2) spellings ≡ true → 2 < length bytes → position_or_len (λ s. bytes_eq s bytes) spellings ≡ length spellings
none_longer [] bytes short long = refl
none_longer (s ∷ spellings) bytes short long =
    let first : nat_le (length s) 2 ≡ true = and_left (nat_le (length s) 2) (list_all (λ s. nat_le (length s) 2) spellings) short in
    let le : length s ≤ 2 = grind (arith, nat_tests) in
    let differs : bytes_eq s bytes ≡ false = false_from_ne_true _ (λ same. let e = ap length ((bytes_eq-Decides s bytes).0 same) in absurd (omega arith)) in
    ap (λ t. cond (not t) (1 + position_or_len (λ s. bytes_eq s bytes) spellings) 0) differs
    ∙ ap (λ n. 1 + n) (none_longer spellings bytes (and_right (nat_le (length s) 2) (list_all (λ s. nat_le (length s) 2) spellings) short) long)
    ∙ (omega arith)
  where
    and_left : (x y : Bool) → (x && y) ≡ true → x ≡ true
    and_left true y e = refl
    and_left false y e = absurd cc

    and_right : (x y : Bool) → (x && y) ≡ true → y ≡ true
    and_right true y e = e
    and_right false y e = absurd cc

no_long_sign : (b c d : ℕ) (bytes : List ℕ) → sign (b ∷ c ∷ d ∷ bytes) ≡ None
no_long_sign b c d bytes =
    let none = none_longer signs (b ∷ c ∷ d ∷ bytes) refl (omega arith) in
    ap (λ n. sign_by (cond (ltb n 31) (Some n) None)) none

-- punctuation has at most two bytes
two_at_most : (b c : ℕ) (bytes : List ℕ) (n : ℕ) → IsOther b → n ≤ length bytes → longest (b ∷ c ∷ bytes) (suc (suc n)) ≡ longest (b ∷ c ∷ bytes) 2
two_at_most b c bytes zero other h = refl
two_at_most b c [] (suc n) other h = absurd (omega arith)
two_at_most b c (d ∷ bytes) (suc n) other h =
    ap (λ k. or_shorter (suc (suc (suc n))) k (longest (b ∷ c ∷ d ∷ bytes) (suc (suc n)))) (as_sign b (c ∷ d ∷ bytes) (suc (suc n)) other ∙ no_long_sign b c d (take n bytes))
    ∙ two_at_most b c (d ∷ bytes) n other (omega arith)

one_byte : (b : ℕ) (bytes : List ℕ) → IsOther b → longest (b ∷ bytes) 1 ≡ or_shorter 1 (sign (b ∷ [])) None
one_byte b bytes other = ap (λ k. or_shorter 1 k None) (as_sign b bytes 0 other)

pub sign_front : (text : List ℕ) → 0 < length text → IsOther (byte_at text 0) → longest text (length text) ≡ or_shorter 2 (cond (nat_le 2 (length text)) (sign (take 2 text)) None) (or_shorter 1 (sign (take 1 text)) None)
sign_front [] some other = absurd (omega arith)
sign_front (b ∷ []) some other = one_byte b [] other
sign_front (b ∷ c ∷ bytes) some other =
    let long : nat_le 2 (length (b ∷ c ∷ bytes)) ≡ true = grind (arith, nat_tests) in
    two_at_most b c bytes (length bytes) other (omega arith)
    ∙ ap (λ k. or_shorter 2 k (longest (b ∷ c ∷ bytes) 1)) (as_sign b (c ∷ bytes) 1 other)
    ∙ ap (or_shorter 2 (sign (b ∷ c ∷ []))) (one_byte b (c ∷ bytes) other)
    ∙ ap (λ t. or_shorter 2 (cond t (sign (b ∷ c ∷ [])) None) (or_shorter 1 (sign (b ∷ [])) None)) (sym long)

pub all_but_first : (text : List ℕ) → take (length text - 1) (drop 1 text) ≡ drop 1 text
all_but_first [] = refl
all_but_first (b ∷ text) = take_all (length (b ∷ text) - 1) text (omega arith)
