use Rattle.std.proofs.Common.{◌≡◌, ◌≢◌, ◌<◌, ◌≤◌, ◌+◌, ℕ, refl, arith, Bool, true, false, ap, sym, ◌∙◌, subst, List, [], ◌++◌, Option, Some, None, length, take, drop, append_assoc, length-append}
use Rattle.std.specs.Prelude.{◌&&◌, cond, nat_eq, IfSome}
use Rattle.std.specs.List.{starts_with}
use Rattle.std.proofs.lemmas.Bool.{and_parts}
use Rattle.std.proofs.lemmas.Bool.Decides.{Decides-eqb}
use Rattle.std.proofs.lemmas.Slice.Eq.{starts_is}
use Rattle.std.proofs.lemmas.List.{take-append-drop, length-take-le, append-nil}
use Rattle.std.proofs.Math.Seq.{take-append_seam}
use Rattle.fx_x64_forms.specs.declared.inst.Inst.{Inst}
use Rattle.fx_x64_code.specs.Spelling.{spelling, has_row, IsRow, Spells}
use Rattle.fx_x64_code.specs.Guess.{guess}
use Rattle.fx_x64_code.specs.Decoded.{decoded, confirmed}
use Rattle.fx_x64_code.specs.Laws.{DecodesSpelling, DecodedIsSpelled, UndecodedIsUnspelled, UnspelledIsUndecoded, PrefixIsUndecoded, PrefixFree, OneInstruction, OneSpelling}
use Rattle.fx_x64_code.proofs.Confirmed.{decoded-guessed}
use Rattle.fx_x64_code.proofs.Again.{guess_again}
use Rattle.fx_x64_code.proofs.Fitting.{guess_fits}

starts : (p rest : List ℕ) → starts_with nat_eq (p ++ rest) p ≡ true
starts p rest = (starts_is Decides-eqb (p ++ rest) p (starts_with nat_eq (p ++ rest) p) refl).1 rest refl

pub decodes_spelling : DecodesSpelling
decodes_spelling i rest row = decoded-guessed (spelling i ++ rest) i (guess_again i rest row) row.0 (starts (spelling i) rest)

-- ---- what a Some says

-- the parts of what is confirmed
record Confirms (b : List ℕ) (g : Option Inst) (i : Inst) (n : ℕ) : Type 0 where
  guessed : g ≡ Some i
  row : has_row i ≡ true
  begins : starts_with nat_eq b (spelling i) ≡ true
  len : n ≡ length (spelling i)

by_test : (b : List ℕ) (j i : Inst) (n : ℕ) (t : Bool) → t ≡ (has_row j && starts_with nat_eq b (spelling j)) → cond {A = Option (Inst × ℕ)} t (Some (j, length (spelling j))) None ≡ Some (i, n) → Confirms b (Some j) i n
by_test b j i n true e h =
    let pair : ◌≡◌ {A = Inst × ℕ} (j, length (spelling j)) (i, n) = cc in
    let same : j ≡ i = ap (λ p. p.0) pair in
    let parts = and_parts (has_row j) (starts_with nat_eq b (spelling j)) (sym e) in
    record {
      guessed = ap Some same;
      row = subst (λ k. has_row k ≡ true) same (parts.0);
      begins = subst (λ k. starts_with nat_eq b (spelling k) ≡ true) same (parts.1);
      len = sym (ap (λ p. p.1) pair) ∙ ap (λ k. length (spelling k)) same;
    }
by_test b j i n false e h = absurd (cc)

confirms : (b : List ℕ) (g : Option Inst) (i : Inst) (n : ℕ) → confirmed b g ≡ Some (i, n) → Confirms b g i n
confirms b None i n h = absurd (cc)
confirms b (Some j) i n h = by_test b j i n (has_row j && starts_with nat_eq b (spelling j)) refl h

decoded_confirms : (b : List ℕ) (i : Inst) (n : ℕ) → decoded b ≡ Some (i, n) → Confirms b (guess b) i n
unfolding decoded
decoded_confirms b i n h = confirms b (guess b) i n h

-- the bytes behind the spelling
begins_is : (b p : List ℕ) → starts_with nat_eq b p ≡ true → b ≡ p ++ drop (length p) b
begins_is b p e = (starts_is Decides-eqb b p (starts_with nat_eq b p) refl).0 e

pub decoded_is_spelled : DecodedIsSpelled
decoded_is_spelled b i n h =
    let c = decoded_confirms b i n h in
    let whole = begins_is b (spelling i) c.begins in
    let front : take n b ≡ spelling i = ap (λ m. take m b) c.len ∙ ap (take (length (spelling i))) whole ∙ take-append_seam (spelling i) (drop (length (spelling i)) b) in
    let lens : length b ≡ length (spelling i) + length (drop (length (spelling i)) b) = ap length whole ∙ length-append (spelling i) (drop (length (spelling i)) b) in
    (((c.row, guess_fits b i c.guessed), front), omega (arith, c.len, lens))

-- the clauses of a decoder whose answer is what is decoded
pub answer_spelled : (b : List ℕ) (r : Option (Inst × ℕ)) → r ≡ decoded b → IfSome r (λ f. Spells (f.0) (take (f.1) b) × (f.1 ≤ length b))
answer_spelled b None e = tt
answer_spelled b (Some f) e = decoded_is_spelled b (f.0) (f.1) (sym e)

pub answer_complete : (b : List ℕ) (r : Option (Inst × ℕ)) → r ≡ decoded b → (i : Inst) (rest : List ℕ) → IsRow i → b ≡ spelling i ++ rest → r ≡ Some (i, length (spelling i))
answer_complete b r e i rest row h = e ∙ ap decoded h ∙ decodes_spelling i rest row

-- ---- what a None says

pub undecoded_is_unspelled : UndecodedIsUnspelled
undecoded_is_unspelled b h i rest row e = let d = decodes_spelling i rest row in let f = ap decoded e in cc

unspelled_by : (b : List ℕ) (o : Option (Inst × ℕ)) → decoded b ≡ o → ((i : Inst) (rest : List ℕ) → IsRow i → b ≢ spelling i ++ rest) → o ≡ None
unspelled_by b None e f = refl
unspelled_by b (Some p) e f =
    let c = decoded_confirms b (p.0) (p.1) e in
    absurd (f (p.0) (drop (length (spelling (p.0))) b) (c.row, guess_fits b (p.0) c.guessed) (begins_is b (spelling (p.0)) c.begins))

pub unspelled_is_undecoded : UnspelledIsUndecoded
unspelled_is_undecoded b f = unspelled_by b (decoded b) refl f

-- ---- no spelling begins another

pub prefix_free : PrefixFree
prefix_free i j x y p q e = let a = guess_again i x p in let b = guess_again j y q in let h = ap guess e in cc

pub one_instruction : OneInstruction
one_instruction i j bytes p q = prefix_free i j [] [] (p.0) (q.0) (ap (λ s. s ++ []) (sym (p.1) ∙ q.1))

pub one_spelling : OneSpelling
one_spelling i a b p q = p.1 ∙ sym (q.1)

prefix_by : (i : Inst) (n : ℕ) → IsRow i → n < length (spelling i) → (o : Option (Inst × ℕ)) → decoded (take n (spelling i)) ≡ o → o ≡ None
prefix_by i n row less None e = refl
prefix_by i n row less (Some p) e =
    let b = take n (spelling i) in
    let j = p.0 in
    let c = decoded_confirms b j (p.1) e in
    let whole = begins_is b (spelling j) c.begins in
    let joined : spelling j ++ (drop (length (spelling j)) b ++ drop n (spelling i)) ≡ spelling i ++ [] =
    sym (append_assoc (spelling j) (drop (length (spelling j)) b) (drop n (spelling i))) ∙ ap (λ s. s ++ drop n (spelling i)) (sym whole) ∙ take-append-drop n (spelling i) ∙ sym (append-nil (spelling i)) in
    let same = prefix_free j i (drop (length (spelling j)) b ++ drop n (spelling i)) [] (c.row, guess_fits b j c.guessed) row joined in
    let lens : length b ≡ length (spelling j) + length (drop (length (spelling j)) b) = ap length whole ∙ length-append (spelling j) (drop (length (spelling j)) b) in
    let short : length b ≡ n = length-take-le n (spelling i) (omega arith) in
    let equal : length (spelling j) ≡ length (spelling i) = ap (λ k. length (spelling k)) same in
    absurd (omega (arith, lens, short, equal, less))

pub prefix_is_undecoded : PrefixIsUndecoded
prefix_is_undecoded i n row less = prefix_by i n row less (decoded (take n (spelling i))) refl
