-- What stands between quotes: one step of the loop, and what a front of the text says of all of it.
use Rattle.std.proofs.Common.{◌≡◌, ℕ, zero, suc, List, [], ◌∷◌, ◌++◌, ◌+◌, ◌≤◌, ◌<◌, Option, Some, None, refl, sym, ap, ◌∙◌, arith, append_assoc, drop, take, length, get_or, add-one, eqb, cond}
use Rattle.std.specs.Prelude.{Bool, true, false, option_map}
use Rattle.std.proofs.lemmas.List.{append-nil}
use Rattle.std.proofs.lemmas.Bool.{ne_eqb}
use Rattle.std.proofs.lemmas.Bool.Decides.{nat_tests}
use Rattle.std.proofs.Math.Seq.{drop-cons}
use Rattle.fx_c_lex.specs.declared.quoted.Piece.{Piece}
use Rattle.fx_c_lex.specs.declared.quoted.Piece.TheVariants.{Close, Backslash, Byte, Bad}
use Rattle.fx_c_lex.specs.Quoted.{piece, is_backslash, contents, with_piece, only_at_end}
use Rattle.fx_c_lex.specs.Reading.{contents_at, after_piece, behind}

-- a step from place i on
stepped : (quote : ℕ) (escaped : Bool) (text : List ℕ) (i : ℕ) (p : Piece) → i < length text → piece quote escaped (get_or text i 0) ≡ p → contents_at quote escaped (drop i text) ≡ after_piece p (contents_at quote (is_backslash p) (drop (i + 1) text))
stepped quote escaped text i p h e =
    let split : drop i text ≡ get_or text i 0 ∷ drop (i + 1) text = rw add-one (drop-cons text i 0 h) in
    ap (contents_at quote escaped) split ∙ ap (λ q. after_piece q (contents_at quote (is_backslash q) (drop (i + 1) text))) e

pub closes : (quote : ℕ) (escaped : Bool) (text bytes : List ℕ) (i : ℕ) (total : Option (List ℕ × ℕ)) → i < length text → piece quote escaped (get_or text i 0) ≡ Close → behind bytes i (contents_at quote escaped (drop i text)) ≡ total → Some (bytes, i + 1) ≡ total
closes quote escaped text bytes i total h e told =
    ap (λ (l : List ℕ). Some (l, i + 1)) (sym (append-nil bytes)) ∙ sym (ap (behind bytes i) (stepped quote escaped text i Close h e)) ∙ told

pub escapes : (quote : ℕ) (escaped : Bool) (text bytes : List ℕ) (i : ℕ) (total : Option (List ℕ × ℕ)) → i < length text → piece quote escaped (get_or text i 0) ≡ Backslash → behind bytes i (contents_at quote escaped (drop i text)) ≡ total → behind bytes (i + 1) (contents_at quote true (drop (i + 1) text)) ≡ total
escapes quote escaped text bytes i total h e told =
    later (contents_at quote true (drop (i + 1) text)) ∙ sym (ap (behind bytes i) (stepped quote escaped text i Backslash h e)) ∙ told
  where
    later : (found : Option (List ℕ × ℕ)) → behind bytes (i + 1) found ≡ behind bytes i (behind [] 1 found)
    later None = refl
    later (Some f) = let sum : i + 1 + f.1 ≡ i + (1 + f.1) = omega arith in ap (λ n. Some (bytes ++ f.0, n)) sum

pub reads : (quote : ℕ) (escaped : Bool) (text bytes : List ℕ) (i b : ℕ) (total : Option (List ℕ × ℕ)) → i < length text → piece quote escaped (get_or text i 0) ≡ Byte b → behind bytes i (contents_at quote escaped (drop i text)) ≡ total → behind (bytes ++ b ∷ []) (i + 1) (contents_at quote false (drop (i + 1) text)) ≡ total
reads quote escaped text bytes i b total h e told =
    later (contents_at quote false (drop (i + 1) text)) ∙ sym (ap (behind bytes i) (stepped quote escaped text i (Byte b) h e)) ∙ told
  where
    later : (found : Option (List ℕ × ℕ)) → behind (bytes ++ b ∷ []) (i + 1) found ≡ behind bytes i (behind (b ∷ []) 1 found)
    later None = refl
    later (Some f) =
        let sum : i + 1 + f.1 ≡ i + (1 + f.1) = omega arith in
        ap (λ (l : List ℕ). Some (l, i + 1 + f.1)) (append_assoc bytes (b ∷ []) f.0) ∙ ap (λ n. Some (bytes ++ (b ∷ f.0), n)) sum

pub fails : (quote : ℕ) (escaped : Bool) (text bytes : List ℕ) (i : ℕ) (total : Option (List ℕ × ℕ)) → i < length text → piece quote escaped (get_or text i 0) ≡ Bad → behind bytes i (contents_at quote escaped (drop i text)) ≡ total → None ≡ total
fails quote escaped text bytes i total h e told =
    sym (ap (behind bytes i) (stepped quote escaped text i Bad h e)) ∙ told

pub begins : (found : Option (List ℕ × ℕ)) → behind [] 0 found ≡ found
begins None = refl
begins (Some f) = let sum : 0 + f.1 ≡ f.1 = omega arith in ap (λ n. Some (f.0, n)) sum

pub ruleset piece_steps = (closes, escapes, reads, fails, begins)

-- what is found where the text is cut behind k bytes
abbrev pub cut : ℕ → Option (List ℕ × ℕ) → Option (List ℕ)
cut k None = None
cut k (Some f) = cond (eqb f.1 k) (Some f.0) None

next_eqb : (n k : ℕ) → eqb (1 + n) (suc k) ≡ eqb n k
next_eqb n k = grind (arith, nat_tests)

not_0 : (n : ℕ) → eqb (1 + n) 0 ≡ false
not_0 n = ne_eqb (1 + n) 0 (λ e. absurd (omega arith))

not_1 : (k : ℕ) → eqb 1 (suc (suc k)) ≡ false
not_1 k = ne_eqb 1 (suc (suc k)) (λ e. absurd (omega arith))

-- something is always read
cut_0 : (quote : ℕ) (escaped : Bool) (text : List ℕ) → None ≡ cut 0 (contents_at quote escaped text)
cut_0 quote escaped [] = refl
cut_0 quote escaped (b ∷ text) = by_piece (piece quote escaped b) (contents_at quote (is_backslash (piece quote escaped b)) text)
  where
    by_piece : (p : Piece) (rest : Option (List ℕ × ℕ)) → None ≡ cut 0 (after_piece p rest)
    by_piece Close rest = refl
    by_piece Backslash None = refl
    by_piece Backslash (Some f) = sym (ap (λ t. cond t (Some f.0) None) (not_0 f.1))
    by_piece (Byte c) None = refl
    by_piece (Byte c) (Some f) = sym (ap (λ t. cond t (Some (c ∷ f.0)) None) (not_0 f.1))
    by_piece Bad rest = refl

-- what k bytes behind an opening quote are, by what is found there
pub contents_cut : (quote : ℕ) (escaped : Bool) (text : List ℕ) (k : ℕ) → k ≤ length text → contents quote escaped (take k text) ≡ cut k (contents_at quote escaped text)
contents_cut quote escaped text zero h = cut_0 quote escaped text
contents_cut quote escaped [] (suc k) h = absurd (omega arith)
contents_cut quote escaped (b ∷ text) (suc k) h = by_piece (λ escaped. contents_cut quote escaped text k within) (piece quote escaped b)
  where
    closed : (text : List ℕ) (k : ℕ) → k ≤ length text → only_at_end (take k text) ≡ cond (eqb 1 (suc k)) (Some []) None
    closed text zero h = refl
    closed [] (suc k) h = absurd (omega arith)
    closed (c ∷ text) (suc k) h = sym (ap (λ t. cond t (Some []) None) (not_1 k))

    later : (bytes : List ℕ) (found : Option (List ℕ × ℕ)) → option_map (λ f. bytes ++ f) (cut k found) ≡ cut (suc k) (behind bytes 1 found)
    later bytes None = refl
    later bytes (Some f) =
        (elim (eqb f.1 k) as (λ t. option_map (λ f. bytes ++ f) (cond t (Some f.0) None) ≡ cond t (Some (bytes ++ f.0)) None) [ true ↦ refl | false ↦ refl ])
        ∙ sym (ap (λ t. cond t (Some (bytes ++ f.0)) None) (next_eqb f.1 k))

    same : (found : Option (List ℕ)) → found ≡ option_map (λ f. [] ++ f) found
    same None = refl
    same (Some f) = refl

    within : k ≤ length text
    within = omega arith

    by_piece : ((escaped : Bool) → contents quote escaped (take k text) ≡ cut k (contents_at quote escaped text)) → (p : Piece) → with_piece p (take k text) (contents quote (is_backslash p) (take k text)) ≡ cut (suc k) (after_piece p (contents_at quote (is_backslash p) text))
    by_piece again Close = closed text k within
    by_piece again Backslash = again true ∙ same _ ∙ later [] (contents_at quote true text)
    by_piece again (Byte c) = ap (option_map (λ f. c ∷ f)) (again false) ∙ later (c ∷ []) (contents_at quote false text)
    by_piece again Bad = refl
