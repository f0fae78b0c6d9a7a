-- What a reading read first, where it succeeded.
use Rattle.std.proofs.Common.{◌≡◌, ℕ, zero, suc, ◌+◌, ◌<◌, ◌≤◌, max, Bool, true, false, List, [], ◌∷◌, Option, Some, None, ◌⊎◌, inl, inr, refl, sym, ap, ◌∙◌, subst, arith}
use Rattle.std.specs.Prelude.{if◌then◌else◌, ◌&&◌, nat_lt}
use Rattle.std.proofs.lemmas.Bool.{eqb-true, ltb-true, lt-ltb}
use Rattle.std.proofs.Math.Nat.{max-zero}
use Rattle.fx_c_ast.specs.declared.operator.IntType.{IntType}
use Rattle.fx_c_parse.specs.Words.{Word, NameWord, KeywordWord, NumberWord, CharWord, TextWord, SignWord, first_name, first_number, tail, has_sign, has_keyword, after_sign}
use Rattle.fx_c_parse.specs.Reading.{◌>>=◌, Turn, Ends, Tries, turned, turns}
use Rattle.fx_c_parse.specs.Expressions.{deeper}

pub bind_some : {A B : Type 0} → (r : Option A) (f : A → Option B) (y : B) → (r >>= f) ≡ Some y → (x : A) × (r ≡ Some x) × (f x ≡ Some y)
bind_some None f y e = absurd cc
bind_some (Some x) f y e = (x, refl, e)

pub some_is : {A : Type 0} → (x y : A) → Some x ≡ Some y → x ≡ y
some_is x y e = cc

pub if_some : {A : Type 0} → (b : Bool) (p q : Option A) (y : A) → (if b then p else q) ≡ Some y → ((b ≡ true) × (p ≡ Some y)) ⊎ ((b ≡ false) × (q ≡ Some y))
if_some true p q y e = inl (refl, e)
if_some false p q y e = inr (refl, e)

pub if_then : {A : Type 0} → (b : Bool) (p : Option A) (y : A) → (if b then p else None) ≡ Some y → (b ≡ true) × (p ≡ Some y)
if_then true p y e = (refl, e)
if_then false p y e = absurd cc

pub and_true : (a b : Bool) → (a && b) ≡ true → (a ≡ true) × (b ≡ true)
and_true true b e = (refl, e)
and_true false b e = absurd cc

pub bool_cases : (b : Bool) → (b ≡ true) ⊎ (b ≡ false)
bool_cases true = inl refl
bool_cases false = inr refl

-- a choice by a test, in each case
pub chosen : {A : Type 0} → (P : A → Type 0) (b : Bool) (x y : A) → (b ≡ true → P x) → (b ≡ false → P y) → P (if b then x else y)
chosen P true x y f g = f refl
chosen P false x y f g = g refl

pub sign_first : (s : ℕ) (ws : List Word) → has_sign s ws ≡ true → ws ≡ SignWord s ∷ tail ws
sign_first s [] e = absurd cc
sign_first s (SignWord t ∷ ws) e = ap (λ u. SignWord u ∷ ws) (eqb-true t s e)
sign_first s (NameWord bytes ∷ ws) e = absurd cc
sign_first s (KeywordWord k ∷ ws) e = absurd cc
sign_first s (NumberWord value ty ∷ ws) e = absurd cc
sign_first s (CharWord byte ∷ ws) e = absurd cc
sign_first s (TextWord bytes ∷ ws) e = absurd cc

pub keyword_first : (k : ℕ) (ws : List Word) → has_keyword k ws ≡ true → ws ≡ KeywordWord k ∷ tail ws
keyword_first k [] e = absurd cc
keyword_first k (KeywordWord t ∷ ws) e = ap (λ u. KeywordWord u ∷ ws) (eqb-true t k e)
keyword_first k (NameWord bytes ∷ ws) e = absurd cc
keyword_first k (SignWord s ∷ ws) e = absurd cc
keyword_first k (NumberWord value ty ∷ ws) e = absurd cc
keyword_first k (CharWord byte ∷ ws) e = absurd cc
keyword_first k (TextWord bytes ∷ ws) e = absurd cc

pub behind_sign : (s : ℕ) (ws rest : List Word) → after_sign s ws ≡ Some rest → ws ≡ SignWord s ∷ rest
behind_sign s ws rest e =
    let p = if_then (has_sign s ws) (Some (tail ws)) rest e in
    sign_first s ws p.0 ∙ ap (λ l. SignWord s ∷ l) (some_is (tail ws) rest p.1)

pub name_first : (ws : List Word) (n : List ℕ) → first_name ws ≡ Some n → ws ≡ NameWord n ∷ tail ws
name_first [] n e = absurd cc
name_first (NameWord bytes ∷ ws) n e = ap (λ b. NameWord b ∷ ws) (some_is bytes n e)
name_first (KeywordWord k ∷ ws) n e = absurd cc
name_first (SignWord s ∷ ws) n e = absurd cc
name_first (NumberWord value ty ∷ ws) n e = absurd cc
name_first (CharWord byte ∷ ws) n e = absurd cc
name_first (TextWord bytes ∷ ws) n e = absurd cc

pub number_first : (ws : List Word) (n : ℕ) → first_number ws ≡ Some n → (ty : IntType) × (ws ≡ NumberWord n ty ∷ tail ws)
number_first [] n e = absurd cc
number_first (NumberWord value ty ∷ ws) n e = (ty, ap (λ v. NumberWord v ty ∷ ws) (some_is value n e))
number_first (KeywordWord k ∷ ws) n e = absurd cc
number_first (SignWord s ∷ ws) n e = absurd cc
number_first (NameWord bytes ∷ ws) n e = absurd cc
number_first (CharWord byte ∷ ws) n e = absurd cc
number_first (TextWord bytes ∷ ws) n e = absurd cc

pub deeper_is : (l r b k : ℕ) → deeper l r b ≡ Some k → (k ≡ max l r + 1) × (k ≤ b)
deeper_is l r b k e =
    let p = if_then (nat_lt (max l r) b) (Some (max l r + 1)) k e in
    let q : max l r + 1 ≡ k = some_is (max l r + 1) k p.1 in
    let lt : max l r < b = ltb-true (max l r) b p.0 in
    (sym q, omega (arith, q, lt))

pub deeper_one : (h b k : ℕ) → deeper h 0 b ≡ Some k → (k ≡ h + 1) × (k ≤ b)
deeper_one h b k e = let p = deeper_is h 0 b k e in (p.0 ∙ ap (λ n. n + 1) (max-zero h), p.1)

pub deeper_fits : (l r b : ℕ) → max l r + 1 ≤ b → deeper l r b ≡ Some (max l r + 1)
deeper_fits l r b h =
    let lt : max l r < b = omega (arith, h) in
    ap (λ (t : Bool). if t then Some (max l r + 1) else None) (lt-ltb (max l r) b lt)

pub deeper_fits_one : (h b : ℕ) → h + 1 ≤ b → deeper h 0 b ≡ Some (h + 1)
deeper_fits_one h b le =
    let z : max h 0 ≡ h = max-zero h in
    deeper_fits h 0 b (subst (λ n. n + 1 ≤ b) (sym z) le) ∙ ap (λ n. Some (n + 1)) z

-- what each turn keeps holds at the end of a repetition
pub turns_keep : {A : Type 0} → (step : A → List Word → Turn A) (P : A → List Word → Type 0) → ((x y : A) (ws rest : List Word) → P x ws → step x ws ≡ Tries (Some (y, rest)) → P y rest) → (n : ℕ) (x y : A) (ws rest : List Word) → P x ws → turns step n x ws ≡ Some (y, rest) → P y rest × (step y rest ≡ Ends)
turns_keep step P keeps zero x y ws rest p e = absurd cc
turns_keep {A} step P keeps (suc n) x y ws rest p e = by_turn (λ z vs q f. turns_keep step P keeps n z y vs rest q f) (step x ws) refl e
  where
    Again : Type 0
    Again = (z : A) (vs : List Word) → P z vs → turns step n z vs ≡ Some (y, rest) → P y rest × (step y rest ≡ Ends)

    by_more : Again → (more : Option (A × List Word)) → step x ws ≡ Tries more → turned (turns step n) x ws (Tries more) ≡ Some (y, rest) → P y rest × (step y rest ≡ Ends)
    by_more again None q e = absurd cc
    by_more again (Some z) q e = again z.0 z.1 (keeps x z.0 ws z.1 p q) e

    by_turn : Again → (t : Turn A) → step x ws ≡ t → turned (turns step n) x ws t ≡ Some (y, rest) → P y rest × (step y rest ≡ Ends)
    by_turn again Ends q e =
        let r : (x, ws) ≡ (y, rest) = some_is (x, ws) (y, rest) e in
        (subst (λ (z : A × List Word). P z.0 z.1) r p, subst (λ (z : A × List Word). step z.0 z.1 ≡ Ends) r q)
    by_turn again (Tries more) q e = by_more again more q e
