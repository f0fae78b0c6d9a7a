-- What is read as a type or an expression is one in the grammar.
use Rattle.std.proofs.Common.{◌≡◌, ℕ, zero, suc, ◌+◌, ◌<◌, ◌≤◌, Bool, true, false, List, [], ◌∷◌, Option, Some, None, inl, inr, refl, sym, ap, ◌∙◌, subst, arith}
use Rattle.std.specs.Prelude.{◌==◌, nat_lt}
use Rattle.std.proofs.lemmas.Bool.{eqb-true, ltb-true}
use Rattle.fx_c_ast.specs.declared.operator.IntType.{IntType}
use Rattle.fx_c_ast.specs.declared.operator.IntType.TheVariants.{Char, Uchar, Short, Ushort, Int, Uint, Long, Ulong}
use Rattle.fx_c_ast.specs.ParsedTrees.{TypeTree, VoidType, IntegerType, StructType, PointerType, ArrayType}
use Rattle.fx_c_lex.specs.declared.sign.TheConstants.{OPEN_BRACKET, CLOSE_BRACKET, STAR}
use Rattle.fx_c_lex.specs.declared.keyword.TheConstants.{CHAR, SHORT, INT, LONG, UNSIGNED, VOID, STRUCT}
use Rattle.fx_c_parse.specs.Words.{Word, NameWord, KeywordWord, NumberWord, CharWord, TextWord, SignWord, first_keyword, first_name, first_number, tail, has_sign, after_sign}
use Rattle.fx_c_parse.specs.Reading.{◌>>=◌}
use Rattle.fx_c_parse.specs.Types.{nesting, integer_of, integer_by, unsigned_by, unsigned_base, base_by, base_of, stars_of, dimension_of, dims_of, pointer_type_of}
use Rattle.fx_c_parse.specs.Grammar.{IsInteger, char_word, short_word, int_word, long_word, IsBase, void_base, signed_base, unsigned_alone, unsigned_integer, struct_base, IsStars, no_star, one_star, IsDims, no_dim, one_dim, IsPointerType, pointer_type}
use Rattle.fx_c_parse.proofs.Inversions.{bind_some, some_is, if_some, if_then, sign_first, behind_sign, name_first, number_first}

-- the integer type of a keyword is in the grammar
abbrev Integer : Bool → ℕ → IntType → Type 0
Integer false k i = (u : IntType) × IsInteger k i u
Integer true k u = (i : IntType) × IsInteger k i u

by_sign : (b : Bool) (k : ℕ) (i u j : IntType) → IsInteger k i u → Some (integer_by b i u) ≡ Some j → Integer b k j
by_sign false k i u j is e = (u, subst (λ z. IsInteger k z u) (some_is i j e) is)
by_sign true k i u j is e = (i, subst (λ z. IsInteger k i z) (some_is u j e) is)

integer_sound : (b : Bool) (k : ℕ) (j : IntType) → integer_of b k ≡ Some j → Integer b k j
integer_sound b k j e = elim (if_some (k == CHAR) _ _ j e) [
  | inl p ↦ by_sign b k Char Uchar j (subst (λ n. IsInteger n Char Uchar) (sym (eqb-true k CHAR p.0)) char_word) p.1
  | inr p ↦ elim (if_some (k == SHORT) _ _ j p.1) [
    | inl p ↦ by_sign b k Short Ushort j (subst (λ n. IsInteger n Short Ushort) (sym (eqb-true k SHORT p.0)) short_word) p.1
    | inr p ↦ elim (if_some (k == INT) _ _ j p.1) [
      | inl p ↦ by_sign b k Int Uint j (subst (λ n. IsInteger n Int Uint) (sym (eqb-true k INT p.0)) int_word) p.1
      | inr p ↦ let p = if_then (k == LONG) _ j p.1 in
          by_sign b k Long Ulong j (subst (λ n. IsInteger n Long Ulong) (sym (eqb-true k LONG p.0)) long_word) p.1
    ]
  ]
]

keyword_is : (ws : List Word) (k : ℕ) → first_keyword ws ≡ Some k → ws ≡ KeywordWord k ∷ tail ws
keyword_is [] k e = absurd cc
keyword_is (KeywordWord t ∷ ws) k e = ap (λ u. KeywordWord u ∷ ws) (some_is t k e)
keyword_is (NameWord bytes ∷ ws) k e = absurd cc
keyword_is (SignWord s ∷ ws) k e = absurd cc
keyword_is (NumberWord value ty ∷ ws) k e = absurd cc
keyword_is (CharWord byte ∷ ws) k e = absurd cc
keyword_is (TextWord bytes ∷ ws) k e = absurd cc

-- behind `unsigned`
unsigned_sound : (ws : List Word) (t : TypeTree) (rest : List Word) → unsigned_base ws ≡ (t, rest) → IsBase (KeywordWord UNSIGNED ∷ ws) t rest
unsigned_sound ws t rest e = by_type (first_keyword ws >>= integer_of true) refl e
  where
    by_type : (o : Option IntType) → (first_keyword ws >>= integer_of true) ≡ o → unsigned_by ws o ≡ (t, rest) → IsBase (KeywordWord UNSIGNED ∷ ws) t rest
    by_type None q e = subst (λ (p : TypeTree × List Word). IsBase (KeywordWord UNSIGNED ∷ ws) p.0 p.1) e unsigned_alone
    by_type (Some i) q e =
        let k = bind_some (first_keyword ws) (integer_of true) i q in
        let is = integer_sound true k.0 i k.2 in
        let base : IsBase (KeywordWord UNSIGNED ∷ ws) (IntegerType i) (tail ws) = subst (λ l. IsBase (KeywordWord UNSIGNED ∷ l) (IntegerType i) (tail ws)) (sym (keyword_is ws k.0 k.1)) (unsigned_integer is.1) in
        subst (λ (p : TypeTree × List Word). IsBase (KeywordWord UNSIGNED ∷ ws) p.0 p.1) e base

base_by_sound : (k : ℕ) (ws : List Word) (t : TypeTree) (rest : List Word) → base_by (KeywordWord k ∷ ws) k ≡ Some (t, rest) → IsBase (KeywordWord k ∷ ws) t rest
base_by_sound k ws t rest e = elim (if_some (k == VOID) _ _ (t, rest) e) [
  | inl p ↦ subst (λ (z : TypeTree × List Word). IsBase (KeywordWord k ∷ ws) z.0 z.1) (some_is (VoidType, ws) (t, rest) p.1) (subst (λ n. IsBase (KeywordWord n ∷ ws) VoidType ws) (sym (eqb-true k VOID p.0)) void_base)
  | inr p ↦ elim (if_some (k == STRUCT) _ _ (t, rest) p.1) [
    | inl p ↦
        let n = bind_some (first_name ws) (λ tag. Some (StructType tag, tail ws)) (t, rest) p.1 in
        let base : IsBase (KeywordWord k ∷ ws) (StructType n.0) (tail ws) = subst (λ j. IsBase (KeywordWord j ∷ ws) (StructType n.0) (tail ws)) (sym (eqb-true k STRUCT p.0)) (subst (λ l. IsBase (KeywordWord STRUCT ∷ l) (StructType n.0) (tail ws)) (sym (name_first ws n.0 n.1)) struct_base) in
        subst (λ (z : TypeTree × List Word). IsBase (KeywordWord k ∷ ws) z.0 z.1) (some_is (StructType n.0, tail ws) (t, rest) n.2) base
    | inr p ↦ elim (if_some (k == UNSIGNED) _ _ (t, rest) p.1) [
      | inl p ↦ subst (λ j. IsBase (KeywordWord j ∷ ws) t rest) (sym (eqb-true k UNSIGNED p.0)) (unsigned_sound ws t rest (some_is (unsigned_base ws) (t, rest) p.1))
      | inr p ↦
          let i = bind_some (integer_of false k) (λ i. Some (IntegerType i, ws)) (t, rest) p.1 in
          let is = integer_sound false k i.0 i.1 in
          subst (λ (z : TypeTree × List Word). IsBase (KeywordWord k ∷ ws) z.0 z.1) (some_is (IntegerType i.0, ws) (t, rest) i.2) (signed_base is.1)
    ]
  ]
]

pub base_sound : (ws : List Word) (t : TypeTree) (rest : List Word) → base_of ws ≡ Some (t, rest) → IsBase ws t rest
base_sound [] t rest e = absurd cc
base_sound (KeywordWord k ∷ ws) t rest e = base_by_sound k ws t rest e
base_sound (NameWord bytes ∷ ws) t rest e = absurd cc
base_sound (SignWord s ∷ ws) t rest e = absurd cc
base_sound (NumberWord value ty ∷ ws) t rest e = absurd cc
base_sound (CharWord byte ∷ ws) t rest e = absurd cc
base_sound (TextWord bytes ∷ ws) t rest e = absurd cc

-- stars with how many of those allowed are left
abbrev Stars : ℕ → TypeTree → List Word → TypeTree → ℕ → List Word → Type 0
Stars left t ws u now rest = (n : ℕ) × (n + now ≡ left) × IsStars n ws t u rest

stars_sound : (left : ℕ) (t : TypeTree) (ws : List Word) (u : TypeTree) (now : ℕ) (rest : List Word) → stars_of left t ws ≡ Some (u, now, rest) → Stars left t ws u now rest
stars_sound zero t ws u now rest e = elim (if_some (has_sign STAR ws) _ _ (u, now, rest) e) [
  | inl p ↦ absurd cc
  | inr p ↦ subst (λ (z : TypeTree × ℕ × List Word). Stars zero t ws z.0 z.1 z.2) (some_is (t, 0, ws) (u, now, rest) p.1) (0, refl, no_star)
]
stars_sound (suc left) t ws u now rest e = elim (if_some (has_sign STAR ws) _ _ (u, now, rest) e) [
  | inl p ↦
      let more = stars_sound left (PointerType t) (tail ws) u now rest p.1 in
      (suc more.0, omega (arith, more.1), subst (λ l. IsStars (suc more.0) l t u rest) (sym (sign_first STAR ws p.0)) (one_star more.2))
  | inr p ↦ subst (λ (z : TypeTree × ℕ × List Word). Stars (suc left) t ws z.0 z.1 z.2) (some_is (t, suc left, ws) (u, now, rest) p.1) (0, omega arith, no_star)
]

dimension_sound : (ws : List Word) (n : ℕ) (rest : List Word) → dimension_of ws ≡ Some (n, rest) → (ty : IntType) × (ws ≡ NumberWord n ty ∷ SignWord CLOSE_BRACKET ∷ rest) × (n < 4294967296)
dimension_sound ws n rest e =
    let v = bind_some (first_number ws) _ (n, rest) e in
    let r = bind_some (after_sign CLOSE_BRACKET (tail ws)) _ (n, rest) v.2 in
    let p = if_then (nat_lt v.0 4294967296) (Some (v.0, r.0)) (n, rest) r.2 in
    let q : (v.0, r.0) ≡ (n, rest) = some_is (v.0, r.0) (n, rest) p.1 in
    let f = number_first ws v.0 v.1 in
    let both : ws ≡ NumberWord v.0 f.0 ∷ SignWord CLOSE_BRACKET ∷ r.0 = f.1 ∙ ap (λ l. NumberWord v.0 f.0 ∷ l) (behind_sign CLOSE_BRACKET (tail ws) r.0 r.1) in
    (f.0, both ∙ ap (λ (z : ℕ × List Word). NumberWord z.0 f.0 ∷ SignWord CLOSE_BRACKET ∷ z.1) q, subst (λ (z : ℕ × List Word). z.0 < 4294967296) q (ltb-true v.0 4294967296 p.0))

-- dimensions of which there are at most so many
abbrev Dims : ℕ → TypeTree → List Word → TypeTree → List Word → Type 0
Dims left t ws u rest = (n : ℕ) × (n ≤ left) × IsDims n ws t u rest

dims_sound : (left : ℕ) (t : TypeTree) (ws : List Word) (u : TypeTree) (rest : List Word) → dims_of left t ws ≡ Some (u, rest) → Dims left t ws u rest
dims_sound zero t ws u rest e = elim (if_some (has_sign OPEN_BRACKET ws) _ _ (u, rest) e) [
  | inl p ↦ absurd cc
  | inr p ↦ subst (λ (z : TypeTree × List Word). Dims zero t ws z.0 z.1) (some_is (t, ws) (u, rest) p.1) (0, omega arith, no_dim)
]
dims_sound (suc left) t ws u rest e = elim (if_some (has_sign OPEN_BRACKET ws) _ _ (u, rest) e) [
  | inl p ↦
      let d = bind_some (dimension_of (tail ws)) _ (u, rest) p.1 in
      let x = bind_some (dims_of left t d.0.1) _ (u, rest) d.2 in
      let more = dims_sound left t d.0.1 x.0.0 x.0.1 x.1 in
      let f = dimension_sound (tail ws) d.0.0 d.0.1 d.1 in
      let at : ws ≡ SignWord OPEN_BRACKET ∷ NumberWord d.0.0 f.0 ∷ SignWord CLOSE_BRACKET ∷ d.0.1 = sign_first OPEN_BRACKET ws p.0 ∙ ap (λ l. SignWord OPEN_BRACKET ∷ l) f.1 in
      let is : IsDims (suc more.0) ws t (ArrayType x.0.0 d.0.0) x.0.1 = subst (λ l. IsDims (suc more.0) l t (ArrayType x.0.0 d.0.0) x.0.1) (sym at) (one_dim f.2 more.2) in
      subst (λ (z : TypeTree × List Word). Dims (suc left) t ws z.0 z.1) (some_is (ArrayType x.0.0 d.0.0, x.0.1) (u, rest) x.2) (suc more.0, omega (arith, more.1), is)
  | inr p ↦ subst (λ (z : TypeTree × List Word). Dims (suc left) t ws z.0 z.1) (some_is (t, ws) (u, rest) p.1) (0, omega arith, no_dim)
]

pub pointer_sound : (ws : List Word) (t : TypeTree) (left : ℕ) (rest : List Word) → pointer_type_of ws ≡ Some (t, left, rest) → (n : ℕ) × (n + left ≡ nesting) × IsPointerType n ws t rest
pointer_sound ws t left rest e =
    let b = bind_some (base_of ws) _ (t, left, rest) e in
    let s = stars_sound nesting b.0.0 b.0.1 t left rest b.2 in
    (s.0, s.1, pointer_type (base_sound ws b.0.0 b.0.1 b.1) s.2)

pub dims_in : (left : ℕ) (t : TypeTree) (ws : List Word) (u : TypeTree) (rest : List Word) → dims_of left t ws ≡ Some (u, rest) → (n : ℕ) × (n ≤ left) × IsDims n ws t u rest
dims_in = dims_sound
