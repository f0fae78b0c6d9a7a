-- What is read as an expression is one in the grammar.
use Rattle.std.proofs.Common.{◌≡◌, ℕ, zero, suc, ◌+◌, ◌≤◌, max, Bool, true, false, List, [], ◌∷◌, length, Option, Some, None, inl, inr, refl, sym, ap, ◌∙◌, subst, arith}
use Rattle.std.specs.Prelude.{if◌then◌else◌, ◌==◌, ◌&&◌}
use Rattle.std.proofs.lemmas.Bool.{eqb-true}
use Rattle.std.proofs.Math.Nat.{zero-max, max-zero}
use Rattle.fx_c_ast.specs.declared.operator.Unop.{Unop}
use Rattle.fx_c_ast.specs.declared.operator.Binop.{Binop}
use Rattle.fx_c_ast.specs.ParsedTrees.{TypeTree, ExprTree, UnTree, BinTree, CastTree, SizeTree, IndexTree, MemberTree, ArrowTree, CallTree, GateTree, ExprTrees, NoExprs, MoreExprs}
use Rattle.fx_c_lex.specs.declared.sign.TheConstants.{OPEN_PAREN, CLOSE_PAREN, OPEN_BRACKET, CLOSE_BRACKET, COMMA, DOT, ARROW}
use Rattle.fx_c_lex.specs.declared.keyword.TheConstants.{SIZEOF}
use Rattle.fx_c_parse.specs.declared.front.UnaryFront.{UnaryFront}
use Rattle.fx_c_parse.specs.declared.front.UnaryFront.TheVariants as unary
use Rattle.fx_c_parse.specs.declared.front.Suffix.{Suffix}
use Rattle.fx_c_parse.specs.declared.front.Suffix.TheVariants as suffix
use Rattle.fx_c_parse.specs.Making.{with_last}
use Rattle.fx_c_parse.specs.Words.{Word, NameWord, KeywordWord, NumberWord, CharWord, TextWord, SignWord, first_keyword, first_name, tail, has_sign, after_sign}
use Rattle.fx_c_parse.specs.Reading.{◌>>=◌, Ends, Tries, turns}
use Rattle.fx_c_parse.specs.Fronts.{binary_operator, operator_of, unary_of, begins_type, at_level, operator_at, unary_by_operator, unary_front, suffix_by, suffix_at}
use Rattle.fx_c_parse.specs.Types.{nesting, dims_of, pointer_type_of}
use Rattle.fx_c_parse.specs.Expressions.{levels, HeadTree, WholeHead, InsideHead, CallHead, GateHead, head_of, around_tree, Reads, deeper, argument_turn, more_by, arguments_by, primary_rest, primary_by, suffixed_by, suffix_turn_by, suffix_turn, flat, postfix_by, cast_type_of, size_of, operand_by, unary_by, binary_turn_by, binary_turn, binary_by, binary_at, expression_of}
use Rattle.fx_c_parse.specs.Grammar.{IsDims, IsPointerType, IsPrimary, IsPostfix, no_suffix, index, member, arrow, IsUnary, no_sign, sign, cast, size, IsBinary, operand, tighter, joined, IsArguments, no_argument, arguments, IsMore, no_more, more, IsExpression, nested}
use Rattle.fx_c_parse.proofs.Inversions.{bind_some, some_is, if_some, if_then, and_true, chosen, sign_first, behind_sign, name_first, deeper_is, turns_keep}
use Rattle.fx_c_parse.proofs.SoundTypes.{pointer_sound, dims_in}
use Rattle.fx_c_parse.proofs.SoundPrimaries.{HeadIs, head_sound}

abbrev pub Found : Type 0
Found = ExprTree × ℕ × List Word

-- what is read is in the grammar and has at most this height
abbrev pub SoundAt : (ℕ → List Word → Reads) → ℕ → Type 0
SoundAt below b = (level : ℕ) (ws : List Word) (y : Found) → below level ws ≡ Some y → IsBinary level ws y.0 y.1 y.2 × (y.1 ≤ b)

-- a node above others
finish : (Is : ExprTree → ℕ → List Word → Type 0) (t : ExprTree) (l r budget : ℕ) (rest : List Word) (y : Found) → (deeper l r budget >>= λ m. Some (t, m, rest)) ≡ Some y → Is t (max l r + 1) rest → Is y.0 y.1 y.2 × (y.1 ≤ budget)
finish Is t l r budget rest y e is =
    let m = bind_some (deeper l r budget) (λ m. Some (t, m, rest)) y e in
    let d = deeper_is l r budget m.0 m.1 in
    let here : Is t m.0 rest = subst (λ n. Is t n rest) (sym d.0) is in
    subst (λ (z : Found). Is z.0 z.1 z.2 × (z.1 ≤ budget)) (some_is (t, m.0, rest) y m.2) (here, d.1)

finish_one : (Is : ExprTree → ℕ → List Word → Type 0) (t : ExprTree) (h budget : ℕ) (rest : List Word) (y : Found) → (deeper h 0 budget >>= λ m. Some (t, m, rest)) ≡ Some y → Is t (h + 1) rest → Is y.0 y.1 y.2 × (y.1 ≤ budget)
finish_one Is t h budget rest y e is = finish Is t h 0 budget rest y e (subst (λ n. Is t (n + 1) rest) (sym (max-zero h)) is)

abbrev pub with_all : ExprTrees → ExprTrees → ExprTrees
with_all NoExprs ys = ys
with_all (MoreExprs x xs) ys = MoreExprs x (with_all xs ys)

pub with_none : (xs : ExprTrees) → with_all xs NoExprs ≡ xs
with_none NoExprs = refl
with_none (MoreExprs x xs) = ap (MoreExprs x) (with_none xs)

pub last_with : (xs : ExprTrees) (x : ExprTree) (ys : ExprTrees) → with_all (with_last xs x) ys ≡ with_all xs (MoreExprs x ys)
last_with NoExprs x ys = refl
last_with (MoreExprs y xs) x ys = ap (MoreExprs y) (last_with xs x ys)

-- the words that an operand, a suffix or an operator of a level begins with
pub data SuffixIs : List Word → Suffix → Type 0 where
  index_suffix : {a : List Word} → SuffixIs (SignWord OPEN_BRACKET ∷ a) suffix.Index
  member_suffix : {a : List Word} → SuffixIs (SignWord DOT ∷ a) suffix.Member
  arrow_suffix : {a : List Word} → SuffixIs (SignWord ARROW ∷ a) suffix.Arrow

pub data UnaryIs : List Word → UnaryFront → Type 0 where
  sign_front : {s : ℕ} {op : Unop} {a : List Word} → unary_of s ≡ Some op → UnaryIs (SignWord s ∷ a) (unary.Sign op)
  cast_front : {a : List Word} → UnaryIs (SignWord OPEN_PAREN ∷ a) unary.Cast
  size_front : {a : List Word} → UnaryIs (KeywordWord SIZEOF ∷ a) unary.Size
  postfix_front : {ws : List Word} → UnaryIs ws unary.Postfix

suffix_at_sign : (t : ℕ) (ws : List Word) (s : Suffix) → suffix_by t ≡ Some s → SuffixIs (SignWord t ∷ ws) s
suffix_at_sign t ws s e = elim (if_some (t == OPEN_BRACKET) _ _ s e) [
  | inl p ↦ subst (λ z. SuffixIs (SignWord t ∷ ws) z) (some_is suffix.Index s p.1) (subst (λ n. SuffixIs (SignWord n ∷ ws) suffix.Index) (sym (eqb-true t OPEN_BRACKET p.0)) index_suffix)
  | inr p ↦ elim (if_some (t == DOT) _ _ s p.1) [
    | inl p ↦ subst (λ z. SuffixIs (SignWord t ∷ ws) z) (some_is suffix.Member s p.1) (subst (λ n. SuffixIs (SignWord n ∷ ws) suffix.Member) (sym (eqb-true t DOT p.0)) member_suffix)
    | inr p ↦
        let p = if_then (t == ARROW) (Some suffix.Arrow) s p.1 in
        subst (λ z. SuffixIs (SignWord t ∷ ws) z) (some_is suffix.Arrow s p.1) (subst (λ n. SuffixIs (SignWord n ∷ ws) suffix.Arrow) (sym (eqb-true t ARROW p.0)) arrow_suffix)
  ]
]

suffix_view : (ws : List Word) (s : Suffix) → suffix_at ws ≡ Some s → SuffixIs ws s
suffix_view [] s e = absurd cc
suffix_view (SignWord t ∷ ws) s e = suffix_at_sign t ws s e
suffix_view (NameWord bytes ∷ ws) s e = absurd cc
suffix_view (KeywordWord k ∷ ws) s e = absurd cc
suffix_view (NumberWord value ty ∷ ws) s e = absurd cc
suffix_view (CharWord byte ∷ ws) s e = absurd cc
suffix_view (TextWord bytes ∷ ws) s e = absurd cc

unary_at_sign : (s : ℕ) (ws : List Word) (o : Option Unop) → unary_of s ≡ o → UnaryIs (SignWord s ∷ ws) (unary_by_operator s (SignWord s ∷ ws) o)
unary_at_sign s ws (Some op) e = sign_front e
unary_at_sign s ws None e = chosen (UnaryIs (SignWord s ∷ ws)) (s == OPEN_PAREN && begins_type (first_keyword ws)) _ _ (λ q. subst (λ n. UnaryIs (SignWord n ∷ ws) unary.Cast) (sym (eqb-true s OPEN_PAREN (and_true (s == OPEN_PAREN) _ q).0)) cast_front) (λ _. postfix_front)

unary_view : (ws : List Word) → UnaryIs ws (unary_front ws)
unary_view [] = postfix_front
unary_view (SignWord s ∷ ws) = unary_at_sign s ws (unary_of s) refl
unary_view (NameWord bytes ∷ ws) = postfix_front
unary_view (KeywordWord k ∷ ws) = chosen (UnaryIs (KeywordWord k ∷ ws)) (k == SIZEOF) _ _ (λ e. subst (λ n. UnaryIs (KeywordWord n ∷ ws) unary.Size) (sym (eqb-true k SIZEOF e)) size_front) (λ _. postfix_front)
unary_view (NumberWord value ty ∷ ws) = postfix_front
unary_view (CharWord byte ∷ ws) = postfix_front
unary_view (TextWord bytes ∷ ws) = postfix_front

operator_at_sign : (level s : ℕ) (op : Binop) → (operator_of s >>= λ o. at_level level o) ≡ Some op → operator_of s ≡ binary_operator op level
operator_at_sign level s op e =
    let o = bind_some (operator_of s) (at_level level) op e in
    let p = if_then (o.0.level == level) (Some o.0.op) op o.2 in
    let l : o.0.level ≡ level = eqb-true o.0.level level p.0 in
    let q : o.0.op ≡ op = some_is o.0.op op p.1 in
    o.1 ∙ ap (λ z. binary_operator z o.0.level) q ∙ ap (λ n. binary_operator op n) l

operator_view : (level : ℕ) (ws : List Word) (op : Binop) → operator_at level ws ≡ Some op → (s : ℕ) × (ws ≡ SignWord s ∷ tail ws) × (operator_of s ≡ binary_operator op level)
operator_view level [] op e = absurd cc
operator_view level (SignWord s ∷ ws) op e = (s, refl, operator_at_sign level s op e)
operator_view level (NameWord bytes ∷ ws) op e = absurd cc
operator_view level (KeywordWord k ∷ ws) op e = absurd cc
operator_view level (NumberWord value ty ∷ ws) op e = absurd cc
operator_view level (CharWord byte ∷ ws) op e = absurd cc
operator_view level (TextWord bytes ∷ ws) op e = absurd cc

size_sound : (ws : List Word) (y : ExprTree × List Word) → size_of ws ≡ Some y → IsUnary (KeywordWord SIZEOF ∷ ws) y.0 1 y.1
size_sound ws y e =
    let a = bind_some (after_sign OPEN_PAREN ws) _ y e in
    let t = bind_some (pointer_type_of a.0) _ y a.2 in
    let d = bind_some (dims_of t.0.1 t.0.0 t.0.2) _ y t.2 in
    let c = bind_some (after_sign CLOSE_PAREN d.0.1) _ y d.2 in
    let p = pointer_sound a.0 t.0.0 t.0.1 t.0.2 t.1 in
    let m = dims_in t.0.1 t.0.0 t.0.2 d.0.0 d.0.1 d.1 in
    let dims : IsDims m.0 t.0.2 t.0.0 d.0.0 (SignWord CLOSE_PAREN ∷ c.0) = subst (λ l. IsDims m.0 t.0.2 t.0.0 d.0.0 l) (behind_sign CLOSE_PAREN d.0.1 c.0 c.1) m.2 in
    let le : p.0 + m.0 ≤ nesting = omega (arith, p.1, m.1) in
    let is : IsUnary (KeywordWord SIZEOF ∷ SignWord OPEN_PAREN ∷ a.0) (SizeTree d.0.0) 1 c.0 = size p.2 dims le in
    let at : IsUnary (KeywordWord SIZEOF ∷ ws) (SizeTree d.0.0) 1 c.0 = subst (λ l. IsUnary (KeywordWord SIZEOF ∷ l) (SizeTree d.0.0) 1 c.0) (sym (behind_sign OPEN_PAREN ws a.0 a.1)) is in
    subst (λ (z : ExprTree × List Word). IsUnary (KeywordWord SIZEOF ∷ ws) z.0 1 z.1) (some_is (SizeTree d.0.0, c.0) y c.2) at

-- an expression without binary operators
lowest : (ws : List Word) (x : ExprTree) (h : ℕ) (rest : List Word) → IsBinary zero ws x h rest → IsUnary ws x h rest
lowest _ _ _ _ (operand is) = is

-- arguments from here on, behind those read before
record Behind (b : ℕ) (ws : List Word) (before : ExprTrees) (height : ℕ) (all : ExprTrees) (h : ℕ) (rest : List Word) : Type 0 where
  xs : ExprTrees
  k : ℕ
  is : IsMore ws xs k rest
  same : with_all before xs ≡ all
  highest : max height k ≡ h
  low : k ≤ b

-- one more argument
abbrev taken : ExprTrees × ℕ → Found → Option ((ExprTrees × ℕ) × List Word)
taken x z = Some ((with_last x.0 z.0, max x.1 z.1), z.2)

module _ (below : ℕ → List Word → Reads) (b : ℕ) (sound : SoundAt below b) where
  -- whatever arguments follow, all of them are arguments from the start
  Kept : List Word → ExprTrees → ℕ → ExprTrees × ℕ → List Word → Type 0
  Kept ws before height x here = (ys : ExprTrees) (k : ℕ) (rest : List Word) → IsMore here ys k rest → k ≤ b → Behind b ws before height (with_all x.0 ys) (max x.1 k) rest

  kept_more : (ws : List Word) (before : ExprTrees) (height : ℕ) (x y : ExprTrees × ℕ) (here rest : List Word) → Kept ws before height x here → argument_turn below x here ≡ Tries (Some (y, rest)) → Kept ws before height y rest
  unfolding Kept
  kept_more ws before height x y here rest kept e = λ ys k end is low.
      let t = by_comma (has_sign COMMA here) refl e in
      let z = bind_some (below levels (tail here)) (taken x) (y, rest) t.1 in
      let a = sound levels (tail here) z.0 z.1 in
      let q : ((with_last x.0 z.0.0, max x.1 z.0.1), z.0.2) ≡ (y, rest) = some_is _ _ z.2 in
      let is_z : IsMore z.0.2 ys k end = subst (λ l. IsMore l ys k end) (sym (ap (λ (p : (ExprTrees × ℕ) × List Word). p.1) q)) is in
      let both : IsMore here (MoreExprs z.0.0 ys) (max z.0.1 k) end = subst (λ l. IsMore l (MoreExprs z.0.0 ys) (max z.0.1 k) end) (sym (sign_first COMMA here t.0)) (more a.0 is_z) in
      let whole = kept (MoreExprs z.0.0 ys) (max z.0.1 k) end both (omega (arith, a.1, low)) in
      let first : with_all (with_last x.0 z.0.0) ys ≡ with_all y.0 ys = ap (λ (p : (ExprTrees × ℕ) × List Word). with_all p.0.0 ys) q in
      let second : max (max x.1 z.0.1) k ≡ max y.1 k = ap (λ (p : (ExprTrees × ℕ) × List Word). max p.0.1 k) q in
      record { xs = whole.xs; k = whole.k; is = whole.is; same = whole.same ∙ sym (last_with x.0 z.0.0 ys) ∙ first; highest = omega (arith, whole.highest, second); low = whole.low }
    where
      by_comma : (c : Bool) → has_sign COMMA here ≡ c → (if c then Tries (below levels (tail here) >>= taken x) else Ends) ≡ Tries (Some (y, rest)) → (has_sign COMMA here ≡ true) × ((below levels (tail here) >>= taken x) ≡ Some (y, rest))
      by_comma true q e = (q, cc)
      by_comma false q e = absurd cc

  more_sound : (before : ExprTrees) (height : ℕ) (ws : List Word) (all : ExprTrees) (h : ℕ) (rest : List Word) → more_by below before height ws ≡ Some (all, h, rest) → Behind b ws before height all h (SignWord CLOSE_PAREN ∷ rest)
  unfolding Kept
  more_sound before height ws all h rest e =
      let t = bind_some (turns (argument_turn below) (length ws + 1) (before, height) ws) _ (all, h, rest) e in
      let c = bind_some (after_sign CLOSE_PAREN t.0.1) (λ c. Some (t.0.0.0, t.0.0.1, c)) (all, h, rest) t.2 in
      let q : (t.0.0.0, t.0.0.1, c.0) ≡ (all, h, rest) = some_is _ _ c.2 in
      let start : Kept ws before height (before, height) ws = λ ys k end is low. record { xs = ys; k = k; is = is; same = refl; highest = refl; low = low } in
      let kept = turns_keep (argument_turn below) (Kept ws before height) (λ x y here rest. kept_more ws before height x y here rest) (length ws + 1) (before, height) t.0.0 ws t.0.1 start t.1 in
      let z = kept.0 NoExprs 0 t.0.1 no_more (omega arith) in
      let end : IsMore ws z.xs z.k (SignWord CLOSE_PAREN ∷ c.0) = subst (λ l. IsMore ws z.xs z.k l) (behind_sign CLOSE_PAREN t.0.1 c.0 c.1) z.is in
      let found : Behind b ws before height t.0.0.0 t.0.0.1 (SignWord CLOSE_PAREN ∷ c.0) = record { xs = z.xs; k = z.k; is = end; same = z.same ∙ with_none t.0.0.0; highest = z.highest ∙ max-zero t.0.0.1; low = z.low } in
      subst (λ (p : ExprTrees × ℕ × List Word). Behind b ws before height p.0 p.1 (SignWord CLOSE_PAREN ∷ p.2)) q found

  arguments_sound : (ws : List Word) (y : ExprTrees × ℕ × List Word) → arguments_by below ws ≡ Some y → IsArguments ws y.0 y.1 (SignWord CLOSE_PAREN ∷ y.2) × (y.1 ≤ b)
  arguments_sound ws y e = elim (if_some (has_sign CLOSE_PAREN ws) _ _ y e) [
    | inl p ↦
        let none : IsArguments ws NoExprs 0 (SignWord CLOSE_PAREN ∷ tail ws) = subst (λ l. IsArguments ws NoExprs 0 l) (sign_first CLOSE_PAREN ws p.0) no_argument in
        subst (λ (z : ExprTrees × ℕ × List Word). IsArguments ws z.0 z.1 (SignWord CLOSE_PAREN ∷ z.2) × (z.1 ≤ b)) (some_is (NoExprs, 0, tail ws) y p.1) (none, omega arith)
    | inr p ↦
        let x = bind_some (below levels ws) _ y p.1 in
        let a = sound levels ws x.0 x.1 in
        let m = more_sound (MoreExprs x.0.0 NoExprs) x.0.1 x.0.2 y.0 y.1 y.2 x.2 in
        let both : IsArguments ws (MoreExprs x.0.0 m.xs) (max x.0.1 m.k) (SignWord CLOSE_PAREN ∷ y.2) = arguments a.0 m.is in
        let named : IsArguments ws y.0 (max x.0.1 m.k) (SignWord CLOSE_PAREN ∷ y.2) = subst (λ z. IsArguments ws z (max x.0.1 m.k) (SignWord CLOSE_PAREN ∷ y.2)) m.same both in
        (subst (λ n. IsArguments ws y.0 n (SignWord CLOSE_PAREN ∷ y.2)) m.highest named, omega (arith, m.highest, m.low, a.1))
  ]

  rest_sound : (ws : List Word) (head : HeadTree) (a : List Word) → HeadIs ws head a → (y : Found) → primary_rest below (suc b) head a ≡ Some y → IsPrimary ws y.0 y.1 y.2 × (y.1 ≤ suc b)
  rest_sound ws (WholeHead x) a is y e =
      let one : 1 ≤ suc b = omega arith in
      subst (λ (z : Found). IsPrimary ws z.0 z.1 z.2 × (z.1 ≤ suc b)) (some_is (x, 1, a) y e) (is, one)
  rest_sound ws (InsideHead what) a is y e =
      let x = bind_some (below levels a) _ y e in
      let c = bind_some (after_sign CLOSE_PAREN x.0.2) _ y x.2 in
      let s = sound levels a x.0 x.1 in
      let inner = subst (λ l. IsBinary levels a x.0.0 x.0.1 l) (behind_sign CLOSE_PAREN x.0.2 c.0 c.1) s.0 in
      finish_one (IsPrimary ws) (around_tree what x.0.0) x.0.1 (suc b) c.0 y c.2 (is x.0.0 x.0.1 c.0 inner)
  rest_sound ws (CallHead f) a is y e =
      let x = bind_some (arguments_by below a) _ y e in
      let s = arguments_sound a x.0 x.1 in
      finish_one (IsPrimary ws) (CallTree f x.0.0) x.0.1 (suc b) x.0.2 y x.2 (is x.0.0 x.0.1 x.0.2 s.0)
  rest_sound ws (GateHead f) a is y e =
      let x = bind_some (more_by below NoExprs 0 a) _ y e in
      let s = more_sound NoExprs 0 a x.0.0 x.0.1 x.0.2 x.1 in
      let named : IsMore a x.0.0 s.k (SignWord CLOSE_PAREN ∷ x.0.2) = subst (λ z. IsMore a z s.k (SignWord CLOSE_PAREN ∷ x.0.2)) s.same s.is in
      let high : IsMore a x.0.0 x.0.1 (SignWord CLOSE_PAREN ∷ x.0.2) = subst (λ n. IsMore a x.0.0 n (SignWord CLOSE_PAREN ∷ x.0.2)) (sym (zero-max s.k) ∙ s.highest) named in
      finish_one (IsPrimary ws) (GateTree f x.0.0) x.0.1 (suc b) x.0.2 y x.2 (is x.0.0 x.0.1 x.0.2 high)

  primary_sound : (ws : List Word) (y : Found) → primary_by below (suc b) ws ≡ Some y → IsPrimary ws y.0 y.1 y.2 × (y.1 ≤ suc b)
  primary_sound ws y e =
      let x = bind_some (head_of ws) _ y e in
      rest_sound ws x.0.0 x.0.1 (head_sound ws x.0 x.1) y x.2

  -- the operand of a suffix, whose sign stands at the front of the words here
  suffixed_sound : (ws here : List Word) (s : Suffix) → SuffixIs here s → (x : ExprTree) (h : ℕ) → IsPostfix ws x h here → (y : Found) → suffixed_by below (suc b) s x h (tail here) ≡ Some y → IsPostfix ws y.0 y.1 y.2 × (y.1 ≤ suc b)
  suffixed_sound ws _ _ (index_suffix {a}) x h is y e =
      let z = bind_some (below levels a) _ y e in
      let c = bind_some (after_sign CLOSE_BRACKET z.0.2) _ y z.2 in
      let s = sound levels a z.0 z.1 in
      let inner = subst (λ l. IsBinary levels a z.0.0 z.0.1 l) (behind_sign CLOSE_BRACKET z.0.2 c.0 c.1) s.0 in
      finish (IsPostfix ws) (IndexTree x z.0.0) h z.0.1 (suc b) c.0 y c.2 (index is inner)
  suffixed_sound ws _ _ (member_suffix {a}) x h is y e =
      let n = bind_some (first_name a) _ y e in
      let at = subst (λ l. IsPostfix ws x h (SignWord DOT ∷ l)) (name_first a n.0 n.1) is in
      finish_one (IsPostfix ws) (MemberTree x n.0) h (suc b) (tail a) y n.2 (member at)
  suffixed_sound ws _ _ (arrow_suffix {a}) x h is y e =
      let n = bind_some (first_name a) _ y e in
      let at = subst (λ l. IsPostfix ws x h (SignWord ARROW ∷ l)) (name_first a n.0 n.1) is in
      finish_one (IsPostfix ws) (ArrowTree x n.0) h (suc b) (tail a) y n.2 (arrow at)

  Postfixes : List Word → ExprTree × ℕ → List Word → Type 0
  Postfixes ws x here = IsPostfix ws x.0 x.1 here × (x.1 ≤ suc b)

  postfix_more : (ws : List Word) (x y : ExprTree × ℕ) (here rest : List Word) → Postfixes ws x here → suffix_turn below (suc b) x here ≡ Tries (Some (y, rest)) → Postfixes ws y rest
  unfolding Postfixes
  postfix_more ws x y here rest is e = by_suffix (suffix_at here) refl e
    where
      by_suffix : (o : Option Suffix) → suffix_at here ≡ o → suffix_turn_by below (suc b) x here o ≡ Tries (Some (y, rest)) → IsPostfix ws y.0 y.1 rest × (y.1 ≤ suc b)
      by_suffix None q e = absurd cc
      by_suffix (Some s) q e =
          let z = bind_some (suffixed_by below (suc b) s x.0 x.1 (tail here)) (λ z. Some ((z.0, z.1), z.2)) (y, rest) cc in
          let longer = suffixed_sound ws here s (suffix_view here s q) x.0 x.1 is.0 z.0 z.1 in
          subst (λ (p : (ExprTree × ℕ) × List Word). IsPostfix ws p.0.0 p.0.1 p.1 × (p.0.1 ≤ suc b)) (some_is ((z.0.0, z.0.1), z.0.2) (y, rest) z.2) longer

  postfix_sound : (ws : List Word) (y : Found) → postfix_by below (suc b) ws ≡ Some y → IsPostfix ws y.0 y.1 y.2 × (y.1 ≤ suc b)
  unfolding Postfixes
  postfix_sound ws y e =
      let x = bind_some (primary_by below (suc b) ws) _ y e in
      let t = bind_some (turns (suffix_turn below (suc b)) (length x.0.2 + 1) (x.0.0, x.0.1) x.0.2) (λ z. Some (flat z)) y x.2 in
      let p = primary_sound ws x.0 x.1 in
      let start : Postfixes ws (x.0.0, x.0.1) x.0.2 = (no_suffix p.0, p.1) in
      let kept = turns_keep (suffix_turn below (suc b)) (Postfixes ws) (λ x y here rest. postfix_more ws x y here rest) (length x.0.2 + 1) (x.0.0, x.0.1) t.0.0 x.0.2 t.0.1 start t.1 in
      subst (λ (z : Found). IsPostfix ws z.0 z.1 z.2 × (z.1 ≤ suc b)) (some_is (flat t.0) y t.2) kept.0

  operand_sound : (ws : List Word) (f : UnaryFront) → UnaryIs ws f → (y : Found) → operand_by below (suc b) ws f ≡ Some y → IsUnary ws y.0 y.1 y.2 × (y.1 ≤ suc b)
  operand_sound _ _ (sign_front {s} {op} {a} is) y e =
      let x = bind_some (below 0 a) _ y e in
      let inner = sound 0 a x.0 x.1 in
      finish_one (IsUnary (SignWord s ∷ a)) (UnTree op x.0.0) x.0.1 (suc b) x.0.2 y x.2 (sign is (lowest a x.0.0 x.0.1 x.0.2 inner.0))
  operand_sound _ _ (cast_front {a}) y e =
      let t = bind_some (cast_type_of (SignWord OPEN_PAREN ∷ a)) _ y e in
      let p = bind_some (pointer_type_of a) _ t.0 t.1 in
      let c = bind_some (after_sign CLOSE_PAREN p.0.2) _ t.0 p.2 in
      let x = bind_some (below 0 t.0.1) _ y t.2 in
      let inner = sound 0 t.0.1 x.0 x.1 in
      let ty = pointer_sound a p.0.0 p.0.1 p.0.2 p.1 in
      let q : (p.0.0, c.0) ≡ t.0 = some_is (p.0.0, c.0) t.0 c.2 in
      let closed : IsPointerType ty.0 a p.0.0 (SignWord CLOSE_PAREN ∷ c.0) = subst (λ l. IsPointerType ty.0 a p.0.0 l) (behind_sign CLOSE_PAREN p.0.2 c.0 c.1) ty.2 in
      let named : IsPointerType ty.0 a t.0.0 (SignWord CLOSE_PAREN ∷ t.0.1) = subst (λ (z : TypeTree × List Word). IsPointerType ty.0 a z.0 (SignWord CLOSE_PAREN ∷ z.1)) q closed in
      let le : ty.0 ≤ nesting = omega (arith, ty.1) in
      finish_one (IsUnary (SignWord OPEN_PAREN ∷ a)) (CastTree t.0.0 x.0.0) x.0.1 (suc b) x.0.2 y x.2 (cast named le (lowest t.0.1 x.0.0 x.0.1 x.0.2 inner.0))
  operand_sound _ _ (size_front {a}) y e =
      let x = bind_some (size_of a) (λ x. Some (x.0, 1, x.1)) y e in
      let one : 1 ≤ suc b = omega arith in
      subst (λ (z : Found). IsUnary (KeywordWord SIZEOF ∷ a) z.0 z.1 z.2 × (z.1 ≤ suc b)) (some_is (x.0.0, 1, x.0.1) y x.2) (size_sound a x.0 x.1, one)
  operand_sound _ _ (postfix_front {ws}) y e =
      let p = postfix_sound ws y e in
      (no_sign p.0, p.1)

  unary_sound : (ws : List Word) (y : Found) → unary_by below (suc b) ws ≡ Some y → IsUnary ws y.0 y.1 y.2 × (y.1 ≤ suc b)
  unary_sound ws y e = operand_sound ws (unary_front ws) (unary_view ws) y e

  Joins : ℕ → List Word → ExprTree × ℕ → List Word → Type 0
  Joins level ws x here = IsBinary (suc level) ws x.0 x.1 here × (x.1 ≤ suc b)

  binary_more : (level : ℕ) (ws : List Word) (x y : ExprTree × ℕ) (here rest : List Word) → Joins level ws x here → binary_turn (below level) (suc b) level x here ≡ Tries (Some (y, rest)) → Joins level ws y rest
  unfolding Joins
  binary_more level ws x y here rest is e = by_operator (operator_at level here) refl e
    where
      by_operator : (o : Option Binop) → operator_at level here ≡ o → binary_turn_by (below level) (suc b) x here o ≡ Tries (Some (y, rest)) → IsBinary (suc level) ws y.0 y.1 rest × (y.1 ≤ suc b)
      by_operator None q e = absurd cc
      by_operator (Some op) q e =
          let z = bind_some (below level (tail here)) (λ z. deeper x.1 z.1 (suc b) >>= λ h. Some ((BinTree op x.0 z.0, h), z.2)) (y, rest) cc in
          let m = bind_some (deeper x.1 z.0.1 (suc b)) (λ h. Some ((BinTree op x.0 z.0.0, h), z.0.2)) (y, rest) z.2 in
          let right = sound level (tail here) z.0 z.1 in
          let o = operator_view level here op q in
          let left : IsBinary (suc level) ws x.0 x.1 (SignWord o.0 ∷ tail here) = subst (λ l. IsBinary (suc level) ws x.0 x.1 l) o.1 is.0 in
          let d = deeper_is x.1 z.0.1 (suc b) m.0 m.1 in
          let both : IsBinary (suc level) ws (BinTree op x.0 z.0.0) m.0 z.0.2 = subst (λ n. IsBinary (suc level) ws (BinTree op x.0 z.0.0) n z.0.2) (sym d.0) (joined left o.2 right.0) in
          subst (λ (p : (ExprTree × ℕ) × List Word). IsBinary (suc level) ws p.0.0 p.0.1 p.1 × (p.0.1 ≤ suc b)) (some_is ((BinTree op x.0 z.0.0, m.0), z.0.2) (y, rest) m.2) (both, d.1)

  binary_sound : (level : ℕ) (ws : List Word) (y : Found) → binary_by (unary_by below (suc b)) below (suc b) level ws ≡ Some y → IsBinary level ws y.0 y.1 y.2 × (y.1 ≤ suc b)
  unfolding Joins
  binary_sound zero ws y e = let u = unary_sound ws y e in (operand u.0, u.1)
  binary_sound (suc level) ws y e =
      let x = bind_some (binary_by (unary_by below (suc b)) below (suc b) level ws) _ y e in
      let t = bind_some (turns (binary_turn (below level) (suc b) level) (length x.0.2 + 1) (x.0.0, x.0.1) x.0.2) (λ z. Some (flat z)) y x.2 in
      let first = binary_sound level ws x.0 x.1 in
      let start : Joins level ws (x.0.0, x.0.1) x.0.2 = (tighter first.0, first.1) in
      let kept = turns_keep (binary_turn (below level) (suc b) level) (Joins level ws) (λ x y here rest. binary_more level ws x y here rest) (length x.0.2 + 1) (x.0.0, x.0.1) t.0.0 x.0.2 t.0.1 start t.1 in
      subst (λ (z : Found). IsBinary (suc level) ws z.0 z.1 z.2 × (z.1 ≤ suc b)) (some_is (flat t.0) y t.2) kept.0

at_sound : (budget : ℕ) → SoundAt (binary_at budget) budget
at_sound zero level ws y e = absurd cc
at_sound (suc b) level ws y e = binary_sound (binary_at b) b (at_sound b) level ws y e

pub expression_sound : (ws : List Word) (x : ExprTree) (rest : List Word) → expression_of ws ≡ Some (x, rest) → IsExpression ws x rest
expression_sound ws x rest e =
    let y = bind_some (binary_at nesting levels ws) _ (x, rest) e in
    let s = at_sound nesting levels ws y.0 y.1 in
    subst (λ (z : ExprTree × List Word). IsExpression ws z.0 z.1) (some_is (y.0.0, y.0.2) (x, rest) y.2) (nested s.0 s.1)
