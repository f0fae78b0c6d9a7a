-- What is read as a statement is one in the grammar.
use Rattle.std.proofs.Common.{◌≡◌, ℕ, zero, suc, ◌+◌, ◌≤◌, max, Bool, true, false, List, [], ◌∷◌, length, Option, Some, None, inl, inr, refl, sym, ap, ◌∙◌, subst, arith}
use Rattle.std.specs.Prelude.{if◌then◌else◌, ◌==◌, ◌||◌, nat_le}
use Rattle.std.proofs.lemmas.Bool.{eqb-true}
use Rattle.fx_c_ast.specs.ParsedTrees.{TypeTree, ExprTree, StmtTree, EmptyTree, BlockTree, LocalTree, IfTree, WhileTree, ForTree, BreakTree, ContinueTree, ReturnTree, StmtTrees, NoStmts, MoreStmts, MaybeStmt, Absent, Present}
use Rattle.fx_c_lex.specs.declared.sign.TheConstants.{OPEN_PAREN, CLOSE_PAREN, OPEN_BRACE, CLOSE_BRACE, SEMICOLON, ASSIGN}
use Rattle.fx_c_lex.specs.declared.keyword.TheConstants.{SHARED, STRUCT, IF, ELSE, WHILE, FOR, BREAK, CONTINUE, RETURN}
use Rattle.fx_c_parse.specs.declared.front.StatementFront.{StatementFront}
use Rattle.fx_c_parse.specs.declared.front.StatementFront.TheVariants as front
use Rattle.fx_c_parse.specs.Making.{with_last_stmt}
use Rattle.fx_c_parse.specs.Words.{Word, NameWord, KeywordWord, NumberWord, CharWord, TextWord, SignWord, first_name, tail, has_sign, has_keyword, after_sign}
use Rattle.fx_c_parse.specs.Reading.{◌>>=◌, Ends, Tries, turns}
use Rattle.fx_c_parse.specs.Fronts.{statement_by_keyword, statement_front}
use Rattle.fx_c_parse.specs.Types.{nesting, pointer_type_of, dims_of}
use Rattle.fx_c_parse.specs.Expressions.{expression_of}
use Rattle.fx_c_parse.specs.Statements.{declarator_of, value_of, behind_shared, local_of, simple_tree, simple_of, simple_statement_of, optional_simple_of, optional_expression_of, condition_of, for_head_of, statement_turn, statements_by, conditional_by, repetition_by, counted_by, statement_by, statement_at}
use Rattle.fx_c_parse.specs.Grammar.{IsPointerType, IsExpression}
use Rattle.fx_c_parse.specs.Phrases.{IsDeclarator, declarator, IsShared, unshared, shared, IsValue, no_value, some_value, IsMaybeExpression, no_expression, some_expression, IsSimple, evaluation, assignment, IsMaybeSimple, no_simple, some_simple, IsStatement, empty, block, local, simple, conditional, alternative, repetition, counted, break, continue, return, IsStatements, no_statement, statements}
use Rattle.fx_c_parse.proofs.Inversions.{bind_some, some_is, if_some, chosen, sign_first, keyword_first, behind_sign, name_first, turns_keep}
use Rattle.fx_c_parse.proofs.SoundTypes.{pointer_sound, dims_in}
use Rattle.fx_c_parse.proofs.SoundExpressions.{expression_sound}

pub declarator_sound : (ws : List Word) (y : TypeTree × List ℕ × List Word) → declarator_of ws ≡ Some y → IsDeclarator ws y.0 y.1 y.2
declarator_sound ws y e =
    let t = bind_some (pointer_type_of ws) _ y e in
    let n = bind_some (first_name t.0.2) _ y t.2 in
    let d = bind_some (dims_of t.0.1 t.0.0 (tail t.0.2)) _ y n.2 in
    let p = pointer_sound ws t.0.0 t.0.1 t.0.2 t.1 in
    let m = dims_in t.0.1 t.0.0 (tail t.0.2) d.0.0 d.0.1 d.1 in
    let named : IsPointerType p.0 ws t.0.0 (NameWord n.0 ∷ tail t.0.2) = subst (λ l. IsPointerType p.0 ws t.0.0 l) (name_first t.0.2 n.0 n.1) p.2 in
    let le : p.0 + m.0 ≤ nesting = omega (arith, p.1, m.1) in
    subst (λ (z : TypeTree × List ℕ × List Word). IsDeclarator ws z.0 z.1 z.2) (some_is (d.0.0, n.0, d.0.1) y d.2) (declarator named m.2 le)

value_sound : (ws : List Word) (y : Option ExprTree × List Word) → value_of ws ≡ Some y → IsValue ws y.0 y.1
value_sound ws y e = elim (if_some (has_sign ASSIGN ws) _ _ y e) [
  | inl p ↦
      let x = bind_some (expression_of (tail ws)) _ y p.1 in
      let is : IsValue ws (Some x.0.0) x.0.1 = subst (λ l. IsValue l (Some x.0.0) x.0.1) (sym (sign_first ASSIGN ws p.0)) (some_value (expression_sound (tail ws) x.0.0 x.0.1 x.1)) in
      subst (λ (z : Option ExprTree × List Word). IsValue ws z.0 z.1) (some_is (Some x.0.0, x.0.1) y x.2) is
  | inr p ↦ subst (λ (z : Option ExprTree × List Word). IsValue ws z.0 z.1) (some_is (None, ws) y p.1) no_value
]

pub shared_is : (ws : List Word) → IsShared ws (has_keyword SHARED ws) (behind_shared ws)
shared_is ws = by_case (has_keyword SHARED ws) refl
  where
    by_case : (b : Bool) → has_keyword SHARED ws ≡ b → IsShared ws b (if b then tail ws else ws)
    by_case true e = subst (λ l. IsShared l true (tail ws)) (sym (keyword_first SHARED ws e)) shared
    by_case false e = unshared

abbrev Found : Type 0
Found = StmtTree × List Word

simple_sound : (ws : List Word) (y : Found) → simple_of ws ≡ Some y → IsSimple ws y.0 y.1
simple_sound ws y e =
    let x = bind_some (expression_of ws) _ y e in
    let v = bind_some (value_of x.0.1) _ y x.2 in
    let is = by_value x.0.0 x.0.1 v.0.0 v.0.1 (expression_sound ws x.0.0 x.0.1 x.1) (value_sound x.0.1 v.0 v.1) in
    subst (λ (z : Found). IsSimple ws z.0 z.1) (some_is (simple_tree x.0.0 v.0.0, v.0.1) y v.2) is
  where
    by_value : (x : ExprTree) (mid : List Word) (v : Option ExprTree) (rest : List Word) → IsExpression ws x mid → IsValue mid v rest → IsSimple ws (simple_tree x v) rest
    by_value x _ _ _ is no_value = evaluation is
    by_value x _ _ _ is (some_value value) = assignment is value

-- a statement that was read, which is at most so high
pub record Stated (b : ℕ) (ws : List Word) (s : StmtTree) (rest : List Word) : Type 0 where
  pub h : ℕ
  pub open_end : Bool
  pub is : IsStatement ws s h open_end rest
  pub low : h ≤ b
  pub no_else : open_end ≡ true → has_keyword ELSE rest ≡ false

closed : (b : ℕ) (ws : List Word) (s : StmtTree) (rest : List Word) → IsStatement ws s 1 false rest → Stated (suc b) ws s rest
closed b ws s rest is = record { h = 1; open_end = false; is = is; low = omega arith; no_else = λ q. absurd cc }

same : (b : ℕ) (ws : List Word) (x y : Found) → Some x ≡ Some y → Stated b ws x.0 x.1 → Stated b ws y.0 y.1
same b ws x y e is = subst (λ (z : Found). Stated b ws z.0 z.1) (some_is x y e) is

local_sound : (b : ℕ) (ws : List Word) (y : Found) → local_of ws ≡ Some y → Stated (suc b) ws y.0 y.1
local_sound b ws y e =
    let d = bind_some (declarator_of (behind_shared ws)) _ y e in
    let v = bind_some (value_of d.0.2) _ y d.2 in
    let c = bind_some (after_sign SEMICOLON v.0.1) _ y v.2 in
    let value : IsValue d.0.2 v.0.0 (SignWord SEMICOLON ∷ c.0) = subst (λ l. IsValue d.0.2 v.0.0 l) (behind_sign SEMICOLON v.0.1 c.0 c.1) (value_sound d.0.2 v.0 v.1) in
    same (suc b) ws (LocalTree (has_keyword SHARED ws) d.0.0 d.0.1 v.0.0, c.0) y c.2 (closed b ws _ c.0 (local (shared_is ws) (declarator_sound (behind_shared ws) d.0 d.1) value))

simple_statement_sound : (b : ℕ) (ws : List Word) (y : Found) → simple_statement_of ws ≡ Some y → Stated (suc b) ws y.0 y.1
simple_statement_sound b ws y e =
    let x = bind_some (simple_of ws) _ y e in
    let c = bind_some (after_sign SEMICOLON x.0.1) _ y x.2 in
    let is : IsSimple ws x.0.0 (SignWord SEMICOLON ∷ c.0) = subst (λ l. IsSimple ws x.0.0 l) (behind_sign SEMICOLON x.0.1 c.0 c.1) (simple_sound ws x.0 x.1) in
    same (suc b) ws (x.0.0, c.0) y c.2 (closed b ws x.0.0 c.0 (simple is))

optional_simple_sound : (end : ℕ) (ws : List Word) (y : MaybeStmt × List Word) → optional_simple_of end ws ≡ Some y → IsMaybeSimple ws y.0 (SignWord end ∷ y.1)
optional_simple_sound end ws y e = elim (if_some (has_sign end ws) _ _ y e) [
  | inl p ↦
      let none : IsMaybeSimple ws Absent (SignWord end ∷ tail ws) = subst (λ l. IsMaybeSimple ws Absent l) (sign_first end ws p.0) no_simple in
      subst (λ (z : MaybeStmt × List Word). IsMaybeSimple ws z.0 (SignWord end ∷ z.1)) (some_is (Absent, tail ws) y p.1) none
  | inr p ↦
      let x = bind_some (simple_of ws) _ y p.1 in
      let c = bind_some (after_sign end x.0.1) _ y x.2 in
      let is : IsSimple ws x.0.0 (SignWord end ∷ c.0) = subst (λ l. IsSimple ws x.0.0 l) (behind_sign end x.0.1 c.0 c.1) (simple_sound ws x.0 x.1) in
      subst (λ (z : MaybeStmt × List Word). IsMaybeSimple ws z.0 (SignWord end ∷ z.1)) (some_is (Present x.0.0, c.0) y c.2) (some_simple is)
]

optional_expression_sound : (ws : List Word) (y : Option ExprTree × List Word) → optional_expression_of ws ≡ Some y → IsMaybeExpression ws y.0 (SignWord SEMICOLON ∷ y.1)
optional_expression_sound ws y e = elim (if_some (has_sign SEMICOLON ws) _ _ y e) [
  | inl p ↦
      let none : IsMaybeExpression ws None (SignWord SEMICOLON ∷ tail ws) = subst (λ l. IsMaybeExpression ws None l) (sign_first SEMICOLON ws p.0) no_expression in
      subst (λ (z : Option ExprTree × List Word). IsMaybeExpression ws z.0 (SignWord SEMICOLON ∷ z.1)) (some_is (None, tail ws) y p.1) none
  | inr p ↦
      let x = bind_some (expression_of ws) _ y p.1 in
      let c = bind_some (after_sign SEMICOLON x.0.1) _ y x.2 in
      let is : IsExpression ws x.0.0 (SignWord SEMICOLON ∷ c.0) = subst (λ l. IsExpression ws x.0.0 l) (behind_sign SEMICOLON x.0.1 c.0 c.1) (expression_sound ws x.0.0 x.0.1 x.1) in
      subst (λ (z : Option ExprTree × List Word). IsMaybeExpression ws z.0 (SignWord SEMICOLON ∷ z.1)) (some_is (Some x.0.0, c.0) y c.2) (some_expression is)
]

condition_sound : (ws : List Word) (y : ExprTree × List Word) → condition_of ws ≡ Some y → (a : List Word) × (ws ≡ SignWord OPEN_PAREN ∷ a) × IsExpression a y.0 (SignWord CLOSE_PAREN ∷ y.1)
condition_sound ws y e =
    let a = bind_some (after_sign OPEN_PAREN ws) _ y e in
    let x = bind_some (expression_of a.0) _ y a.2 in
    let c = bind_some (after_sign CLOSE_PAREN x.0.1) _ y x.2 in
    let is : IsExpression a.0 x.0.0 (SignWord CLOSE_PAREN ∷ c.0) = subst (λ l. IsExpression a.0 x.0.0 l) (behind_sign CLOSE_PAREN x.0.1 c.0 c.1) (expression_sound a.0 x.0.0 x.0.1 x.1) in
    (a.0, behind_sign OPEN_PAREN ws a.0 a.1, subst (λ (z : ExprTree × List Word). IsExpression a.0 z.0 (SignWord CLOSE_PAREN ∷ z.1)) (some_is (x.0.0, c.0) y c.2) is)

abbrev Heads : Type 0
Heads = (MaybeStmt × Option ExprTree × MaybeStmt) × List Word

record ForHeadIs (ws : List Word) (y : Heads) : Type 0 where
  a : List Word
  b : List Word
  c : List Word
  at : ws ≡ SignWord OPEN_PAREN ∷ a
  first : IsMaybeSimple a y.0.0 (SignWord SEMICOLON ∷ b)
  test : IsMaybeExpression b y.0.1 (SignWord SEMICOLON ∷ c)
  next : IsMaybeSimple c y.0.2 (SignWord CLOSE_PAREN ∷ y.1)

for_head_sound : (ws : List Word) (y : Heads) → for_head_of ws ≡ Some y → ForHeadIs ws y
for_head_sound ws y e =
    let a = bind_some (after_sign OPEN_PAREN ws) _ y e in
    let p = bind_some (optional_simple_of SEMICOLON a.0) _ y a.2 in
    let q = bind_some (optional_expression_of p.0.1) _ y p.2 in
    let r = bind_some (optional_simple_of CLOSE_PAREN q.0.1) _ y q.2 in
    let found : ForHeadIs ws ((p.0.0, q.0.0, r.0.0), r.0.1) = record {
      a = a.0;
      b = p.0.1;
      c = q.0.1;
      at = behind_sign OPEN_PAREN ws a.0 a.1;
      first = optional_simple_sound SEMICOLON a.0 p.0 p.1;
      test = optional_expression_sound p.0.1 q.0 q.1;
      next = optional_simple_sound CLOSE_PAREN q.0.1 r.0 r.1;
    } in
    subst (ForHeadIs ws) (some_is ((p.0.0, q.0.0, r.0.0), r.0.1) y r.2) found

-- the words that a statement begins with
pub data StatementIs : List Word → StatementFront → Type 0 where
  empty_front : {a : List Word} → StatementIs (SignWord SEMICOLON ∷ a) front.Empty
  block_front : {a : List Word} → StatementIs (SignWord OPEN_BRACE ∷ a) front.Block
  if_front : {a : List Word} → StatementIs (KeywordWord IF ∷ a) front.If
  while_front : {a : List Word} → StatementIs (KeywordWord WHILE ∷ a) front.While
  for_front : {a : List Word} → StatementIs (KeywordWord FOR ∷ a) front.For
  break_front : {a : List Word} → StatementIs (KeywordWord BREAK ∷ a) front.Break
  continue_front : {a : List Word} → StatementIs (KeywordWord CONTINUE ∷ a) front.Continue
  return_front : {a : List Word} → StatementIs (KeywordWord RETURN ∷ a) front.Return
  local_front : {ws : List Word} → StatementIs ws front.Local
  simple_front : {ws : List Word} → StatementIs ws front.Simple

keyword_front : (k : ℕ) (a : List Word) → StatementIs (KeywordWord k ∷ a) (statement_by_keyword (Some k))
keyword_front k a =
    let P : StatementFront → Type 0 = StatementIs (KeywordWord k ∷ a) in
    let at : (n : ℕ) (f : StatementFront) → StatementIs (KeywordWord n ∷ a) f → (k == n) ≡ true → P f = λ n f is e. subst (λ j. StatementIs (KeywordWord j ∷ a) f) (sym (eqb-true k n e)) is in
    chosen P (k == IF) _ _ (at IF _ if_front) (λ _.
    chosen P (k == WHILE) _ _ (at WHILE _ while_front) (λ _.
    chosen P (k == FOR) _ _ (at FOR _ for_front) (λ _.
    chosen P (k == BREAK) _ _ (at BREAK _ break_front) (λ _.
    chosen P (k == CONTINUE) _ _ (at CONTINUE _ continue_front) (λ _.
    chosen P (k == RETURN) _ _ (at RETURN _ return_front) (λ _.
    chosen P (k == SHARED || nat_le k STRUCT) _ _ (λ _. local_front) (λ _. simple_front)))))))

statement_view : (ws : List Word) → StatementIs ws (statement_front ws)
statement_view [] = simple_front
statement_view (SignWord s ∷ a) =
    let P : StatementFront → Type 0 = StatementIs (SignWord s ∷ a) in
    chosen P (s == SEMICOLON) _ _ (λ e. subst (λ j. StatementIs (SignWord j ∷ a) front.Empty) (sym (eqb-true s SEMICOLON e)) empty_front) (λ _.
    chosen P (s == OPEN_BRACE) _ _ (λ e. subst (λ j. StatementIs (SignWord j ∷ a) front.Block) (sym (eqb-true s OPEN_BRACE e)) block_front) (λ _. simple_front))
statement_view (NameWord bytes ∷ a) = simple_front
statement_view (KeywordWord k ∷ a) = keyword_front k a
statement_view (NumberWord value ty ∷ a) = simple_front
statement_view (CharWord byte ∷ a) = simple_front
statement_view (TextWord bytes ∷ a) = simple_front

abbrev pub with_stmts : StmtTrees → StmtTrees → StmtTrees
with_stmts NoStmts ss = ss
with_stmts (MoreStmts s rest) ss = MoreStmts s (with_stmts rest ss)

pub with_no_stmts : (ss : StmtTrees) → with_stmts ss NoStmts ≡ ss
with_no_stmts NoStmts = refl
with_no_stmts (MoreStmts s ss) = ap (MoreStmts s) (with_no_stmts ss)

pub last_stmt_with : (ss : StmtTrees) (s : StmtTree) (more : StmtTrees) → with_stmts (with_last_stmt ss s) more ≡ with_stmts ss (MoreStmts s more)
last_stmt_with NoStmts s more = refl
last_stmt_with (MoreStmts x ss) s more = ap (MoreStmts x) (last_stmt_with ss s more)

-- all statements from a place on
pub record Listed (b : ℕ) (ws : List Word) (all : StmtTrees) (rest : List Word) : Type 0 where
  pub h : ℕ
  pub is : IsStatements ws all h rest
  pub low : h ≤ b

-- one more statement
abbrev taken : StmtTrees → Found → Option (StmtTrees × List Word)
taken all z = Some (with_last_stmt all z.0, z.1)

module _ (item : List Word → Option (StmtTree × List Word)) (b : ℕ) (sound : (ws : List Word) (y : StmtTree × List Word) → item ws ≡ Some y → Stated b ws y.0 y.1) where
  Kept : List Word → StmtTrees → List Word → Type 0
  Kept ws x here = (ss : StmtTrees) (k : ℕ) (rest : List Word) → IsStatements here ss k rest → k ≤ b → Listed b ws (with_stmts x ss) rest

  kept_more : (ws : List Word) (x y : StmtTrees) (here rest : List Word) → Kept ws x here → statement_turn item x here ≡ Tries (Some (y, rest)) → Kept ws y rest
  unfolding Kept
  kept_more ws x y here rest kept e = λ ss k end is low.
      let z = bind_some (item here) (taken x) (y, rest) (by_brace (has_sign CLOSE_BRACE here) e) in
      let a = sound here z.0 z.1 in
      let q : (with_last_stmt x z.0.0, z.0.1) ≡ (y, rest) = some_is (with_last_stmt x z.0.0, z.0.1) (y, rest) z.2 in
      let is_z : IsStatements z.0.1 ss k end = subst (λ l. IsStatements l ss k end) (sym (ap (λ (p : StmtTrees × List Word). p.1) q)) is in
      let both : IsStatements here (MoreStmts z.0.0 ss) (max a.h k) end = statements a.is is_z in
      let whole : Listed b ws (with_stmts x (MoreStmts z.0.0 ss)) end = kept (MoreStmts z.0.0 ss) (max a.h k) end both (omega (arith, a.low, low)) in
      subst (λ all. Listed b ws all end) (sym (last_stmt_with x z.0.0 ss) ∙ ap (λ (p : StmtTrees × List Word). with_stmts p.0 ss) q) whole
    where
      by_brace : (c : Bool) → (if c then Ends else Tries (item here >>= taken x)) ≡ Tries (Some (y, rest)) → (item here >>= taken x) ≡ Some (y, rest)
      by_brace true q = absurd cc
      by_brace false q = cc

  listed : (ws : List Word) (y : StmtTrees × List Word) → statements_by item ws ≡ Some y → Listed b ws y.0 (SignWord CLOSE_BRACE ∷ y.1)
  unfolding Kept
  listed ws y e =
      let t = bind_some (turns (statement_turn item) (length ws + 1) NoStmts ws) _ y e in
      let start : Kept ws NoStmts ws = λ ss k end is low. record { h = k; is = is; low = low } in
      let kept = turns_keep (statement_turn item) (Kept ws) (λ x y here rest. kept_more ws x y here rest) (length ws + 1) NoStmts t.0.0 ws t.0.1 start t.1 in
      let none : 0 ≤ b = omega arith in
      let z : Listed b ws (with_stmts t.0.0 NoStmts) t.0.1 = kept.0 NoStmts 0 t.0.1 no_statement none in
      let named : Listed b ws t.0.0 t.0.1 = subst (λ all. Listed b ws all t.0.1) (with_no_stmts t.0.0) z in
      let end : Listed b ws t.0.0 (SignWord CLOSE_BRACE ∷ tail t.0.1) = subst (λ l. Listed b ws t.0.0 l) (sign_first CLOSE_BRACE t.0.1 (by_brace t.0.0 t.0.1 (has_sign CLOSE_BRACE t.0.1) refl kept.1)) named in
      subst (λ (p : StmtTrees × List Word). Listed b ws p.0 (SignWord CLOSE_BRACE ∷ p.1)) (some_is (t.0.0, tail t.0.1) y t.2) end
    where
      by_brace : (x : StmtTrees) (here : List Word) (c : Bool) → has_sign CLOSE_BRACE here ≡ c → (if c then Ends else Tries (item here >>= taken x)) ≡ Ends → has_sign CLOSE_BRACE here ≡ true
      by_brace x here true q f = q
      by_brace x here false q f = absurd cc

  conditional_sound : (ws : List Word) (y : Found) → conditional_by item ws ≡ Some y → Stated (suc b) (KeywordWord IF ∷ ws) y.0 y.1
  conditional_sound ws y e =
      let t = bind_some (condition_of ws) _ y e in
      let s = bind_some (item t.0.1) _ y t.2 in
      let c = condition_sound ws t.0 t.1 in
      let body = sound t.0.1 s.0 s.1 in
      let all : Stated (suc b) (KeywordWord IF ∷ SignWord OPEN_PAREN ∷ c.0) y.0 y.1 = elim (if_some (has_keyword ELSE s.0.1) _ _ y s.2) [
        | inl p ↦
            let o = bind_some (item (tail s.0.1)) _ y p.1 in
            let other = sound (tail s.0.1) o.0 o.1 in
            let shut : body.open_end ≡ false = not_open body.open_end (has_keyword ELSE s.0.1) body.no_else p.0 in
            let first : IsStatement t.0.1 s.0.0 body.h false (KeywordWord ELSE ∷ tail s.0.1) = subst (λ l. IsStatement t.0.1 s.0.0 body.h false l) (keyword_first ELSE s.0.1 p.0) (subst (λ c. IsStatement t.0.1 s.0.0 body.h c s.0.1) shut body.is) in
            let is : Stated (suc b) (KeywordWord IF ∷ SignWord OPEN_PAREN ∷ c.0) (IfTree t.0.0 s.0.0 (Present o.0.0)) o.0.1 = record { h = max body.h other.h + 1; open_end = other.open_end; is = alternative c.2 first other.is; low = omega (arith, body.low, other.low); no_else = other.no_else } in
            same (suc b) (KeywordWord IF ∷ SignWord OPEN_PAREN ∷ c.0) (IfTree t.0.0 s.0.0 (Present o.0.0), o.0.1) y o.2 is
        | inr p ↦
            let is : Stated (suc b) (KeywordWord IF ∷ SignWord OPEN_PAREN ∷ c.0) (IfTree t.0.0 s.0.0 Absent) s.0.1 = record { h = body.h + 1; open_end = true; is = conditional c.2 body.is; low = omega (arith, body.low); no_else = λ _. p.0 } in
            same (suc b) (KeywordWord IF ∷ SignWord OPEN_PAREN ∷ c.0) (IfTree t.0.0 s.0.0 Absent, s.0.1) y p.1 is
      ] in
      subst (λ l. Stated (suc b) (KeywordWord IF ∷ l) y.0 y.1) (sym c.1) all
    where
      not_open : (o e : Bool) → (o ≡ true → e ≡ false) → e ≡ true → o ≡ false
      not_open false e f q = refl
      not_open true e f q = let r : e ≡ false = f refl in absurd cc

  repetition_sound : (ws : List Word) (y : Found) → repetition_by item ws ≡ Some y → Stated (suc b) (KeywordWord WHILE ∷ ws) y.0 y.1
  repetition_sound ws y e =
      let t = bind_some (condition_of ws) _ y e in
      let s = bind_some (item t.0.1) _ y t.2 in
      let c = condition_sound ws t.0 t.1 in
      let body = sound t.0.1 s.0 s.1 in
      let is : Stated (suc b) (KeywordWord WHILE ∷ SignWord OPEN_PAREN ∷ c.0) (WhileTree t.0.0 s.0.0) s.0.1 = record { h = body.h + 1; open_end = body.open_end; is = repetition c.2 body.is; low = omega (arith, body.low); no_else = body.no_else } in
      same (suc b) (KeywordWord WHILE ∷ ws) (WhileTree t.0.0 s.0.0, s.0.1) y s.2 (subst (λ l. Stated (suc b) (KeywordWord WHILE ∷ l) (WhileTree t.0.0 s.0.0) s.0.1) (sym c.1) is)

  counted_sound : (ws : List Word) (y : Found) → counted_by item ws ≡ Some y → Stated (suc b) (KeywordWord FOR ∷ ws) y.0 y.1
  counted_sound ws y e =
      let t = bind_some (for_head_of ws) _ y e in
      let s = bind_some (item t.0.1) _ y t.2 in
      let c = for_head_sound ws t.0 t.1 in
      let body = sound t.0.1 s.0 s.1 in
      let tree : StmtTree = ForTree t.0.0.0 t.0.0.1 t.0.0.2 s.0.0 in
      let is : Stated (suc b) (KeywordWord FOR ∷ SignWord OPEN_PAREN ∷ c.a) tree s.0.1 = record { h = body.h + 1; open_end = body.open_end; is = counted c.first c.test c.next body.is; low = omega (arith, body.low); no_else = body.no_else } in
      same (suc b) (KeywordWord FOR ∷ ws) (tree, s.0.1) y s.2 (subst (λ l. Stated (suc b) (KeywordWord FOR ∷ l) tree s.0.1) (sym c.at) is)

  by_front : (ws : List Word) (f : StatementFront) → StatementIs ws f → (y : Found) → statement_by item ws f ≡ Some y → Stated (suc b) ws y.0 y.1
  by_front _ _ (empty_front {a}) y e = same (suc b) (SignWord SEMICOLON ∷ a) (EmptyTree, a) y e (closed b (SignWord SEMICOLON ∷ a) EmptyTree a empty)
  by_front _ _ (block_front {a}) y e =
      let x = bind_some (statements_by item a) _ y e in
      let all = listed a x.0 x.1 in
      let is : Stated (suc b) (SignWord OPEN_BRACE ∷ a) (BlockTree x.0.0) x.0.1 = record { h = all.h + 1; open_end = false; is = block all.is; low = omega (arith, all.low); no_else = λ q. absurd cc } in
      same (suc b) (SignWord OPEN_BRACE ∷ a) (BlockTree x.0.0, x.0.1) y x.2 is
  by_front _ _ (if_front {a}) y e = conditional_sound a y e
  by_front _ _ (while_front {a}) y e = repetition_sound a y e
  by_front _ _ (for_front {a}) y e = counted_sound a y e
  by_front _ _ (break_front {a}) y e =
      let c = bind_some (after_sign SEMICOLON a) _ y e in
      same (suc b) (KeywordWord BREAK ∷ a) (BreakTree, c.0) y c.2 (subst (λ l. Stated (suc b) (KeywordWord BREAK ∷ l) BreakTree c.0) (sym (behind_sign SEMICOLON a c.0 c.1)) (closed b (KeywordWord BREAK ∷ SignWord SEMICOLON ∷ c.0) BreakTree c.0 break))
  by_front _ _ (continue_front {a}) y e =
      let c = bind_some (after_sign SEMICOLON a) _ y e in
      same (suc b) (KeywordWord CONTINUE ∷ a) (ContinueTree, c.0) y c.2 (subst (λ l. Stated (suc b) (KeywordWord CONTINUE ∷ l) ContinueTree c.0) (sym (behind_sign SEMICOLON a c.0 c.1)) (closed b (KeywordWord CONTINUE ∷ SignWord SEMICOLON ∷ c.0) ContinueTree c.0 continue))
  by_front _ _ (return_front {a}) y e =
      let x = bind_some (optional_expression_of a) _ y e in
      same (suc b) (KeywordWord RETURN ∷ a) (ReturnTree x.0.0, x.0.1) y x.2 (closed b (KeywordWord RETURN ∷ a) (ReturnTree x.0.0) x.0.1 (return (optional_expression_sound a x.0 x.1)))
  by_front _ _ (local_front {ws}) y e = local_sound b ws y e
  by_front _ _ (simple_front {ws}) y e = simple_statement_sound b ws y e

pub statement_sound : (b : ℕ) (ws : List Word) (y : StmtTree × List Word) → statement_at b ws ≡ Some y → Stated b ws y.0 y.1
statement_sound zero ws y e = absurd cc
statement_sound (suc b) ws y e = by_front (statement_at b) b (statement_sound b) ws (statement_front ws) (statement_view ws) y e

pub statements_sound : (b : ℕ) (ws : List Word) (y : StmtTrees × List Word) → statements_by (statement_at b) ws ≡ Some y → Listed b ws y.0 (SignWord CLOSE_BRACE ∷ y.1)
statements_sound b ws y e = listed (statement_at b) b (statement_sound b) ws y e
