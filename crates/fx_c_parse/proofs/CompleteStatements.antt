-- Statements of the grammar are read.
use Rattle.std.proofs.Common.{◌≡◌, ℕ, zero, suc, ◌+◌, ◌-◌, ◌<◌, ◌≤◌, Bool, true, false, List, ◌∷◌, length, Option, Some, None, refl, sym, ap, ◌∙◌, subst, arith}
use Rattle.std.proofs.lemmas.Bool.{eq-eqb}
use Rattle.fx_c_ast.specs.ParsedTrees.{TypeTree, ExprTree, StmtTree, LocalTree, StmtTrees, NoStmts, MaybeStmt, Absent}
use Rattle.fx_c_lex.specs.declared.sign.TheConstants.{OPEN_PAREN, CLOSE_PAREN, CLOSE_BRACE, OPEN_BRACKET, SEMICOLON, ASSIGN}
use Rattle.fx_c_lex.specs.declared.keyword.TheConstants.{SHARED, ELSE}
use Rattle.fx_c_parse.specs.declared.front.StatementFront.TheVariants as front
use Rattle.fx_c_parse.specs.Making.{with_last_stmt}
use Rattle.fx_c_parse.specs.Words.{Word, NameWord, KeywordWord, SignWord, has_sign, has_keyword, after_sign}
use Rattle.fx_c_parse.specs.Reading.{◌>>=◌, Tries, turned, turns}
use Rattle.fx_c_parse.specs.Fronts.{statement_front}
use Rattle.fx_c_parse.specs.Types.{nesting, pointer_type_of, dims_of}
use Rattle.fx_c_parse.specs.Expressions.{levels, expression_of}
use Rattle.fx_c_parse.specs.Statements.{declarator_of, value_of, behind_shared, local_of, simple_of, simple_statement_of, optional_simple_of, optional_expression_of, condition_of, for_head_of, statement_turn, statements_by, statement_by, statement_at}
use Rattle.fx_c_parse.specs.Grammar.{char_word, short_word, int_word, long_word, IsBase, void_base, signed_base, unsigned_alone, unsigned_integer, struct_base, IsPointerType, pointer_type, IsExpression, nested}
use Rattle.fx_c_parse.specs.Phrases.{IsDeclarator, declarator, IsShared, unshared, shared, IsValue, no_value, some_value, IsMaybeExpression, no_expression, some_expression, IsSimple, evaluation, assignment, IsMaybeSimple, no_simple, some_simple, IsStatement, empty, block, local, simple, conditional, alternative, repetition, counted, break, continue, return, IsStatements, no_statement, statements}
use Rattle.fx_c_parse.proofs.Growth.{pointer_shorter, dims_shorter, binary_grows, IsFirst, binary_first}
use Rattle.fx_c_parse.proofs.CompleteExpressions.{if_no, if_yes, bind_is, pointer_complete, dims_complete, Follows, follows_close, expression_complete}
use Rattle.fx_c_parse.proofs.SoundStatements.{with_stmts, with_no_stmts, last_stmt_with}

-- growth and first words

pub expression_shorter : (ws : List Word) (x : ExprTree) (rest : List Word) → IsExpression ws x rest → length rest < length ws
expression_shorter _ _ _ (nested {ws} {x} {h} {rest} is le) = (binary_grows levels ws x h rest is).0

pub expression_first : (ws : List Word) (x : ExprTree) (rest : List Word) → IsExpression ws x rest → IsFirst ws
expression_first _ _ _ (nested {ws} {x} {h} {rest} is le) = binary_first levels ws x h rest is

pub declarator_shorter : (ws : List Word) (t : TypeTree) (n : List ℕ) (rest : List Word) → IsDeclarator ws t n rest → length rest < length ws
declarator_shorter _ _ _ _ (declarator {n} {m} {ws} {a} {t} {u} {name} {rest} pointer dims le) = omega (arith, pointer_shorter n ws t _ pointer, dims_shorter m a t u rest dims)

pub shared_shorter : (ws : List Word) (s : Bool) (rest : List Word) → IsShared ws s rest → length rest ≤ length ws
shared_shorter _ _ _ unshared = omega arith
shared_shorter _ _ _ shared = omega arith

value_shorter : (ws : List Word) (v : Option ExprTree) (rest : List Word) → IsValue ws v rest → length rest ≤ length ws
value_shorter _ _ _ no_value = omega arith
value_shorter _ _ _ (some_value {a} {x} {rest} is) = omega (arith, expression_shorter a x rest is)

simple_shorter : (ws : List Word) (s : StmtTree) (rest : List Word) → IsSimple ws s rest → length rest < length ws
simple_shorter _ _ _ (evaluation {ws} {x} {rest} is) = expression_shorter ws x rest is
simple_shorter _ _ _ (assignment {ws} {a} {x} {y} {rest} left right) = omega (arith, expression_shorter ws x _ left, expression_shorter a y rest right)

simple_first : (ws : List Word) (s : StmtTree) (rest : List Word) → IsSimple ws s rest → IsFirst ws
simple_first _ _ _ (evaluation {ws} {x} {rest} is) = expression_first ws x rest is
simple_first _ _ _ (assignment {ws} {a} {x} {y} {rest} left right) = expression_first ws x _ left

maybe_simple_shorter : (ws : List Word) (m : MaybeStmt) (rest : List Word) → IsMaybeSimple ws m rest → length rest ≤ length ws
maybe_simple_shorter _ _ _ no_simple = omega arith
maybe_simple_shorter _ _ _ (some_simple {ws} {s} {rest} is) = omega (arith, simple_shorter ws s rest is)

maybe_expression_shorter : (ws : List Word) (v : Option ExprTree) (rest : List Word) → IsMaybeExpression ws v rest → length rest ≤ length ws
maybe_expression_shorter _ _ _ no_expression = omega arith
maybe_expression_shorter _ _ _ (some_expression {ws} {x} {rest} is) = omega (arith, expression_shorter ws x rest is)

-- the first word of a local variable's declaration
record IsLocalFirst (ws : List Word) : Type 0 where
  no_else : has_keyword ELSE ws ≡ false
  no_brace : has_sign CLOSE_BRACE ws ≡ false
  is_local : statement_front ws ≡ front.Local
  no_shared : has_keyword SHARED ws ≡ false

base_first : (ws : List Word) (t : TypeTree) (rest : List Word) → IsBase ws t rest → IsLocalFirst ws
base_first _ _ _ void_base = record { no_else = refl; no_brace = refl; is_local = refl; no_shared = refl }
base_first _ _ _ (signed_base char_word) = record { no_else = refl; no_brace = refl; is_local = refl; no_shared = refl }
base_first _ _ _ (signed_base short_word) = record { no_else = refl; no_brace = refl; is_local = refl; no_shared = refl }
base_first _ _ _ (signed_base int_word) = record { no_else = refl; no_brace = refl; is_local = refl; no_shared = refl }
base_first _ _ _ (signed_base long_word) = record { no_else = refl; no_brace = refl; is_local = refl; no_shared = refl }
base_first _ _ _ unsigned_alone = record { no_else = refl; no_brace = refl; is_local = refl; no_shared = refl }
base_first _ _ _ (unsigned_integer is) = record { no_else = refl; no_brace = refl; is_local = refl; no_shared = refl }
base_first _ _ _ struct_base = record { no_else = refl; no_brace = refl; is_local = refl; no_shared = refl }

pointer_first : (n : ℕ) (ws : List Word) (t : TypeTree) (rest : List Word) → IsPointerType n ws t rest → IsLocalFirst ws
pointer_first _ _ _ _ (pointer_type {n} {ws} {a} {t} {u} {rest} base stars) = base_first ws t a base

declarator_first : (ws : List Word) (t : TypeTree) (n : List ℕ) (rest : List Word) → IsDeclarator ws t n rest → IsLocalFirst ws
declarator_first _ _ _ _ (declarator {n} {m} {ws} {a} {t} {u} {name} {rest} pointer dims le) = pointer_first n ws t _ pointer

pub pointer_unshared : (n : ℕ) (ws : List Word) (t : TypeTree) (rest : List Word) → IsPointerType n ws t rest → has_keyword SHARED ws ≡ false
pointer_unshared n ws t rest is = (pointer_first n ws t rest is).no_shared

-- what any statement's first word is not
record IsStatementFirst (ws : List Word) : Type 0 where
  no_else : has_keyword ELSE ws ≡ false
  no_brace : has_sign CLOSE_BRACE ws ≡ false

local_first : (ws : List Word) (s : Bool) (a : List Word) → IsShared ws s a → IsLocalFirst a → IsStatementFirst ws × (statement_front ws ≡ front.Local)
local_first _ _ _ unshared f = (record { no_else = f.no_else; no_brace = f.no_brace }, f.is_local)
local_first _ _ _ shared f = (record { no_else = refl; no_brace = refl }, refl)

statement_first : (ws : List Word) (s : StmtTree) (h : ℕ) (o : Bool) (rest : List Word) → IsStatement ws s h o rest → IsStatementFirst ws
statement_first _ _ _ _ _ empty = record { no_else = refl; no_brace = refl }
statement_first _ _ _ _ _ (block is) = record { no_else = refl; no_brace = refl }
statement_first _ _ _ _ _ (local {ws} {a} {c} {s} {t} {name} {v} {rest} sh d value) = (local_first ws s a sh (declarator_first a t name c d)).0
statement_first _ _ _ _ _ (simple {ws} {s} {rest} is) = let f = simple_first ws s _ is in record { no_else = f.no_else; no_brace = f.no_brace }
statement_first _ _ _ _ _ (conditional test body) = record { no_else = refl; no_brace = refl }
statement_first _ _ _ _ _ (alternative test body other) = record { no_else = refl; no_brace = refl }
statement_first _ _ _ _ _ (repetition test body) = record { no_else = refl; no_brace = refl }
statement_first _ _ _ _ _ (counted first test next body) = record { no_else = refl; no_brace = refl }
statement_first _ _ _ _ _ break = record { no_else = refl; no_brace = refl }
statement_first _ _ _ _ _ continue = record { no_else = refl; no_brace = refl }
statement_first _ _ _ _ _ (return is) = record { no_else = refl; no_brace = refl }

abbrev pub Grows : List Word → ℕ → List Word → Type 0
Grows ws h rest = (length rest < length ws) × (1 ≤ h)

mutual
  statement_grows : (ws : List Word) (s : StmtTree) (h : ℕ) (o : Bool) (rest : List Word) → IsStatement ws s h o rest → Grows ws h rest
  statement_grows _ _ _ _ _ empty = (omega arith, omega arith)
  statement_grows _ _ _ _ _ (block {a} {ss} {h} {rest} is) = (omega (arith, statements_shorter a ss h _ is), omega arith)
  statement_grows _ _ _ _ _ (local {ws} {a} {c} {s} {t} {name} {v} {rest} sh d value) = (omega (arith, shared_shorter ws s a sh, declarator_shorter a t name c d, value_shorter c v _ value), omega arith)
  statement_grows _ _ _ _ _ (simple {ws} {s} {rest} is) = (omega (arith, simple_shorter ws s _ is), omega arith)
  statement_grows _ _ _ _ _ (conditional {a} {c} {x} {s} {h} {open_end} {rest} test body) = (omega (arith, expression_shorter a x _ test, (statement_grows c s h open_end rest body).0), omega arith)
  statement_grows _ _ _ _ _ (alternative {a} {c} {d} {x} {s} {o} {h} {k} {open_end} {rest} test body other) = (omega (arith, expression_shorter a x _ test, (statement_grows c s h false _ body).0, (statement_grows d o k open_end rest other).0), omega arith)
  statement_grows _ _ _ _ _ (repetition {a} {c} {x} {s} {h} {open_end} {rest} test body) = (omega (arith, expression_shorter a x _ test, (statement_grows c s h open_end rest body).0), omega arith)
  statement_grows _ _ _ _ _ (counted {a} {c} {d} {e} {first} {next} {x} {s} {h} {open_end} {rest} p q r body) = (omega (arith, maybe_simple_shorter a first _ p, maybe_expression_shorter c x _ q, maybe_simple_shorter d next _ r, (statement_grows e s h open_end rest body).0), omega arith)
  statement_grows _ _ _ _ _ break = (omega arith, omega arith)
  statement_grows _ _ _ _ _ continue = (omega arith, omega arith)
  statement_grows _ _ _ _ _ (return {a} {x} {rest} is) = (omega (arith, maybe_expression_shorter a x _ is), omega arith)

  pub statements_shorter : (ws : List Word) (ss : StmtTrees) (h : ℕ) (rest : List Word) → IsStatements ws ss h rest → length rest ≤ length ws
  statements_shorter _ _ _ _ no_statement = omega arith
  statements_shorter _ _ _ _ (statements {ws} {a} {s} {ss} {h} {k} {open_end} {rest} first others) = omega (arith, (statement_grows ws s h open_end a first).0, statements_shorter a ss k rest others)

-- phrases

pub declarator_complete : (ws : List Word) (t : TypeTree) (name : List ℕ) (rest : List Word) → IsDeclarator ws t name rest → has_sign OPEN_BRACKET rest ≡ false → declarator_of ws ≡ Some (t, name, rest)
declarator_complete _ _ _ _ (declarator {n} {m} {ws} {a} {t} {u} {name} {rest} pointer dims le) e =
    bind_is (pointer_type_of ws) _ (t, nesting - n, NameWord name ∷ a) _ (pointer_complete n ws t _ pointer refl refl (omega (arith, le)))
    (bind_is (dims_of (nesting - n) t a) _ (u, rest) _ (dims_complete m a t u rest dims e (nesting - n) (omega (arith, le))) refl)

follows_semicolon : (rest : List Word) → Follows levels (SignWord SEMICOLON ∷ rest)
follows_semicolon rest = record { no_call = refl; no_suffix_sign = refl; no_operator = λ j lt. refl }

follows_assign : (rest : List Word) → Follows levels (SignWord ASSIGN ∷ rest)
follows_assign rest = record { no_call = refl; no_suffix_sign = refl; no_operator = λ j lt. refl }

value_complete : (ws : List Word) (v : Option ExprTree) (rest : List Word) → IsValue ws v rest → has_sign ASSIGN rest ≡ false → Follows levels rest → value_of ws ≡ Some (v, rest)
value_complete _ _ _ (no_value {rest}) e f = if_no (has_sign ASSIGN rest) _ _ _ e refl
value_complete _ _ _ (some_value {a} {x} {rest} is) e f = bind_is (expression_of a) _ (x, rest) _ (expression_complete a x rest is f) refl

value_bracket : (ws : List Word) (v : Option ExprTree) (rest : List Word) → IsValue ws v rest → has_sign OPEN_BRACKET rest ≡ false → has_sign OPEN_BRACKET ws ≡ false
value_bracket _ _ _ no_value e = e
value_bracket _ _ _ (some_value is) e = refl

pub shared_complete : (ws : List Word) (s : Bool) (a : List Word) → IsShared ws s a → has_keyword SHARED a ≡ false → (has_keyword SHARED ws ≡ s) × (behind_shared ws ≡ a)
shared_complete _ _ _ (unshared {rest}) e = (e, if_no (has_keyword SHARED rest) _ _ _ e refl)
shared_complete _ _ _ shared e = (refl, refl)

local_complete : (ws : List Word) (s : Bool) (a : List Word) (t : TypeTree) (name : List ℕ) (c : List Word) (v : Option ExprTree) (rest : List Word) → IsShared ws s a → IsDeclarator a t name c → IsValue c v (SignWord SEMICOLON ∷ rest) → local_of ws ≡ Some (LocalTree s t name v, rest)
local_complete ws s a t name c v rest sh d value =
    let is = shared_complete ws s a sh (declarator_first a t name c d).no_shared in
    bind_is (declarator_of (behind_shared ws)) _ (t, name, c) _ (ap declarator_of is.1 ∙ declarator_complete a t name c d (value_bracket c v _ value refl))
    (bind_is (value_of c) _ (v, SignWord SEMICOLON ∷ rest) _ (value_complete c v _ value refl (follows_semicolon rest))
    (ap (λ z. Some (LocalTree z t name v, rest)) is.0))

simple_complete : (ws : List Word) (s : StmtTree) (rest : List Word) → IsSimple ws s rest → has_sign ASSIGN rest ≡ false → Follows levels rest → simple_of ws ≡ Some (s, rest)
simple_complete _ _ _ (evaluation {ws} {x} {rest} is) e f =
    bind_is (expression_of ws) _ (x, rest) _ (expression_complete ws x rest is f) (bind_is (value_of rest) _ (None, rest) _ (if_no (has_sign ASSIGN rest) _ _ _ e refl) refl)
simple_complete _ _ _ (assignment {ws} {a} {x} {y} {rest} left right) e f =
    bind_is (expression_of ws) _ (x, SignWord ASSIGN ∷ a) _ (expression_complete ws x _ left (follows_assign a))
    (bind_is (value_of (SignWord ASSIGN ∷ a)) _ (Some y, rest) _ (bind_is (expression_of a) _ (y, rest) _ (expression_complete a y rest right f) refl) refl)

simple_statement_complete : (ws : List Word) (s : StmtTree) (rest : List Word) → IsSimple ws s (SignWord SEMICOLON ∷ rest) → simple_statement_of ws ≡ Some (s, rest)
simple_statement_complete ws s rest is = bind_is (simple_of ws) _ (s, SignWord SEMICOLON ∷ rest) _ (simple_complete ws s _ is refl (follows_semicolon rest)) refl

optional_simple_complete : (end : ℕ) (ws : List Word) (m : MaybeStmt) (rest after : List Word) → IsMaybeSimple ws m rest → rest ≡ SignWord end ∷ after → ((vs : List Word) → IsFirst vs → has_sign end vs ≡ false) → has_sign ASSIGN (SignWord end ∷ after) ≡ false → Follows levels (SignWord end ∷ after) → optional_simple_of end ws ≡ Some (m, after)
optional_simple_complete end _ _ _ after (no_simple {rest}) q first e f =
    let yes : has_sign end (SignWord end ∷ after) ≡ true = eq-eqb end end refl in
    subst (λ l. optional_simple_of end l ≡ Some (Absent, after)) (sym q) (if_yes (has_sign end (SignWord end ∷ after)) _ _ _ yes refl)
optional_simple_complete end _ _ _ after (some_simple {ws} {s} {rest} is) q first e f =
    let yes : has_sign end (SignWord end ∷ after) ≡ true = eq-eqb end end refl in
    let at : IsSimple ws s (SignWord end ∷ after) = subst (λ l. IsSimple ws s l) q is in
    if_no (has_sign end ws) _ _ _ (first ws (simple_first ws s _ at))
    (bind_is (simple_of ws) _ (s, SignWord end ∷ after) _ (simple_complete ws s _ at e f) (bind_is (after_sign end (SignWord end ∷ after)) _ after _ (if_yes (has_sign end (SignWord end ∷ after)) _ _ _ yes refl) refl))

optional_expression_complete : (ws : List Word) (v : Option ExprTree) (rest after : List Word) → IsMaybeExpression ws v rest → rest ≡ SignWord SEMICOLON ∷ after → optional_expression_of ws ≡ Some (v, after)
optional_expression_complete _ _ _ after (no_expression {rest}) q = subst (λ l. optional_expression_of l ≡ Some (None, after)) (sym q) refl
optional_expression_complete _ _ _ after (some_expression {ws} {x} {rest} is) q =
    let at : IsExpression ws x (SignWord SEMICOLON ∷ after) = subst (λ l. IsExpression ws x l) q is in
    if_no (has_sign SEMICOLON ws) _ _ _ (expression_first ws x _ at).no_semicolon
    (bind_is (expression_of ws) _ (x, SignWord SEMICOLON ∷ after) _ (expression_complete ws x _ at (follows_semicolon after)) refl)

condition_complete : (a : List Word) (x : ExprTree) (rest : List Word) → IsExpression a x (SignWord CLOSE_PAREN ∷ rest) → condition_of (SignWord OPEN_PAREN ∷ a) ≡ Some (x, rest)
condition_complete a x rest is = bind_is (expression_of a) _ (x, SignWord CLOSE_PAREN ∷ rest) _ (expression_complete a x _ is (follows_close levels rest)) refl

for_head_complete : (a c d e : List Word) (first : MaybeStmt) (x : Option ExprTree) (next : MaybeStmt) → IsMaybeSimple a first (SignWord SEMICOLON ∷ c) → IsMaybeExpression c x (SignWord SEMICOLON ∷ d) → IsMaybeSimple d next (SignWord CLOSE_PAREN ∷ e) → for_head_of (SignWord OPEN_PAREN ∷ a) ≡ Some ((first, x, next), e)
for_head_complete a c d e first x next p q r =
    bind_is (optional_simple_of SEMICOLON a) _ (first, c) _ (optional_simple_complete SEMICOLON a first _ c p refl (λ vs f. f.no_semicolon) refl (follows_semicolon c))
    (bind_is (optional_expression_of c) _ (x, d) _ (optional_expression_complete c x _ d q refl)
    (bind_is (optional_simple_of CLOSE_PAREN d) _ (next, e) _ (optional_simple_complete CLOSE_PAREN d next _ e r refl (λ vs f. f.no_close) refl (follows_close levels e)) refl))

-- statements

abbrev Read : ℕ → List Word → StmtTree → List Word → Type 0
Read b ws s rest = statement_by (statement_at b) ws (statement_front ws) ≡ Some (s, rest)

at_depth : (ws : List Word) (s : StmtTree) (h : ℕ) (rest : List Word) → 1 ≤ h → ((b : ℕ) → h ≤ suc b → Read b ws s rest) → (b : ℕ) → h ≤ b → statement_at b ws ≡ Some (s, rest)
at_depth ws s h rest one read zero le = absurd (omega (arith, one, le))
at_depth ws s h rest one read (suc b) le = read b le

shut : (rest : List Word) → false ≡ true → has_keyword ELSE rest ≡ false
shut rest q = absurd cc

-- behind statements comes `}`, or another statement
behind_statement : (ws : List Word) (ss : StmtTrees) (h : ℕ) (rest : List Word) → IsStatements ws ss h rest → has_keyword ELSE rest ≡ false → has_keyword ELSE ws ≡ false
behind_statement _ _ _ _ no_statement e = e
behind_statement _ _ _ _ (statements {ws} {a} {s} {ss} {h} {k} {open_end} {rest} first others) e = (statement_first ws s h open_end a first).no_else

mutual
  statement_complete : (ws : List Word) (s : StmtTree) (h : ℕ) (o : Bool) (rest : List Word) → IsStatement ws s h o rest → (b : ℕ) → h ≤ suc b → (o ≡ true → has_keyword ELSE rest ≡ false) → Read b ws s rest
  statement_complete _ _ _ _ _ empty b le f = refl
  statement_complete _ _ _ _ _ (block {a} {ss} {h} {rest} is) b le f =
      bind_is (statements_by (statement_at b) a) _ (ss, rest) _ (bind_is (turns (statement_turn (statement_at b)) (length a + 1) NoStmts a) _ (ss, SignWord CLOSE_BRACE ∷ rest) _ (statements_complete a ss h _ is b (omega (arith, le)) refl refl NoStmts (length a + 1) (omega arith)) refl) refl
  statement_complete _ _ _ _ _ (local {ws} {a} {c} {s} {t} {name} {v} {rest} sh d value) b le f =
      ap (statement_by (statement_at b) ws) (local_first ws s a sh (declarator_first a t name c d)).1 ∙ local_complete ws s a t name c v rest sh d value
  statement_complete _ _ _ _ _ (simple {ws} {s} {rest} is) b le f =
      ap (statement_by (statement_at b) ws) (simple_first ws s _ is).is_simple ∙ simple_statement_complete ws s rest is
  statement_complete _ _ _ _ _ (conditional {a} {c} {x} {s} {h} {open_end} {rest} test body) b le f =
      let read = at_depth c s h rest (statement_grows c s h open_end rest body).1 (λ d low. statement_complete c s h open_end rest body d low (λ _. f refl)) b (omega (arith, le)) in
      bind_is (condition_of (SignWord OPEN_PAREN ∷ a)) _ (x, c) _ (condition_complete a x c test)
      (bind_is (statement_at b c) _ (s, rest) _ read (if_no (has_keyword ELSE rest) _ _ _ (f refl) refl))
  statement_complete _ _ _ _ _ (alternative {a} {c} {d} {x} {s} {o} {h} {k} {open_end} {rest} test body other) b le f =
      let first = at_depth c s h _ (statement_grows c s h false _ body).1 (λ e low. statement_complete c s h false _ body e low (shut (KeywordWord ELSE ∷ d))) b (omega (arith, le)) in
      let second = at_depth d o k rest (statement_grows d o k open_end rest other).1 (λ e low. statement_complete d o k open_end rest other e low f) b (omega (arith, le)) in
      bind_is (condition_of (SignWord OPEN_PAREN ∷ a)) _ (x, c) _ (condition_complete a x c test)
      (bind_is (statement_at b c) _ (s, KeywordWord ELSE ∷ d) _ first (bind_is (statement_at b d) _ (o, rest) _ second refl))
  statement_complete _ _ _ _ _ (repetition {a} {c} {x} {s} {h} {open_end} {rest} test body) b le f =
      let read = at_depth c s h rest (statement_grows c s h open_end rest body).1 (λ d low. statement_complete c s h open_end rest body d low f) b (omega (arith, le)) in
      bind_is (condition_of (SignWord OPEN_PAREN ∷ a)) _ (x, c) _ (condition_complete a x c test)
      (bind_is (statement_at b c) _ (s, rest) _ read refl)
  statement_complete _ _ _ _ _ (counted {a} {c} {d} {e} {first} {next} {x} {s} {h} {open_end} {rest} p q r body) b le f =
      let read = at_depth e s h rest (statement_grows e s h open_end rest body).1 (λ g low. statement_complete e s h open_end rest body g low f) b (omega (arith, le)) in
      bind_is (for_head_of (SignWord OPEN_PAREN ∷ a)) _ ((first, x, next), e) _ (for_head_complete a c d e first x next p q r)
      (bind_is (statement_at b e) _ (s, rest) _ read refl)
  statement_complete _ _ _ _ _ break b le f = refl
  statement_complete _ _ _ _ _ continue b le f = refl
  statement_complete _ _ _ _ _ (return {a} {x} {rest} is) b le f = bind_is (optional_expression_of a) _ (x, rest) _ (optional_expression_complete a x _ rest is refl) refl

  pub statements_complete : (ws : List Word) (ss : StmtTrees) (h : ℕ) (rest : List Word) → IsStatements ws ss h rest → (b : ℕ) → h ≤ b → has_sign CLOSE_BRACE rest ≡ true → has_keyword ELSE rest ≡ false → (before : StmtTrees) (n : ℕ) → length ws < n → turns (statement_turn (statement_at b)) n before ws ≡ Some (with_stmts before ss, rest)
  statements_complete _ _ _ _ no_statement b le brace e before zero lt = absurd (omega (arith, lt))
  statements_complete _ _ _ _ (no_statement {rest}) b le brace e before (suc n) lt =
      ap (turned (turns (statement_turn (statement_at b)) n) before rest) (if_yes (has_sign CLOSE_BRACE rest) _ _ _ brace refl) ∙ ap (λ z. Some (z, rest)) (sym (with_no_stmts before))
  statements_complete _ _ _ _ (statements first others) b le brace e before zero lt = absurd (omega (arith, lt))
  statements_complete _ _ _ _ (statements {ws} {a} {s} {ss} {h} {k} {open_end} {rest} first others) b le brace e before (suc n) lt =
      let grows = statement_grows ws s h open_end a first in
      let read = at_depth ws s h a grows.1 (λ d low. statement_complete ws s h open_end a first d low (λ _. behind_statement a ss k rest others e)) b (omega (arith, le)) in
      let less : length a < n = omega (arith, lt, grows.0) in
      let again = statements_complete a ss k rest others b (omega (arith, le)) brace e (with_last_stmt before s) n less in
      let step : statement_turn (statement_at b) before ws ≡ Tries (Some (with_last_stmt before s, a)) = if_no (has_sign CLOSE_BRACE ws) _ _ _ (statement_first ws s h open_end a first).no_brace (ap (λ (r : Option (StmtTree × List Word)). Tries (r >>= λ z. Some (with_last_stmt before z.0, z.1))) read) in
      ap (turned (turns (statement_turn (statement_at b)) n) before ws) step ∙ again ∙ ap (λ z. Some (z, rest)) (last_stmt_with before s ss)
