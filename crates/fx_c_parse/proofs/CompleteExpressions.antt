-- Types and expressions of the grammar are read.
use Rattle.std.proofs.Common.{◌≡◌, ℕ, zero, suc, ◌+◌, ◌-◌, ◌<◌, ◌≤◌, max, Bool, true, false, List, ◌∷◌, length, Option, Some, None, inl, inr, refl, sym, ap, ◌∙◌, subst, arith}
use Rattle.std.specs.Prelude.{if◌then◌else◌, ◌==◌, ◌&&◌, nat_lt}
use Rattle.std.proofs.lemmas.Bool.{eqb-true, eq-eqb, ne_eqb, lt-ltb}
use Rattle.std.proofs.Math.Nat.{max-zero, zero-max}
use Rattle.fx_c_ast.specs.declared.operator.IntType.{IntType}
use Rattle.fx_c_ast.specs.declared.operator.Unop.{Unop}
use Rattle.fx_c_ast.specs.declared.operator.Binop.{Binop}
use Rattle.fx_c_ast.specs.ParsedTrees.{TypeTree, IntegerType, PointerType, ExprTree, BinTree, SizeTree, DevLoadTree, IndexTree, MemberTree, ArrowTree, CallTree, GateTree, ExprTrees, NoExprs, MoreExprs}
use Rattle.fx_c_lex.specs.declared.sign.TheConstants.{OPEN_PAREN, CLOSE_PAREN, OPEN_BRACKET, CLOSE_BRACKET, COMMA, DOT, ARROW, STAR}
use Rattle.fx_c_lex.specs.declared.keyword.TheConstants.{UNSIGNED}
use Rattle.fx_c_parse.specs.declared.front.Operator.{Operator}
use Rattle.fx_c_parse.specs.declared.front.UnaryFront.TheVariants as unary
use Rattle.fx_c_parse.specs.declared.front.Suffix.{Suffix}
use Rattle.fx_c_parse.specs.declared.front.Suffix.TheVariants as suffix
use Rattle.fx_c_parse.specs.declared.head.Around.{Around}
use Rattle.fx_c_parse.specs.declared.head.Around.TheVariants.{Parentheses, Putc, Switch, Spawn, DevStore}
use Rattle.fx_c_parse.specs.Words.{Word, NameWord, KeywordWord, SignWord, first_keyword, has_sign}
use Rattle.fx_c_parse.specs.Reading.{◌>>=◌, Tries, turned, turns}
use Rattle.fx_c_parse.specs.Fronts.{binary_operator, operator_of, at_level, operator_at, unary_by_operator, suffix_by, suffix_at}
use Rattle.fx_c_parse.specs.Types.{nesting, integer_of, unsigned_by, base_of, stars_of, dims_of, pointer_type_of}
use Rattle.fx_c_parse.specs.Expressions.{levels, WholeHead, InsideHead, CallHead, GateHead, head_by, around_tree, Reads, deeper, argument_turn, more_by, arguments_by, primary_rest, primary_by, suffixed_by, suffix_turn_by, suffix_turn, flat, postfix_by, cast_type_of, operand_by, unary_by, binary_turn_by, binary_turn, binary_by, binary_at, expression_of}
use Rattle.fx_c_parse.specs.Grammar.{IsInteger, char_word, short_word, int_word, long_word, IsBase, void_base, signed_base, unsigned_alone, unsigned_integer, struct_base, IsStars, no_star, one_star, IsDims, no_dim, one_dim, IsPointerType, pointer_type, IsPrimary, number, character, string, variable, parentheses, call, size, gate, putc, getc, device_load, device_store, spawn, switch, me, IsPostfix, no_suffix, index, member, arrow, IsUnary, no_sign, sign, cast, IsBinary, operand, tighter, joined, IsArguments, no_argument, arguments, IsMore, no_more, more, IsExpression, nested}
use Rattle.fx_c_parse.specs.Making.{with_last}
use Rattle.fx_c_parse.specs.declared.front.PrimaryFront.TheVariants as primary
use Rattle.fx_c_parse.proofs.Loop.{Continues}
use Rattle.fx_c_parse.proofs.Repetitions.{continues_end, continues_more}
use Rattle.fx_c_parse.proofs.Inversions.{some_is, bool_cases, deeper_fits, deeper_fits_one}
use Rattle.fx_c_parse.proofs.SoundExpressions.{Found, with_all, with_none, last_with}
use Rattle.fx_c_parse.proofs.Growth.{unary_grows, binary_grows, pointer_begins, binary_first, is_postfix}

pub if_no : {A : Type 0} → (b : Bool) (p q y : A) → b ≡ false → q ≡ y → (if b then p else q) ≡ y
if_no true p q y e f = absurd cc
if_no false p q y e f = f

pub if_yes : {A : Type 0} → (b : Bool) (p q y : A) → b ≡ true → p ≡ y → (if b then p else q) ≡ y
if_yes true p q y e f = f
if_yes false p q y e f = absurd cc

pub bind_is : {A B : Type 0} → (r : Option A) (f : A → Option B) (x : A) (y : Option B) → r ≡ Some x → f x ≡ y → (r >>= f) ≡ y
bind_is None f x y e g = absurd cc
bind_is (Some z) f x y e g = ap f (some_is z x e) ∙ g

both_below : (d r : ℕ) → d < 16 → r < 512 → (nat_lt d 16 && nat_lt r 512) ≡ true
both_below d r p q = ap (λ c. c && nat_lt r 512) (lt-ltb d 16 p) ∙ lt-ltb r 512 q

-- types

signed_complete : (k : ℕ) (i u : IntType) (rest : List Word) → IsInteger k i u → base_of (KeywordWord k ∷ rest) ≡ Some (IntegerType i, rest)
signed_complete _ _ _ rest char_word = refl
signed_complete _ _ _ rest short_word = refl
signed_complete _ _ _ rest int_word = refl
signed_complete _ _ _ rest long_word = refl

unsigned_complete : (k : ℕ) (i u : IntType) (rest : List Word) → IsInteger k i u → base_of (KeywordWord UNSIGNED ∷ KeywordWord k ∷ rest) ≡ Some (IntegerType u, rest)
unsigned_complete _ _ _ rest char_word = refl
unsigned_complete _ _ _ rest short_word = refl
unsigned_complete _ _ _ rest int_word = refl
unsigned_complete _ _ _ rest long_word = refl

base_complete : (ws : List Word) (t : TypeTree) (rest : List Word) → IsBase ws t rest → first_keyword rest ≡ None → base_of ws ≡ Some (t, rest)
base_complete _ _ _ void_base e = refl
base_complete _ _ _ (signed_base {k} {i} {u} {rest} is) e = signed_complete k i u rest is
base_complete _ _ _ (unsigned_alone {rest}) e = ap (λ (o : Option ℕ). Some (unsigned_by rest (o >>= integer_of true))) e
base_complete _ _ _ (unsigned_integer {k} {i} {u} {rest} is) e = unsigned_complete k i u rest is
base_complete _ _ _ struct_base e = refl

stars_stop : (total : ℕ) (t : TypeTree) (ws : List Word) → has_sign STAR ws ≡ false → stars_of total t ws ≡ Some (t, total, ws)
stars_stop zero t ws e = if_no (has_sign STAR ws) _ _ _ e refl
stars_stop (suc total) t ws e = if_no (has_sign STAR ws) _ _ _ e refl

stars_complete : (n : ℕ) (ws : List Word) (t u : TypeTree) (rest : List Word) → IsStars n ws t u rest → has_sign STAR rest ≡ false → (left total : ℕ) → n + left ≡ total → stars_of total t ws ≡ Some (u, left, rest)
stars_complete _ _ _ _ _ (no_star {t} {rest}) e left total q =
    let same : total ≡ left = omega (arith, q) in
    stars_stop total t rest e ∙ ap (λ n. Some (t, n, rest)) same
stars_complete _ _ _ _ _ (one_star {n} {a} {t} {u} {rest} is) e left zero q = absurd (omega (arith, q))
stars_complete _ _ _ _ _ (one_star {n} {a} {t} {u} {rest} is) e left (suc total) q =
    let less : n + left ≡ total = omega (arith, q) in
    stars_complete n a (PointerType t) u rest is e left total less

dims_stop : (left : ℕ) (t : TypeTree) (ws : List Word) → has_sign OPEN_BRACKET ws ≡ false → dims_of left t ws ≡ Some (t, ws)
dims_stop zero t ws e = if_no (has_sign OPEN_BRACKET ws) _ _ _ e refl
dims_stop (suc left) t ws e = if_no (has_sign OPEN_BRACKET ws) _ _ _ e refl

pub dims_complete : (n : ℕ) (ws : List Word) (t u : TypeTree) (rest : List Word) → IsDims n ws t u rest → has_sign OPEN_BRACKET rest ≡ false → (left : ℕ) → n ≤ left → dims_of left t ws ≡ Some (u, rest)
dims_complete _ _ _ _ _ (no_dim {t} {rest}) e left le = dims_stop left t rest e
dims_complete _ _ _ _ _ (one_dim {n} {count} {ty} {a} {t} {u} {rest} lt is) e zero le = absurd (omega (arith, le))
dims_complete _ _ _ _ _ (one_dim {n} {count} {ty} {a} {t} {u} {rest} lt is) e (suc left) le =
    bind_is _ _ (count, a) _ (if_yes (nat_lt count 4294967296) _ _ _ (lt-ltb count 4294967296 lt) refl)
    (bind_is _ _ (u, rest) _ (dims_complete n a t u rest is e left (omega (arith, le))) refl)

pub stars_keyword : (n : ℕ) (ws : List Word) (t u : TypeTree) (rest : List Word) → IsStars n ws t u rest → first_keyword rest ≡ None → first_keyword ws ≡ None
stars_keyword _ _ _ _ _ no_star e = e
stars_keyword _ _ _ _ _ (one_star is) e = refl

pub pointer_complete : (n : ℕ) (ws : List Word) (t : TypeTree) (rest : List Word) → IsPointerType n ws t rest → first_keyword rest ≡ None → has_sign STAR rest ≡ false → n ≤ nesting → pointer_type_of ws ≡ Some (t, nesting - n, rest)
pointer_complete _ _ _ _ (pointer_type {n} {ws} {a} {t} {u} {rest} base stars) e f le =
    let q : n + (nesting - n) ≡ nesting = omega (arith, le) in
    bind_is (base_of ws) _ (t, a) _ (base_complete ws t a base (stars_keyword n a t u rest stars e)) (stars_complete n a t u rest stars f (nesting - n) nesting q)

-- what may follow an operand of operators of the levels below this one
pub record Follows (level : ℕ) (rest : List Word) : Type 0 where
  pub no_call : has_sign OPEN_PAREN rest ≡ false
  pub no_suffix_sign : suffix_at rest ≡ None
  pub no_operator : (j : ℕ) → j < level → operator_at j rest ≡ None

pub follows_close : (level : ℕ) (rest : List Word) → Follows level (SignWord CLOSE_PAREN ∷ rest)
follows_close level rest = record { no_call = refl; no_suffix_sign = refl; no_operator = λ j lt. refl }

pub follows_bracket : (level : ℕ) (rest : List Word) → Follows level (SignWord CLOSE_BRACKET ∷ rest)
follows_bracket level rest = record { no_call = refl; no_suffix_sign = refl; no_operator = λ j lt. refl }

pub follows_comma : (level : ℕ) (rest : List Word) → Follows level (SignWord COMMA ∷ rest)
follows_comma level rest = record { no_call = refl; no_suffix_sign = refl; no_operator = λ j lt. refl }

not_operator : (s n : ℕ) (o : Operator) → operator_of s ≡ Some o → operator_of n ≡ None → (s == n) ≡ false
not_operator s n o e f = elim (bool_cases (s == n)) [
  | inl q ↦ let same : operator_of s ≡ operator_of n = ap operator_of (eqb-true s n q) in absurd cc
  | inr q ↦ q
]

follows_operator : (level s : ℕ) (op : Binop) (b : List Word) → operator_of s ≡ binary_operator op level → Follows level (SignWord s ∷ b)
follows_operator level s op b e =
    let o : Operator = record { op = op; level = level } in
    record {
      no_call = not_operator s OPEN_PAREN o e refl;
      no_suffix_sign = if_no (s == OPEN_BRACKET) _ _ _ (not_operator s OPEN_BRACKET o e refl) (if_no (s == DOT) _ _ _ (not_operator s DOT o e refl) (if_no (s == ARROW) _ _ _ (not_operator s ARROW o e refl) refl));
      no_operator = λ j lt. bind_is (operator_of s) (at_level j) o None e (if_no (level == j) _ _ _ (ne_eqb level j (λ q. omega (arith, q, lt))) refl);
    }

weaker : (level : ℕ) (rest : List Word) → Follows (suc level) rest → Follows level rest
weaker level rest f = record { no_call = f.no_call; no_suffix_sign = f.no_suffix_sign; no_operator = λ j lt. f.no_operator j (omega (arith, lt)) }

lowest : (level : ℕ) (rest : List Word) → Follows level rest → Follows zero rest
lowest level rest f = record { no_call = f.no_call; no_suffix_sign = f.no_suffix_sign; no_operator = λ j lt. absurd (omega (arith, lt)) }

-- the part of reading that goes on below a level
abbrev Below : ℕ → ℕ → List Word → Reads
Below b level ws = binary_by (unary_by (binary_at b) (suc b)) (binary_at b) (suc b) level ws

abbrev Joining : ℕ → ℕ → List Word → ExprTree → ℕ → List Word → Type 0
Joining b level ws x h rest = Continues (binary_turn (binary_at b level) (suc b) level) (λ y. Some (flat y)) (x, h) rest (Below b (suc level) ws)

-- an operand is read, and operators of the last level may go on
abbrev Begun : ℕ → ℕ → List Word → ExprTree → ℕ → List Word → Type 0
Begun b zero ws x h rest = Follows zero rest → Below b zero ws ≡ Some (x, h, rest)
Begun b (suc level) ws x h rest = Follows level rest → Joining b level ws x h rest

level_read : (b level : ℕ) (ws : List Word) (x : ExprTree) (h : ℕ) (rest : List Word) → Begun b level ws x h rest → Follows level rest → Below b level ws ≡ Some (x, h, rest)
level_read b zero ws x h rest begun f = begun f
level_read b (suc level) ws x h rest begun f =
    continues_end (binary_turn (binary_at b level) (suc b) level) (λ y. Some (flat y)) (x, h) rest (Below b (suc level) ws) (begun (weaker level rest f)) (ap (binary_turn_by (binary_at b level) (suc b) (x, h) rest) (f.no_operator level (omega arith)))

-- what is begun within any budget is read within each that is enough
at_budget : (level : ℕ) (ws : List Word) (x : ExprTree) (h : ℕ) (rest : List Word) → 1 ≤ h → ((b : ℕ) → h ≤ suc b → Begun b level ws x h rest) → (b : ℕ) → h ≤ b → Follows level rest → binary_at b level ws ≡ Some (x, h, rest)
at_budget level ws x h rest one begun zero le f = absurd (omega (arith, one, le))
at_budget level ws x h rest one begun (suc b) le f = level_read b level ws x h rest (begun b le) f

-- a primary expression around another expression
inside_read : (b : ℕ) (what : Around) (a : List Word) (x : ExprTree) (h : ℕ) (rest : List Word) → binary_at b levels a ≡ Some (x, h, SignWord CLOSE_PAREN ∷ rest) → h + 1 ≤ suc b → primary_rest (binary_at b) (suc b) (InsideHead what) a ≡ Some (around_tree what x, h + 1, rest)
inside_read b what a x h rest e le = bind_is (binary_at b levels a) _ (x, h, SignWord CLOSE_PAREN ∷ rest) _ e (bind_is _ _ (h + 1) _ (deeper_fits_one h (suc b) le) refl)

arguments_read : (b : ℕ) (f : List ℕ) (a : List Word) (xs : ExprTrees) (h : ℕ) (rest : List Word) → arguments_by (binary_at b) a ≡ Some (xs, h, rest) → h + 1 ≤ suc b → primary_rest (binary_at b) (suc b) (CallHead f) a ≡ Some (CallTree f xs, h + 1, rest)
arguments_read b f a xs h rest e le = bind_is (arguments_by (binary_at b) a) _ (xs, h, rest) _ e (bind_is _ _ (h + 1) _ (deeper_fits_one h (suc b) le) refl)

gate_read : (b : ℕ) (f : List ℕ) (a : List Word) (xs : ExprTrees) (h : ℕ) (rest : List Word) → more_by (binary_at b) NoExprs 0 a ≡ Some (xs, h, rest) → h + 1 ≤ suc b → primary_rest (binary_at b) (suc b) (GateHead f) a ≡ Some (GateTree f xs, h + 1, rest)
gate_read b f a xs h rest e le = bind_is (more_by (binary_at b) NoExprs 0 a) _ (xs, h, rest) _ e (bind_is _ _ (h + 1) _ (deeper_fits_one h (suc b) le) refl)

abbrev Suffixing : ℕ → List Word → ExprTree → ℕ → List Word → Type 0
Suffixing b ws x h rest = Continues (suffix_turn (binary_at b) (suc b)) (λ y. Some (flat y)) (x, h) rest (postfix_by (binary_at b) (suc b) ws)

suffixing_read : (b : ℕ) (ws : List Word) (x : ExprTree) (h : ℕ) (rest : List Word) → Suffixing b ws x h rest → suffix_at rest ≡ None → postfix_by (binary_at b) (suc b) ws ≡ Some (x, h, rest)
suffixing_read b ws x h rest c e = continues_end (suffix_turn (binary_at b) (suc b)) (λ y. Some (flat y)) (x, h) rest (postfix_by (binary_at b) (suc b) ws) c (ap (suffix_turn_by (binary_at b) (suc b) (x, h) rest) e)

more_follows : (ws : List Word) (xs : ExprTrees) (h : ℕ) (rest : List Word) → IsMore ws xs h rest → Follows levels rest → Follows levels ws
more_follows _ _ _ _ no_more f = f
more_follows _ _ _ _ (more {a} first others) f = follows_comma levels a

-- one more suffix
suffixed_read : (b : ℕ) (ws a : List Word) (s : ℕ) (f : Suffix) (x : ExprTree) (h : ℕ) (y : Found) → Suffixing b ws x h (SignWord s ∷ a) → suffix_by s ≡ Some f → suffixed_by (binary_at b) (suc b) f x h a ≡ Some y → length y.2 < length a → Suffixing b ws y.0 y.1 y.2
suffixed_read b ws a s f x h y c e g shorter =
    let step = suffix_turn (binary_at b) (suc b) in
    let by_suffix : step (x, h) (SignWord s ∷ a) ≡ suffix_turn_by (binary_at b) (suc b) (x, h) (SignWord s ∷ a) (Some f) = ap (suffix_turn_by (binary_at b) (suc b) (x, h) (SignWord s ∷ a)) e in
    let taken : step (x, h) (SignWord s ∷ a) ≡ Tries (Some ((y.0, y.1), y.2)) = by_suffix ∙ ap (λ (r : Reads). Tries (r >>= λ z. Some ((z.0, z.1), z.2))) g in
    continues_more step (λ z. Some (flat z)) (x, h) (y.0, y.1) (SignWord s ∷ a) y.2 (postfix_by (binary_at b) (suc b) ws) c taken (omega (arith, shorter))

-- one more operator
joined_read : (b level : ℕ) (ws a : List Word) (s : ℕ) (op : Binop) (x : ExprTree) (h : ℕ) (y : ExprTree) (k : ℕ) (rest : List Word) → Joining b level ws x h (SignWord s ∷ a) → operator_of s ≡ binary_operator op level → binary_at b level a ≡ Some (y, k, rest) → deeper h k (suc b) ≡ Some (max h k + 1) → length rest < length a → Joining b level ws (BinTree op x y) (max h k + 1) rest
joined_read b level ws a s op x h y k rest c e read fits shorter =
    let step = binary_turn (binary_at b level) (suc b) level in
    let o : Operator = record { op = op; level = level } in
    let found : operator_at level (SignWord s ∷ a) ≡ Some op = bind_is (operator_of s) (at_level level) o (Some op) e (if_yes (level == level) _ _ _ (eq-eqb level level refl) refl) in
    let by_operator : step (x, h) (SignWord s ∷ a) ≡ binary_turn_by (binary_at b level) (suc b) (x, h) (SignWord s ∷ a) (Some op) = ap (binary_turn_by (binary_at b level) (suc b) (x, h) (SignWord s ∷ a)) found in
    let taken : (binary_at b level a >>= λ z. deeper h z.1 (suc b) >>= λ m. joins op x z m) ≡ Some ((BinTree op x y, max h k + 1), rest) = bind_is (binary_at b level a) _ (y, k, rest) _ read (bind_is (deeper h k (suc b)) _ (max h k + 1) _ fits refl) in
    continues_more step (λ z. Some (flat z)) (x, h) (BinTree op x y, max h k + 1) (SignWord s ∷ a) rest (Below b (suc level) ws) c (by_operator ∙ ap Tries taken) (omega (arith, shorter))
  where
    joins : Binop → ExprTree → Found → ℕ → Option ((ExprTree × ℕ) × List Word)
    joins op x z m = Some ((BinTree op x z.0, m), z.2)

dims_keyword : (m : ℕ) (ws : List Word) (t u : TypeTree) (rest : List Word) → IsDims m ws t u (SignWord CLOSE_PAREN ∷ rest) → first_keyword ws ≡ None
dims_keyword m ws t u rest is = by_dims m ws t u (SignWord CLOSE_PAREN ∷ rest) is refl
  where
    by_dims : (m : ℕ) (ws : List Word) (t u : TypeTree) (end : List Word) → IsDims m ws t u end → first_keyword end ≡ None → first_keyword ws ≡ None
    by_dims _ _ _ _ _ no_dim e = e
    by_dims _ _ _ _ _ (one_dim lt is) e = refl

dims_star : (m : ℕ) (ws : List Word) (t u : TypeTree) (rest : List Word) → IsDims m ws t u (SignWord CLOSE_PAREN ∷ rest) → has_sign STAR ws ≡ false
dims_star m ws t u rest is = by_dims m ws t u (SignWord CLOSE_PAREN ∷ rest) is refl
  where
    by_dims : (m : ℕ) (ws : List Word) (t u : TypeTree) (end : List Word) → IsDims m ws t u end → has_sign STAR end ≡ false → has_sign STAR ws ≡ false
    by_dims _ _ _ _ _ no_dim e = e
    by_dims _ _ _ _ _ (one_dim lt is) e = refl

-- an expression before `)`, a node below
inner_read : (a : List Word) (x : ExprTree) (h : ℕ) (rest : List Word) → 1 ≤ h → ((b : ℕ) → h ≤ suc b → Begun b levels a x h (SignWord CLOSE_PAREN ∷ rest)) → (b : ℕ) → h + 1 ≤ suc b → binary_at b levels a ≡ Some (x, h, SignWord CLOSE_PAREN ∷ rest)
inner_read a x h rest one begun b le = at_budget levels a x h (SignWord CLOSE_PAREN ∷ rest) one begun b (omega (arith, le)) (follows_close levels rest)

mutual
  primary_complete : (ws : List Word) (x : ExprTree) (h : ℕ) (rest : List Word) → IsPrimary ws x h rest → (b : ℕ) → h ≤ suc b → has_sign OPEN_PAREN rest ≡ false → primary_by (binary_at b) (suc b) ws ≡ Some (x, h, rest)
  primary_complete _ _ _ _ number b le f = refl
  primary_complete _ _ _ _ character b le f = refl
  primary_complete _ _ _ _ string b le f = refl
  primary_complete _ _ _ _ (variable {name} {rest}) b le f = ap (λ (c : Bool). head_by (NameWord name ∷ rest) (if c then primary.Call else primary.Variable) >>= λ z. primary_rest (binary_at b) (suc b) z.0 z.1) f
  primary_complete _ _ _ _ (parentheses {a} {x} {h} {rest} is) b le f = inside_read b Parentheses a x h rest (inner_read a x h rest (binary_grows levels a x h _ is).1 (λ c low. binary_complete levels a x h _ is c low) b le) le
  primary_complete _ _ _ _ (call {f} {a} {xs} {h} {rest} is) b le g = arguments_read b f a xs h rest (arguments_complete a xs h _ is b rest (omega (arith, le)) refl) le
  primary_complete _ _ _ _ (gate {f} {a} {xs} {h} {rest} is) b le g =
      gate_read b f a xs h rest (bind_is (turns (argument_turn (binary_at b)) (length a + 1) (NoExprs, 0) a) _ ((xs, h), SignWord CLOSE_PAREN ∷ rest) _ (more_complete a xs h _ is b (omega (arith, le)) (follows_close levels rest) refl NoExprs 0 (length a + 1) (omega arith) ∙ ap (λ n. Some ((xs, n), SignWord CLOSE_PAREN ∷ rest)) (zero-max h)) refl) le
  primary_complete _ _ _ _ (putc {a} {x} {h} {rest} is) b le f = inside_read b Putc a x h rest (inner_read a x h rest (binary_grows levels a x h _ is).1 (λ c low. binary_complete levels a x h _ is c low) b le) le
  primary_complete _ _ _ _ getc b le f = refl
  primary_complete _ _ _ _ (device_load {d} {r} {t} {u} {rest} p q) b le f =
      bind_is _ _ (WholeHead (DevLoadTree d r), rest) _ (bind_is _ _ (d, r, SignWord CLOSE_PAREN ∷ rest) _ (if_yes (nat_lt d 16 && nat_lt r 512) _ _ _ (both_below d r p q) refl) refl) refl
  primary_complete _ _ _ _ (device_store {d} {r} {t} {u} {a} {x} {h} {rest} p q is) b le f =
      bind_is _ _ (InsideHead (DevStore d r), a) _ (bind_is _ _ (d, r, SignWord COMMA ∷ a) _ (if_yes (nat_lt d 16 && nat_lt r 512) _ _ _ (both_below d r p q) refl) refl) (inside_read b (DevStore d r) a x h rest (inner_read a x h rest (binary_grows levels a x h _ is).1 (λ c low. binary_complete levels a x h _ is c low) b le) le)
  primary_complete _ _ _ _ (spawn {f} {a} {x} {h} {rest} is) b le g = inside_read b (Spawn f) a x h rest (inner_read a x h rest (binary_grows levels a x h _ is).1 (λ c low. binary_complete levels a x h _ is c low) b le) le
  primary_complete _ _ _ _ (switch {a} {x} {h} {rest} is) b le f = inside_read b Switch a x h rest (inner_read a x h rest (binary_grows levels a x h _ is).1 (λ c low. binary_complete levels a x h _ is c low) b le) le
  primary_complete _ _ _ _ me b le f = refl

  postfix_complete : (ws : List Word) (x : ExprTree) (h : ℕ) (rest : List Word) → IsPostfix ws x h rest → (b : ℕ) → h ≤ suc b → has_sign OPEN_PAREN rest ≡ false → Suffixing b ws x h rest
  postfix_complete _ _ _ _ (no_suffix {ws} {x} {h} {rest} is) b le f =
      record { left = length rest + 1; enough = omega arith; same = sym (bind_is (primary_by (binary_at b) (suc b) ws) _ (x, h, rest) _ (primary_complete ws x h rest is b le f) refl) }
  postfix_complete _ _ _ _ (index {ws} {a} {x} {y} {h} {k} {rest} left right) b le f =
      let lower : k ≤ b = omega (arith, le) in
      let read = at_budget levels a y k _ (binary_grows levels a y k _ right).1 (λ c low. binary_complete levels a y k _ right c low) b lower (follows_bracket levels rest) in
      suffixed_read b ws a OPEN_BRACKET suffix.Index x h (IndexTree x y, max h k + 1, rest) (postfix_complete ws x h _ left b (omega (arith, le)) refl) refl
      (bind_is (binary_at b levels a) _ (y, k, SignWord CLOSE_BRACKET ∷ rest) _ read (bind_is _ _ (max h k + 1) _ (deeper_fits h k (suc b) le) refl))
      (omega (arith, (binary_grows levels a y k _ right).0))
  postfix_complete _ _ _ _ (member {ws} {x} {h} {name} {rest} is) b le f =
      suffixed_read b ws (NameWord name ∷ rest) DOT suffix.Member x h (MemberTree x name, h + 1, rest) (postfix_complete ws x h _ is b (omega (arith, le)) refl) refl
      (bind_is _ _ (h + 1) _ (deeper_fits_one h (suc b) le) refl) (omega arith)
  postfix_complete _ _ _ _ (arrow {ws} {x} {h} {name} {rest} is) b le f =
      suffixed_read b ws (NameWord name ∷ rest) ARROW suffix.Arrow x h (ArrowTree x name, h + 1, rest) (postfix_complete ws x h _ is b (omega (arith, le)) refl) refl
      (bind_is _ _ (h + 1) _ (deeper_fits_one h (suc b) le) refl) (omega arith)

  unary_complete : (ws : List Word) (x : ExprTree) (h : ℕ) (rest : List Word) → IsUnary ws x h rest → (b : ℕ) → h ≤ suc b → Follows zero rest → unary_by (binary_at b) (suc b) ws ≡ Some (x, h, rest)
  unary_complete _ _ _ _ (no_sign {ws} {x} {h} {rest} is) b le f =
      ap (operand_by (binary_at b) (suc b) ws) (is_postfix ws x h rest is) ∙ suffixing_read b ws x h rest (postfix_complete ws x h rest is b le f.no_call) f.no_suffix_sign
  unary_complete _ _ _ _ (sign {s} {op} {a} {x} {h} {rest} e is) b le f =
      let read = at_budget zero a x h rest (unary_grows a x h rest is).1 (λ c low. unary_complete a x h rest is c low) b (omega (arith, le)) f in
      ap (λ (o : Option Unop). operand_by (binary_at b) (suc b) (SignWord s ∷ a) (unary_by_operator s (SignWord s ∷ a) o)) e
      ∙ bind_is (binary_at b 0 a) _ (x, h, rest) _ read (bind_is _ _ (h + 1) _ (deeper_fits_one h (suc b) le) refl)
  unary_complete _ _ _ _ (cast {n} {a} {c} {t} {x} {h} {rest} pointer le is) b low f =
      let read = at_budget zero c x h rest (unary_grows c x h rest is).1 (λ d low. unary_complete c x h rest is d low) b (omega (arith, low)) f in
      ap (λ (o : Bool). operand_by (binary_at b) (suc b) (SignWord OPEN_PAREN ∷ a) (if o then unary.Cast else unary.Postfix)) (pointer_begins n a t _ pointer)
      ∙ bind_is (cast_type_of (SignWord OPEN_PAREN ∷ a)) _ (t, c) _ (bind_is (pointer_type_of a) _ (t, nesting - n, SignWord CLOSE_PAREN ∷ c) _ (pointer_complete n a t _ pointer refl refl le) refl)
      (bind_is (binary_at b 0 c) _ (x, h, rest) _ read (bind_is _ _ (h + 1) _ (deeper_fits_one h (suc b) low) refl))
  unary_complete _ _ _ _ (size {n} {m} {a} {c} {t} {u} {rest} pointer dims le) b low f =
      bind_is _ _ (SizeTree u, rest) _
      (bind_is (pointer_type_of a) _ (t, nesting - n, c) _ (pointer_complete n a t c pointer (dims_keyword m c t u rest dims) (dims_star m c t u rest dims) (omega (arith, le)))
      (bind_is (dims_of (nesting - n) t c) _ (u, SignWord CLOSE_PAREN ∷ rest) _ (dims_complete m c t u _ dims refl (nesting - n) (omega (arith, le))) refl))
      refl

  binary_complete : (level : ℕ) (ws : List Word) (x : ExprTree) (h : ℕ) (rest : List Word) → IsBinary level ws x h rest → (b : ℕ) → h ≤ suc b → Begun b level ws x h rest
  binary_complete _ _ _ _ _ (operand {ws} {x} {h} {rest} is) b le = λ f. unary_complete ws x h rest is b le f
  binary_complete _ _ _ _ _ (tighter {level} {ws} {x} {h} {rest} is) b le = λ f.
      record { left = length rest + 1; enough = omega arith; same = sym (bind_is (Below b level ws) _ (x, h, rest) _ (level_read b level ws x h rest (binary_complete level ws x h rest is b le) f) refl) }
  binary_complete _ _ _ _ _ (joined {level} {s} {op} {ws} {a} {x} {y} {h} {k} {rest} left e right) b le = λ f.
      let lower : k ≤ b = omega (arith, le) in
      let read = at_budget level a y k rest (binary_grows level a y k rest right).1 (λ c low. binary_complete level a y k rest right c low) b lower f in
      joined_read b level ws a s op x h y k rest (binary_complete (suc level) ws x h _ left b (omega (arith, le)) (follows_operator level s op a e)) e read (deeper_fits h k (suc b) le) (binary_grows level a y k rest right).0

  arguments_complete : (ws : List Word) (xs : ExprTrees) (h : ℕ) (rest : List Word) → IsArguments ws xs h rest → (b : ℕ) (behind : List Word) → h ≤ b → rest ≡ SignWord CLOSE_PAREN ∷ behind → arguments_by (binary_at b) ws ≡ Some (xs, h, behind)
  arguments_complete _ _ _ _ (no_argument {rest}) b behind le q = subst (λ l. arguments_by (binary_at b) l ≡ Some (NoExprs, 0, behind)) (sym q) refl
  arguments_complete _ _ _ _ (arguments {ws} {a} {x} {xs} {h} {k} {rest} first others) b behind le q =
      let f : Follows levels rest = subst (Follows levels) (sym q) (follows_close levels behind) in
      let comma : has_sign COMMA rest ≡ false = ap (has_sign COMMA) q in
      let read = at_budget levels ws x h a (binary_grows levels ws x h a first).1 (λ c low. binary_complete levels ws x h a first c low) b (omega (arith, le)) (more_follows a xs k rest others f) in
      if_no (has_sign CLOSE_PAREN ws) _ _ _ (binary_first levels ws x h a first).no_close
      (bind_is (binary_at b levels ws) _ (x, h, a) _ read
      (bind_is (turns (argument_turn (binary_at b)) (length a + 1) (MoreExprs x NoExprs, h) a) _ ((MoreExprs x xs, max h k), SignWord CLOSE_PAREN ∷ behind) _
      (more_complete a xs k rest others b (omega (arith, le)) f comma (MoreExprs x NoExprs) h (length a + 1) (omega arith) ∙ ap (λ l. Some ((MoreExprs x xs, max h k), l)) q) refl))

  more_complete : (ws : List Word) (xs : ExprTrees) (h : ℕ) (rest : List Word) → IsMore ws xs h rest → (b : ℕ) → h ≤ b → Follows levels rest → has_sign COMMA rest ≡ false → (before : ExprTrees) (height n : ℕ) → length ws < n → turns (argument_turn (binary_at b)) n (before, height) ws ≡ Some ((with_all before xs, max height h), rest)
  more_complete _ _ _ _ no_more b le f comma before height zero lt = absurd (omega (arith, lt))
  more_complete _ _ _ _ (no_more {rest}) b le f comma before height (suc n) lt =
      ap (turned (turns (argument_turn (binary_at b)) n) (before, height) rest) (if_no (has_sign COMMA rest) _ _ _ comma refl) ∙ ap (λ z. Some ((z, height), rest)) (sym (with_none before)) ∙ ap (λ z. Some ((with_all before NoExprs, z), rest)) (sym (max-zero height))
  more_complete _ _ _ _ (more first others) b le f comma before height zero lt = absurd (omega (arith, lt))
  more_complete _ _ _ _ (more {a} {c} {x} {xs} {h} {k} {rest} first others) b le f comma before height (suc n) lt =
      let read = at_budget levels a x h c (binary_grows levels a x h c first).1 (λ d low. binary_complete levels a x h c first d low) b (omega (arith, le)) (more_follows c xs k rest others f) in
      let less : length c < n = omega (arith, lt, (binary_grows levels a x h c first).0) in
      let again = more_complete c xs k rest others b (omega (arith, le)) f comma (with_last before x) (max height h) n less in
      let heights : max (max height h) k ≡ max height (max h k) = omega arith in
      ap (λ (r : Reads). turned (turns (argument_turn (binary_at b)) n) (before, height) (SignWord COMMA ∷ a) (Tries (r >>= λ z. Some ((with_last before z.0, max height z.1), z.2)))) read
      ∙ again ∙ ap (λ z. Some ((z, max (max height h) k), rest)) (last_with before x xs) ∙ ap (λ z. Some ((with_all before (MoreExprs x xs), z), rest)) heights

pub expression_complete : (ws : List Word) (x : ExprTree) (rest : List Word) → IsExpression ws x rest → Follows levels rest → expression_of ws ≡ Some (x, rest)
expression_complete _ _ _ (nested {ws} {x} {h} {rest} is le) f =
    bind_is (binary_at nesting levels ws) _ (x, h, rest) _ (at_budget levels ws x h rest (binary_grows levels ws x h rest is).1 (λ b low. binary_complete levels ws x h rest is b low) nesting le f) refl
