-- Phrases of the grammar take at least one word, expressions are at least one node high, and what their
-- first words are.
use Rattle.std.proofs.Common.{◌≡◌, ℕ, suc, ◌<◌, ◌≤◌, Bool, true, false, List, ◌∷◌, length, Some, inl, inr, refl, sym, ap, subst, arith}
use Rattle.std.specs.Prelude.{if◌then◌else◌, ◌==◌}
use Rattle.std.proofs.lemmas.Bool.{eqb-true}
use Rattle.fx_c_ast.specs.declared.operator.Unop.{Unop}
use Rattle.fx_c_ast.specs.declared.operator.Unop.TheVariants.{Addr}
use Rattle.fx_c_ast.specs.ParsedTrees.{TypeTree, ExprTree, ExprTrees}
use Rattle.fx_c_lex.specs.declared.sign.TheConstants.{CLOSE_PAREN, CLOSE_BRACE, SEMICOLON, MINUS, TILDE, BANG, STAR, AMPERSAND}
use Rattle.fx_c_lex.specs.declared.keyword.TheConstants.{ELSE}
use Rattle.fx_c_parse.specs.declared.front.UnaryFront.TheVariants as unary
use Rattle.fx_c_parse.specs.declared.front.StatementFront.TheVariants as statement
use Rattle.fx_c_parse.specs.Words.{Word, SignWord, first_keyword, has_sign, has_keyword}
use Rattle.fx_c_parse.specs.Fronts.{unary_of, begins_type, unary_front, statement_front}
use Rattle.fx_c_parse.specs.Expressions.{levels}
use Rattle.fx_c_parse.specs.Grammar.{char_word, short_word, int_word, long_word, IsBase, void_base, signed_base, unsigned_alone, unsigned_integer, struct_base, IsStars, no_star, one_star, IsDims, no_dim, one_dim, IsPointerType, pointer_type, IsPrimary, number, character, string, variable, parentheses, call, size, gate, putc, getc, device_load, device_store, spawn, switch, me, IsPostfix, no_suffix, index, member, arrow, IsUnary, no_sign, sign, cast, IsBinary, operand, tighter, joined, IsArguments, no_argument, arguments, IsMore, no_more, more}
use Rattle.fx_c_parse.proofs.Inversions.{if_some, if_then}

pub base_shorter : (ws : List Word) (t : TypeTree) (rest : List Word) → IsBase ws t rest → length rest < length ws
base_shorter _ _ _ void_base = omega arith
base_shorter _ _ _ (signed_base is) = omega arith
base_shorter _ _ _ unsigned_alone = omega arith
base_shorter _ _ _ (unsigned_integer is) = omega arith
base_shorter _ _ _ struct_base = omega arith

pub stars_shorter : (n : ℕ) (ws : List Word) (t u : TypeTree) (rest : List Word) → IsStars n ws t u rest → length rest ≤ length ws
stars_shorter _ _ _ _ _ no_star = omega arith
stars_shorter _ _ _ _ _ (one_star {n} {a} {t} {u} {rest} is) = omega (arith, stars_shorter n a _ u rest is)

pub dims_shorter : (n : ℕ) (ws : List Word) (t u : TypeTree) (rest : List Word) → IsDims n ws t u rest → length rest ≤ length ws
dims_shorter _ _ _ _ _ no_dim = omega arith
dims_shorter _ _ _ _ _ (one_dim {n} {count} {ty} {a} {t} {u} {rest} lt is) = omega (arith, dims_shorter n a t u rest is)

pub pointer_shorter : (n : ℕ) (ws : List Word) (t : TypeTree) (rest : List Word) → IsPointerType n ws t rest → length rest < length ws
pointer_shorter _ _ _ _ (pointer_type {n} {ws} {a} {t} {u} {rest} base stars) = omega (arith, base_shorter ws t a base, stars_shorter n a t u rest stars)

-- a phrase of at least one word and one node
abbrev pub Grows : List Word → ℕ → List Word → Type 0
Grows ws h rest = (length rest < length ws) × (1 ≤ h)

mutual
  pub primary_grows : (ws : List Word) (x : ExprTree) (h : ℕ) (rest : List Word) → IsPrimary ws x h rest → Grows ws h rest
  primary_grows _ _ _ _ number = (omega arith, omega arith)
  primary_grows _ _ _ _ character = (omega arith, omega arith)
  primary_grows _ _ _ _ string = (omega arith, omega arith)
  primary_grows _ _ _ _ variable = (omega arith, omega arith)
  primary_grows _ _ _ _ (parentheses {a} {x} {h} {rest} is) = (omega (arith, (binary_grows levels a x h _ is).0), omega arith)
  primary_grows _ _ _ _ (call {f} {a} {xs} {h} {rest} is) = (omega (arith, arguments_shorter a xs h _ is), omega arith)
  primary_grows _ _ _ _ (gate {f} {a} {xs} {h} {rest} is) = (omega (arith, more_shorter a xs h _ is), omega arith)
  primary_grows _ _ _ _ (putc {a} {x} {h} {rest} is) = (omega (arith, (binary_grows levels a x h _ is).0), omega arith)
  primary_grows _ _ _ _ getc = (omega arith, omega arith)
  primary_grows _ _ _ _ (device_load d r) = (omega arith, omega arith)
  primary_grows _ _ _ _ (device_store {d} {r} {t} {u} {a} {x} {h} {rest} p q is) = (omega (arith, (binary_grows levels a x h _ is).0), omega arith)
  primary_grows _ _ _ _ (spawn {f} {a} {x} {h} {rest} is) = (omega (arith, (binary_grows levels a x h _ is).0), omega arith)
  primary_grows _ _ _ _ (switch {a} {x} {h} {rest} is) = (omega (arith, (binary_grows levels a x h _ is).0), omega arith)
  primary_grows _ _ _ _ me = (omega arith, omega arith)

  pub postfix_grows : (ws : List Word) (x : ExprTree) (h : ℕ) (rest : List Word) → IsPostfix ws x h rest → Grows ws h rest
  postfix_grows _ _ _ _ (no_suffix {ws} {x} {h} {rest} is) = primary_grows ws x h rest is
  postfix_grows _ _ _ _ (index {ws} {a} {x} {y} {h} {k} {rest} left right) = (omega (arith, (postfix_grows ws x h _ left).0, (binary_grows levels a y k _ right).0), omega arith)
  postfix_grows _ _ _ _ (member {ws} {x} {h} {name} {rest} is) = (omega (arith, (postfix_grows ws x h _ is).0), omega arith)
  postfix_grows _ _ _ _ (arrow {ws} {x} {h} {name} {rest} is) = (omega (arith, (postfix_grows ws x h _ is).0), omega arith)

  pub unary_grows : (ws : List Word) (x : ExprTree) (h : ℕ) (rest : List Word) → IsUnary ws x h rest → Grows ws h rest
  unary_grows _ _ _ _ (no_sign {ws} {x} {h} {rest} is) = postfix_grows ws x h rest is
  unary_grows _ _ _ _ (sign {s} {op} {a} {x} {h} {rest} e is) = (omega (arith, (unary_grows a x h rest is).0), omega arith)
  unary_grows _ _ _ _ (cast {n} {a} {c} {t} {x} {h} {rest} pointer le is) = (omega (arith, (unary_grows c x h rest is).0, pointer_shorter n a t _ pointer), omega arith)
  unary_grows _ _ _ _ (size {n} {m} {a} {c} {t} {u} {rest} pointer dims le) = (omega (arith, pointer_shorter n a t c pointer, dims_shorter m c t u _ dims), omega arith)

  pub binary_grows : (level : ℕ) (ws : List Word) (x : ExprTree) (h : ℕ) (rest : List Word) → IsBinary level ws x h rest → Grows ws h rest
  binary_grows _ _ _ _ _ (operand {ws} {x} {h} {rest} is) = unary_grows ws x h rest is
  binary_grows _ _ _ _ _ (tighter {level} {ws} {x} {h} {rest} is) = binary_grows level ws x h rest is
  binary_grows _ _ _ _ _ (joined {level} {s} {op} {ws} {a} {x} {y} {h} {k} {rest} left e right) = (omega (arith, (binary_grows (suc level) ws x h _ left).0, (binary_grows level a y k rest right).0), omega arith)

  pub arguments_shorter : (ws : List Word) (xs : ExprTrees) (h : ℕ) (rest : List Word) → IsArguments ws xs h rest → length rest ≤ length ws
  arguments_shorter _ _ _ _ no_argument = omega arith
  arguments_shorter _ _ _ _ (arguments {ws} {a} {x} {xs} {h} {k} {rest} first others) = omega (arith, (binary_grows levels ws x h a first).0, more_shorter a xs k rest others)

  pub more_shorter : (ws : List Word) (xs : ExprTrees) (h : ℕ) (rest : List Word) → IsMore ws xs h rest → length rest ≤ length ws
  more_shorter _ _ _ _ no_more = omega arith
  more_shorter _ _ _ _ (more {a} {c} {x} {xs} {h} {k} {rest} first others) = omega (arith, (binary_grows levels a x h c first).0, more_shorter c xs k rest others)

-- a type's first word is one of its keywords
pub base_begins : (ws : List Word) (t : TypeTree) (rest : List Word) → IsBase ws t rest → begins_type (first_keyword ws) ≡ true
base_begins _ _ _ void_base = refl
base_begins _ _ _ (signed_base char_word) = refl
base_begins _ _ _ (signed_base short_word) = refl
base_begins _ _ _ (signed_base int_word) = refl
base_begins _ _ _ (signed_base long_word) = refl
base_begins _ _ _ unsigned_alone = refl
base_begins _ _ _ (unsigned_integer is) = refl
base_begins _ _ _ struct_base = refl

pub pointer_begins : (n : ℕ) (ws : List Word) (t : TypeTree) (rest : List Word) → IsPointerType n ws t rest → begins_type (first_keyword ws) ≡ true
pointer_begins _ _ _ _ (pointer_type {n} {ws} {a} {t} {u} {rest} base stars) = base_begins ws t a base

-- what an expression's first word is not, and that a statement with it is a simple one
pub record IsFirst (ws : List Word) : Type 0 where
  pub no_type : begins_type (first_keyword ws) ≡ false
  pub no_else : has_keyword ELSE ws ≡ false
  pub no_semicolon : has_sign SEMICOLON ws ≡ false
  pub no_close : has_sign CLOSE_PAREN ws ≡ false
  pub no_brace : has_sign CLOSE_BRACE ws ≡ false
  pub is_simple : statement_front ws ≡ statement.Simple

primary_first : (ws : List Word) (x : ExprTree) (h : ℕ) (rest : List Word) → IsPrimary ws x h rest → IsFirst ws
primary_first _ _ _ _ number = record { no_type = refl; no_else = refl; no_semicolon = refl; no_close = refl; no_brace = refl; is_simple = refl }
primary_first _ _ _ _ character = record { no_type = refl; no_else = refl; no_semicolon = refl; no_close = refl; no_brace = refl; is_simple = refl }
primary_first _ _ _ _ string = record { no_type = refl; no_else = refl; no_semicolon = refl; no_close = refl; no_brace = refl; is_simple = refl }
primary_first _ _ _ _ variable = record { no_type = refl; no_else = refl; no_semicolon = refl; no_close = refl; no_brace = refl; is_simple = refl }
primary_first _ _ _ _ (parentheses is) = record { no_type = refl; no_else = refl; no_semicolon = refl; no_close = refl; no_brace = refl; is_simple = refl }
primary_first _ _ _ _ (call is) = record { no_type = refl; no_else = refl; no_semicolon = refl; no_close = refl; no_brace = refl; is_simple = refl }
primary_first _ _ _ _ (gate is) = record { no_type = refl; no_else = refl; no_semicolon = refl; no_close = refl; no_brace = refl; is_simple = refl }
primary_first _ _ _ _ (putc is) = record { no_type = refl; no_else = refl; no_semicolon = refl; no_close = refl; no_brace = refl; is_simple = refl }
primary_first _ _ _ _ getc = record { no_type = refl; no_else = refl; no_semicolon = refl; no_close = refl; no_brace = refl; is_simple = refl }
primary_first _ _ _ _ (device_load d r) = record { no_type = refl; no_else = refl; no_semicolon = refl; no_close = refl; no_brace = refl; is_simple = refl }
primary_first _ _ _ _ (device_store p q is) = record { no_type = refl; no_else = refl; no_semicolon = refl; no_close = refl; no_brace = refl; is_simple = refl }
primary_first _ _ _ _ (spawn is) = record { no_type = refl; no_else = refl; no_semicolon = refl; no_close = refl; no_brace = refl; is_simple = refl }
primary_first _ _ _ _ (switch is) = record { no_type = refl; no_else = refl; no_semicolon = refl; no_close = refl; no_brace = refl; is_simple = refl }
primary_first _ _ _ _ me = record { no_type = refl; no_else = refl; no_semicolon = refl; no_close = refl; no_brace = refl; is_simple = refl }

postfix_first : (ws : List Word) (x : ExprTree) (h : ℕ) (rest : List Word) → IsPostfix ws x h rest → IsFirst ws
postfix_first _ _ _ _ (no_suffix {ws} {x} {h} {rest} is) = primary_first ws x h rest is
postfix_first _ _ _ _ (index {ws} {a} {x} {y} {h} {k} {rest} left right) = postfix_first ws x h _ left
postfix_first _ _ _ _ (member {ws} {x} {h} {name} {rest} is) = postfix_first ws x h _ is
postfix_first _ _ _ _ (arrow {ws} {x} {h} {name} {rest} is) = postfix_first ws x h _ is

sign_is_first : (s : ℕ) (op : Unop) (a : List Word) → unary_of s ≡ Some op → IsFirst (SignWord s ∷ a)
sign_is_first s op a e = elim (if_some (s == MINUS) _ _ op e) [
  | inl p ↦ at MINUS (record { no_type = refl; no_else = refl; no_semicolon = refl; no_close = refl; no_brace = refl; is_simple = refl }) p.0
  | inr p ↦ elim (if_some (s == TILDE) _ _ op p.1) [
    | inl p ↦ at TILDE (record { no_type = refl; no_else = refl; no_semicolon = refl; no_close = refl; no_brace = refl; is_simple = refl }) p.0
    | inr p ↦ elim (if_some (s == BANG) _ _ op p.1) [
      | inl p ↦ at BANG (record { no_type = refl; no_else = refl; no_semicolon = refl; no_close = refl; no_brace = refl; is_simple = refl }) p.0
      | inr p ↦ elim (if_some (s == STAR) _ _ op p.1) [
        | inl p ↦ at STAR (record { no_type = refl; no_else = refl; no_semicolon = refl; no_close = refl; no_brace = refl; is_simple = refl }) p.0
        | inr p ↦ at AMPERSAND (record { no_type = refl; no_else = refl; no_semicolon = refl; no_close = refl; no_brace = refl; is_simple = refl }) (if_then (s == AMPERSAND) (Some Addr) op p.1).0
      ]
    ]
  ]
]
  where
    at : (n : ℕ) → IsFirst (SignWord n ∷ a) → (s == n) ≡ true → IsFirst (SignWord s ∷ a)
    at n is q = subst (λ j. IsFirst (SignWord j ∷ a)) (sym (eqb-true s n q)) is

pub unary_first : (ws : List Word) (x : ExprTree) (h : ℕ) (rest : List Word) → IsUnary ws x h rest → IsFirst ws
unary_first _ _ _ _ (no_sign {ws} {x} {h} {rest} is) = postfix_first ws x h rest is
unary_first _ _ _ _ (sign {s} {op} {a} {x} {h} {rest} e is) = sign_is_first s op a e
unary_first _ _ _ _ (cast pointer le is) = record { no_type = refl; no_else = refl; no_semicolon = refl; no_close = refl; no_brace = refl; is_simple = refl }
unary_first _ _ _ _ (size pointer dims le) = record { no_type = refl; no_else = refl; no_semicolon = refl; no_close = refl; no_brace = refl; is_simple = refl }

pub binary_first : (level : ℕ) (ws : List Word) (x : ExprTree) (h : ℕ) (rest : List Word) → IsBinary level ws x h rest → IsFirst ws
binary_first _ _ _ _ _ (operand {ws} {x} {h} {rest} is) = unary_first ws x h rest is
binary_first _ _ _ _ _ (tighter {level} {ws} {x} {h} {rest} is) = binary_first level ws x h rest is
binary_first _ _ _ _ _ (joined {level} {s} {op} {ws} {a} {x} {y} {h} {k} {rest} left e right) = binary_first (suc level) ws x h _ left

-- an operand without a sign is read as such
pub is_postfix : (ws : List Word) (x : ExprTree) (h : ℕ) (rest : List Word) → IsPostfix ws x h rest → unary_front ws ≡ unary.Postfix
is_postfix _ _ _ _ (no_suffix number) = refl
is_postfix _ _ _ _ (no_suffix character) = refl
is_postfix _ _ _ _ (no_suffix string) = refl
is_postfix _ _ _ _ (no_suffix variable) = refl
is_postfix _ _ _ _ (no_suffix (parentheses {a} {x} {h} {rest} is)) = ap (λ (b : Bool). if b then unary.Cast else unary.Postfix) (binary_first levels a x h _ is).no_type
is_postfix _ _ _ _ (no_suffix (call is)) = refl
is_postfix _ _ _ _ (no_suffix (gate is)) = refl
is_postfix _ _ _ _ (no_suffix (putc is)) = refl
is_postfix _ _ _ _ (no_suffix getc) = refl
is_postfix _ _ _ _ (no_suffix (device_load d r)) = refl
is_postfix _ _ _ _ (no_suffix (device_store p q is)) = refl
is_postfix _ _ _ _ (no_suffix (spawn is)) = refl
is_postfix _ _ _ _ (no_suffix (switch is)) = refl
is_postfix _ _ _ _ (no_suffix me) = refl
is_postfix _ _ _ _ (index {ws} {a} {x} {y} {h} {k} {rest} left right) = is_postfix ws x h _ left
is_postfix _ _ _ _ (member {ws} {x} {h} {name} {rest} is) = is_postfix ws x h _ is
is_postfix _ _ _ _ (arrow {ws} {x} {h} {name} {rest} is) = is_postfix ws x h _ is
