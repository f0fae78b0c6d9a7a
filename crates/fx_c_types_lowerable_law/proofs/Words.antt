-- What the words of a phrase give: numbers that fit, and the fewest words that its tree takes.
use Rattle.std.proofs.Common.{ℕ, suc, ◌+◌, ◌≤◌, Bool, List, [], length, Option, arith}
use Rattle.fx_c_ast.specs.declared.parsed.Grant.{Grant}
use Rattle.fx_c_ast.specs.declared.parsed.Init.{Init}
use Rattle.fx_c_ast.specs.ParsedTrees.{TypeTree, PointerType, ExprTree, ExprTrees, StmtTree, StmtTrees, MaybeStmt, ParamTree, DeclTree}
use Rattle.fx_c_parse.specs.Words.{Word, words}
use Rattle.fx_c_parse.specs.Expressions.{levels}
use Rattle.fx_c_parse.specs.Grammar.{IsBase, void_base, signed_base, unsigned_alone, unsigned_integer, struct_base, IsStars, no_star, one_star, IsDims, no_dim, one_dim, IsPointerType, pointer_type, IsPrimary, number, character, string, variable, parentheses, call, size, gate, putc, getc, device_load, device_store, spawn, switch, me, IsPostfix, no_suffix, index, member, arrow, IsUnary, no_sign, sign, cast, IsBinary, operand, tighter, joined, IsArguments, no_argument, arguments, IsMore, no_more, more, IsExpression, nested}
use Rattle.fx_c_parse.specs.Phrases.{IsDeclarator, declarator, IsShared, unshared, shared, IsValue, no_value, some_value, IsMaybeExpression, no_expression, some_expression, IsSimple, evaluation, assignment, IsMaybeSimple, no_simple, some_simple, IsStatement, empty, block, local, simple, conditional, alternative, repetition, counted, break, continue, return, IsStatements, no_statement, statements}
use Rattle.fx_c_parse.specs.Units.{IsList, no_item, next_item, IsMember, struct_member, IsNextName, next_name, IsGrant, no_grant, grant_all, grant_some, IsInitial, no_initial, negative, positive, byte_value, text_value, IsEntry, no_entry, entry, IsParameter, parameter, IsNextParameter, next_parameter, IsParameters, no_parameter, void_alone, parameters, IsDeclaration, structure, global, function}
use Rattle.fx_c_parse.specs.Exact.{IsTextOf}
use Rattle.fx_c_parse.proofs.Counts.{no_more_words}
use Rattle.fx_c_types_lowerable_law.proofs.Constants.{AllFit, words_fit}
use Rattle.fx_c_types_lowerable_law.proofs.Sources.{Constant, AllConstant, ValueConstant, ConstantIn, ConstantInMaybe, ConstantInAll, ConstantBody, ConstantBodies, least, least_of_all, least_of_value, least_in, least_in_maybe, least_in_all, least_body, least_bodies}

-- a phrase of so many words at least, where what holds of its tree follows of numbers that fit
record Takes (Tree : Type 0) (n : ℕ) (ws rest : List Word) : Type 0 where
  tree : AllFit ws → Tree
  words : n + length rest ≤ length ws
  fit : AllFit ws → AllFit rest

-- one of which nothing else is known
abbrev Passes : List Word → List Word → Type 0
Passes ws rest = Takes (Unit {0}) 0 ws rest

stays : (ws : List Word) → Passes ws ws
stays ws = record { tree = λ f. tt; words = omega arith; fit = λ f. f }

-- ---- types

base_takes : (ws : List Word) (t : TypeTree) (rest : List Word) → IsBase ws t rest → Takes (Unit {0}) 1 ws rest
base_takes _ _ _ void_base = record { tree = λ f. tt; words = omega arith; fit = λ f. f.1 }
base_takes _ _ _ (signed_base is) = record { tree = λ f. tt; words = omega arith; fit = λ f. f.1 }
base_takes _ _ _ unsigned_alone = record { tree = λ f. tt; words = omega arith; fit = λ f. f.1 }
base_takes _ _ _ (unsigned_integer is) = record { tree = λ f. tt; words = omega arith; fit = λ f. f.1.1 }
base_takes _ _ _ struct_base = record { tree = λ f. tt; words = omega arith; fit = λ f. f.1.1 }

stars_pass : (n : ℕ) (ws : List Word) (t u : TypeTree) (rest : List Word) → IsStars n ws t u rest → Passes ws rest
stars_pass _ _ _ _ _ (no_star {t} {rest}) = stays rest
stars_pass _ _ _ _ _ (one_star {n} {a} {t} {u} {rest} is) =
    let k : Passes a rest = stars_pass n a (PointerType t) u rest is in
    record { tree = λ f. tt; words = omega (arith, k.words); fit = λ f. k.fit f.1 }

dims_pass : (n : ℕ) (ws : List Word) (t u : TypeTree) (rest : List Word) → IsDims n ws t u rest → Passes ws rest
dims_pass _ _ _ _ _ (no_dim {t} {rest}) = stays rest
dims_pass _ _ _ _ _ (one_dim {n} {count} {ty} {a} {t} {u} {rest} less is) =
    let k : Passes a rest = dims_pass n a t u rest is in
    record { tree = λ f. tt; words = omega (arith, k.words); fit = λ f. k.fit f.1.1.1 }

pointer_takes : (n : ℕ) (ws : List Word) (t : TypeTree) (rest : List Word) → IsPointerType n ws t rest → Takes (Unit {0}) 1 ws rest
pointer_takes _ _ _ _ (pointer_type {n} {ws} {a} {t} {u} {rest} base stars) =
    let b : Takes (Unit {0}) 1 ws a = base_takes ws t a base in
    let k : Passes a rest = stars_pass n a t u rest stars in
    record { tree = λ f. tt; words = omega (arith, b.words, k.words); fit = λ f. k.fit (b.fit f) }

declarator_takes : (ws : List Word) (t : TypeTree) (name : List ℕ) (rest : List Word) → IsDeclarator ws t name rest → Takes (Unit {0}) 1 ws rest
declarator_takes _ _ _ _ (declarator {n} {m} {ws} {a} {t} {u} {name} {rest} pointer dims le) =
    let p = pointer_takes n ws t _ pointer in
    let d : Passes a rest = dims_pass m a t u rest dims in
    record { tree = λ f. tt; words = omega (arith, p.words, d.words); fit = λ f. d.fit (p.fit f).1 }

shared_passes : (ws : List Word) (s : Bool) (rest : List Word) → IsShared ws s rest → Passes ws rest
shared_passes _ _ _ (unshared {rest}) = stays rest
shared_passes _ _ _ (shared {rest}) = record { tree = λ f. tt; words = omega arith; fit = λ f. f.1 }

-- ---- expressions

mutual
  primary_takes : (ws : List Word) (x : ExprTree) (h : ℕ) (rest : List Word) → IsPrimary ws x h rest → Takes (Constant x) (least x) ws rest
  primary_takes _ _ _ _ number = record { tree = λ f. f.0; words = omega arith; fit = λ f. f.1 }
  primary_takes _ _ _ _ character = record { tree = λ f. f.0; words = omega arith; fit = λ f. f.1 }
  primary_takes _ _ _ _ string = record { tree = λ f. tt; words = omega arith; fit = λ f. f.1 }
  primary_takes _ _ _ _ variable = record { tree = λ f. tt; words = omega arith; fit = λ f. f.1 }
  primary_takes _ _ _ _ (parentheses {a} {x} {h} {rest} is) =
      let k = binary_takes levels a x h _ is in
      record { tree = λ f. k.tree f.1; words = omega (arith, k.words); fit = λ f. (k.fit f.1).1 }
  primary_takes _ _ _ _ (call {f} {a} {xs} {h} {rest} is) =
      let k = arguments_take a xs h _ is in
      record { tree = λ f. k.tree f.1.1; words = omega (arith, k.words); fit = λ f. (k.fit f.1.1).1 }
  primary_takes _ _ _ _ (gate {f} {a} {xs} {h} {rest} is) =
      let k = more_take a xs h _ is in
      record { tree = λ f. k.tree f.1.1.1; words = omega (arith, k.words); fit = λ f. (k.fit f.1.1.1).1 }
  primary_takes _ _ _ _ (putc {a} {x} {h} {rest} is) =
      let k = binary_takes levels a x h _ is in
      record { tree = λ f. k.tree f.1.1; words = omega (arith, k.words); fit = λ f. (k.fit f.1.1).1 }
  primary_takes _ _ _ _ getc = record { tree = λ f. tt; words = omega arith; fit = λ f. f.1.1.1 }
  primary_takes _ _ _ _ (device_load d r) = record { tree = λ f. tt; words = omega arith; fit = λ f. f.1.1.1.1.1.1 }
  primary_takes _ _ _ _ (device_store {d} {r} {t} {u} {a} {x} {h} {rest} p q is) =
      let k = binary_takes levels a x h _ is in
      record { tree = λ f. k.tree f.1.1.1.1.1.1; words = omega (arith, k.words); fit = λ f. (k.fit f.1.1.1.1.1.1).1 }
  primary_takes _ _ _ _ (spawn {f} {a} {x} {h} {rest} is) =
      let k = binary_takes levels a x h _ is in
      record { tree = λ f. k.tree f.1.1.1.1; words = omega (arith, k.words); fit = λ f. (k.fit f.1.1.1.1).1 }
  primary_takes _ _ _ _ (switch {a} {x} {h} {rest} is) =
      let k = binary_takes levels a x h _ is in
      record { tree = λ f. k.tree f.1.1; words = omega (arith, k.words); fit = λ f. (k.fit f.1.1).1 }
  primary_takes _ _ _ _ me = record { tree = λ f. tt; words = omega arith; fit = λ f. f.1.1.1 }

  postfix_takes : (ws : List Word) (x : ExprTree) (h : ℕ) (rest : List Word) → IsPostfix ws x h rest → Takes (Constant x) (least x) ws rest
  postfix_takes _ _ _ _ (no_suffix {ws} {x} {h} {rest} is) = primary_takes ws x h rest is
  postfix_takes _ _ _ _ (index {ws} {a} {x} {y} {h} {k} {rest} left right) =
      let l = postfix_takes ws x h _ left in
      let r = binary_takes levels a y k _ right in
      record { tree = λ f. (l.tree f, r.tree (l.fit f).1); words = omega (arith, l.words, r.words); fit = λ f. (r.fit (l.fit f).1).1 }
  postfix_takes _ _ _ _ (member {ws} {x} {h} {name} {rest} is) =
      let l = postfix_takes ws x h _ is in
      record { tree = λ f. l.tree f; words = omega (arith, l.words); fit = λ f. (l.fit f).1.1 }
  postfix_takes _ _ _ _ (arrow {ws} {x} {h} {name} {rest} is) =
      let l = postfix_takes ws x h _ is in
      record { tree = λ f. l.tree f; words = omega (arith, l.words); fit = λ f. (l.fit f).1.1 }

  unary_takes : (ws : List Word) (x : ExprTree) (h : ℕ) (rest : List Word) → IsUnary ws x h rest → Takes (Constant x) (least x) ws rest
  unary_takes _ _ _ _ (no_sign {ws} {x} {h} {rest} is) = postfix_takes ws x h rest is
  unary_takes _ _ _ _ (sign {s} {op} {a} {x} {h} {rest} e is) =
      let k = unary_takes a x h rest is in
      record { tree = λ f. k.tree f.1; words = omega (arith, k.words); fit = λ f. k.fit f.1 }
  unary_takes _ _ _ _ (cast {n} {a} {c} {t} {x} {h} {rest} pointer le is) =
      let p = pointer_takes n a t _ pointer in
      let k = unary_takes c x h rest is in
      record { tree = λ f. k.tree (p.fit f.1).1; words = omega (arith, p.words, k.words); fit = λ f. k.fit (p.fit f.1).1 }
  unary_takes _ _ _ _ (size {n} {m} {a} {c} {t} {u} {rest} pointer dims le) =
      let p = pointer_takes n a t c pointer in
      let d = dims_pass m c t u _ dims in
      record { tree = λ f. tt; words = omega (arith, p.words, d.words); fit = λ f. (d.fit (p.fit f.1.1)).1 }

  binary_takes : (level : ℕ) (ws : List Word) (x : ExprTree) (h : ℕ) (rest : List Word) → IsBinary level ws x h rest → Takes (Constant x) (least x) ws rest
  binary_takes _ _ _ _ _ (operand {ws} {x} {h} {rest} is) = unary_takes ws x h rest is
  binary_takes _ _ _ _ _ (tighter {level} {ws} {x} {h} {rest} is) = binary_takes level ws x h rest is
  binary_takes _ _ _ _ _ (joined {level} {s} {op} {ws} {a} {x} {y} {h} {k} {rest} left e right) =
      let l = binary_takes (suc level) ws x h _ left in
      let r = binary_takes level a y k rest right in
      record { tree = λ f. (l.tree f, r.tree (l.fit f).1); words = omega (arith, l.words, r.words); fit = λ f. r.fit (l.fit f).1 }

  arguments_take : (ws : List Word) (xs : ExprTrees) (h : ℕ) (rest : List Word) → IsArguments ws xs h rest → Takes (AllConstant xs) (least_of_all xs) ws rest
  arguments_take _ _ _ _ no_argument = record { tree = λ f. tt; words = omega arith; fit = λ f. f }
  arguments_take _ _ _ _ (arguments {ws} {a} {x} {xs} {h} {k} {rest} first others) =
      let l = binary_takes levels ws x h a first in
      let r = more_take a xs k rest others in
      record { tree = λ f. (l.tree f, r.tree (l.fit f)); words = omega (arith, l.words, r.words); fit = λ f. r.fit (l.fit f) }

  more_take : (ws : List Word) (xs : ExprTrees) (h : ℕ) (rest : List Word) → IsMore ws xs h rest → Takes (AllConstant xs) (least_of_all xs) ws rest
  more_take _ _ _ _ no_more = record { tree = λ f. tt; words = omega arith; fit = λ f. f }
  more_take _ _ _ _ (more {a} {c} {x} {xs} {h} {k} {rest} first others) =
      let l = binary_takes levels a x h c first in
      let r = more_take c xs k rest others in
      record { tree = λ f. (l.tree f.1, r.tree (l.fit f.1)); words = omega (arith, l.words, r.words); fit = λ f. r.fit (l.fit f.1) }

expression_takes : (ws : List Word) (x : ExprTree) (rest : List Word) → IsExpression ws x rest → Takes (Constant x) (least x) ws rest
expression_takes _ _ _ (nested {ws} {x} {h} {rest} is le) = binary_takes levels ws x h rest is

-- ---- statements

value_takes : (ws : List Word) (v : Option ExprTree) (rest : List Word) → IsValue ws v rest → Takes (ValueConstant v) (least_of_value v) ws rest
value_takes _ _ _ no_value = record { tree = λ f. tt; words = omega arith; fit = λ f. f }
value_takes _ _ _ (some_value {a} {x} {rest} is) =
    let k = expression_takes a x rest is in
    record { tree = λ f. k.tree f.1; words = omega (arith, k.words); fit = λ f. k.fit f.1 }

maybe_takes : (ws : List Word) (v : Option ExprTree) (rest : List Word) → IsMaybeExpression ws v rest → Takes (ValueConstant v) (least_of_value v) ws rest
maybe_takes _ _ _ no_expression = record { tree = λ f. tt; words = omega arith; fit = λ f. f }
maybe_takes _ _ _ (some_expression {ws} {x} {rest} is) = expression_takes ws x rest is

simple_takes : (ws : List Word) (s : StmtTree) (rest : List Word) → IsSimple ws s rest → Takes (ConstantIn s) (least_in s) ws rest
simple_takes _ _ _ (evaluation {ws} {x} {rest} is) = expression_takes ws x rest is
simple_takes _ _ _ (assignment {ws} {a} {x} {y} {rest} to is) =
    let l = expression_takes ws x _ to in
    let r = expression_takes a y rest is in
    record { tree = λ f. (l.tree f, r.tree (l.fit f).1); words = omega (arith, l.words, r.words); fit = λ f. r.fit (l.fit f).1 }

maybe_simple_takes : (ws : List Word) (s : MaybeStmt) (rest : List Word) → IsMaybeSimple ws s rest → Takes (ConstantInMaybe s) (least_in_maybe s) ws rest
maybe_simple_takes _ _ _ no_simple = record { tree = λ f. tt; words = omega arith; fit = λ f. f }
maybe_simple_takes _ _ _ (some_simple {ws} {s} {rest} is) = simple_takes ws s rest is

mutual
  statement_takes : (ws : List Word) (s : StmtTree) (h : ℕ) (open_end : Bool) (rest : List Word) → IsStatement ws s h open_end rest → Takes (ConstantIn s) (least_in s) ws rest
  statement_takes _ _ _ _ _ empty = record { tree = λ f. tt; words = omega arith; fit = λ f. f.1 }
  statement_takes _ _ _ _ _ (block {a} {ss} {h} {rest} is) =
      let k = statements_take a ss h _ is in
      record { tree = λ f. k.tree f.1; words = omega (arith, k.words); fit = λ f. (k.fit f.1).1 }
  statement_takes _ _ _ _ _ (local {ws} {a} {c} {s} {t} {name} {v} {rest} mark declared value) =
      let m : Passes ws a = shared_passes ws s a mark in
      let d : Takes (Unit {0}) 1 a c = declarator_takes a t name c declared in
      let k = value_takes c v _ value in
      record { tree = λ f. k.tree (d.fit (m.fit f)); words = omega (arith, m.words, d.words, k.words); fit = λ f. (k.fit (d.fit (m.fit f))).1 }
  statement_takes _ _ _ _ _ (simple {ws} {s} {rest} is) =
      let k = simple_takes ws s _ is in
      record { tree = λ f. k.tree f; words = omega (arith, k.words); fit = λ f. (k.fit f).1 }
  statement_takes _ _ _ _ _ (conditional {a} {c} {x} {s} {h} {open_end} {rest} test one) =
      let t = expression_takes a x _ test in
      let k = statement_takes c s h open_end rest one in
      record { tree = λ f. (t.tree f.1.1, k.tree (t.fit f.1.1).1, tt); words = omega (arith, t.words, k.words); fit = λ f. k.fit (t.fit f.1.1).1 }
  statement_takes _ _ _ _ _ (alternative {a} {c} {d} {x} {s} {o} {h} {k} {open_end} {rest} test one two) =
      let t = expression_takes a x _ test in
      let l = statement_takes c s h _ _ one in
      let r = statement_takes d o k open_end rest two in
      record {
        tree = λ f. (t.tree f.1.1, l.tree (t.fit f.1.1).1, r.tree (l.fit (t.fit f.1.1).1).1);
        words = omega (arith, t.words, l.words, r.words);
        fit = λ f. r.fit (l.fit (t.fit f.1.1).1).1;
      }
  statement_takes _ _ _ _ _ (repetition {a} {c} {x} {s} {h} {open_end} {rest} test body) =
      let t = expression_takes a x _ test in
      let k = statement_takes c s h open_end rest body in
      record { tree = λ f. (t.tree f.1.1, k.tree (t.fit f.1.1).1); words = omega (arith, t.words, k.words); fit = λ f. k.fit (t.fit f.1.1).1 }
  statement_takes _ _ _ _ _ (counted {a} {c} {d} {e} {first} {next} {x} {s} {h} {open_end} {rest} begins test steps body) =
      let p = maybe_simple_takes a first _ begins in
      let t = maybe_takes c x _ test in
      let q = maybe_simple_takes d next _ steps in
      let k = statement_takes e s h open_end rest body in
      record {
        tree = λ f. (p.tree f.1.1, t.tree (p.fit f.1.1).1, q.tree (t.fit (p.fit f.1.1).1).1, k.tree (q.fit (t.fit (p.fit f.1.1).1).1).1);
        words = omega (arith, p.words, t.words, q.words, k.words);
        fit = λ f. k.fit (q.fit (t.fit (p.fit f.1.1).1).1).1;
      }
  statement_takes _ _ _ _ _ break = record { tree = λ f. tt; words = omega arith; fit = λ f. f.1.1 }
  statement_takes _ _ _ _ _ continue = record { tree = λ f. tt; words = omega arith; fit = λ f. f.1.1 }
  statement_takes _ _ _ _ _ (return {a} {x} {rest} is) =
      let k = maybe_takes a x _ is in
      record { tree = λ f. k.tree f.1; words = omega (arith, k.words); fit = λ f. (k.fit f.1).1 }

  statements_take : (ws : List Word) (ss : StmtTrees) (h : ℕ) (rest : List Word) → IsStatements ws ss h rest → Takes (ConstantInAll ss) (least_in_all ss) ws rest
  statements_take _ _ _ _ no_statement = record { tree = λ f. tt; words = omega arith; fit = λ f. f }
  statements_take _ _ _ _ (statements {ws} {a} {s} {ss} {h} {k} {open_end} {rest} first others) =
      let l = statement_takes ws s h open_end a first in
      let r = statements_take a ss k rest others in
      record { tree = λ f. (l.tree f, r.tree (l.fit f)); words = omega (arith, l.words, r.words); fit = λ f. r.fit (l.fit f) }

-- ---- declarations

list_passes : {A : Type 0} (Is : List Word → A → List Word → Type 0) → ((ws : List Word) (x : A) (rest : List Word) → Is ws x rest → Passes ws rest) → (ws : List Word) (xs : List A) (rest : List Word) → IsList Is ws xs rest → Passes ws rest
list_passes Is each _ _ _ (no_item {rest}) = stays rest
list_passes Is each _ _ _ (next_item {ws} {a} {x} {xs} {rest} first others) =
    let l : Passes ws a = each ws x a first in
    let r : Passes a rest = list_passes Is each a xs rest others in
    record { tree = λ f. tt; words = omega (arith, l.words, r.words); fit = λ f. r.fit (l.fit f) }

member_passes : (ws : List Word) (m : TypeTree × List ℕ) (rest : List Word) → IsMember ws m rest → Passes ws rest
member_passes _ _ _ (struct_member {ws} {t} {name} {rest} is) =
    let k = declarator_takes ws t name _ is in
    record { tree = λ f. tt; words = omega (arith, k.words); fit = λ f. (k.fit f).1 }

name_passes : (ws : List Word) (name : List ℕ) (rest : List Word) → IsNextName ws name rest → Passes ws rest
name_passes _ _ _ next_name = record { tree = λ f. tt; words = omega arith; fit = λ f. f.1.1 }

grant_passes : (word : ℕ) (ws : List Word) (g : Grant) (rest : List Word) → IsGrant word ws g rest → Passes ws rest
grant_passes _ _ _ _ (no_grant {word} {rest}) = stays rest
grant_passes _ _ _ _ grant_all = record { tree = λ f. tt; words = omega arith; fit = λ f. f.1.1.1.1 }
grant_passes _ _ _ _ (grant_some {word} {name} {names} {a} {rest} is) =
    let k = list_passes IsNextName name_passes a names _ is in
    record { tree = λ f. tt; words = omega (arith, k.words); fit = λ f. (k.fit f.1.1.1).1 }

initial_passes : (ws : List Word) (i : Init) (rest : List Word) → IsInitial ws i rest → Passes ws rest
initial_passes _ _ _ (no_initial {rest}) = stays rest
initial_passes _ _ _ negative = record { tree = λ f. tt; words = omega arith; fit = λ f. f.1.1.1 }
initial_passes _ _ _ positive = record { tree = λ f. tt; words = omega arith; fit = λ f. f.1.1 }
initial_passes _ _ _ byte_value = record { tree = λ f. tt; words = omega arith; fit = λ f. f.1.1 }
initial_passes _ _ _ text_value = record { tree = λ f. tt; words = omega arith; fit = λ f. f.1.1 }

entry_passes : (ws : List Word) (e : Bool) (rest : List Word) → IsEntry ws e rest → Passes ws rest
entry_passes _ _ _ (no_entry {rest}) = stays rest
entry_passes _ _ _ entry = record { tree = λ f. tt; words = omega arith; fit = λ f. f.1 }

parameter_passes : (ws : List Word) (p : ParamTree) (rest : List Word) → IsParameter ws p rest → Passes ws rest
parameter_passes _ _ _ (parameter {n} {ws} {a} {s} {t} {name} {rest} mark pointer le) =
    let m : Passes ws a = shared_passes ws s a mark in
    let p = pointer_takes n a t _ pointer in
    record { tree = λ f. tt; words = omega (arith, m.words, p.words); fit = λ f. (p.fit (m.fit f)).1 }

next_parameter_passes : (ws : List Word) (p : ParamTree) (rest : List Word) → IsNextParameter ws p rest → Passes ws rest
next_parameter_passes _ _ _ (next_parameter {a} {p} {rest} is) =
    let k : Passes a rest = parameter_passes a p rest is in
    record { tree = λ f. tt; words = omega (arith, k.words); fit = λ f. k.fit f.1 }

parameters_pass : (ws : List Word) (ps : List ParamTree) (rest : List Word) → IsParameters ws ps rest → Passes ws rest
parameters_pass _ _ _ (no_parameter {rest}) = stays rest
parameters_pass _ _ _ void_alone = record { tree = λ f. tt; words = omega arith; fit = λ f. f.1 }
parameters_pass _ _ _ (parameters {ws} {a} {p} {ps} {rest} first others) =
    let l : Passes ws a = parameter_passes ws p a first in
    let r : Passes a rest = list_passes IsNextParameter next_parameter_passes a ps rest others in
    record { tree = λ f. tt; words = omega (arith, l.words, r.words); fit = λ f. r.fit (l.fit f) }

-- a declaration takes a word beside those of its body
declaration_takes : (ws : List Word) (d : DeclTree) (rest : List Word) → IsDeclaration ws d rest → Takes (ConstantBody d) (1 + least_body d) ws rest
declaration_takes _ _ _ (structure {a} {b} {name} {m} {ms} {rest} first others) =
    let l : Passes a b = member_passes a m b first in
    let r = list_passes IsMember member_passes b ms _ others in
    record { tree = λ f. tt; words = omega (arith, l.words, r.words); fit = λ f. (r.fit (l.fit f.1.1.1)).1.1 }
declaration_takes _ _ _ (global {ws} {a} {b} {c} {g} {r} {t} {name} {i} {rest} writers readers declared begins) =
    let w : Passes ws a = grant_passes _ ws g a writers in
    let v : Passes a b = grant_passes _ a r b readers in
    let d : Takes (Unit {0}) 1 b c = declarator_takes b t name c declared in
    let k = initial_passes c i _ begins in
    record { tree = λ f. tt; words = omega (arith, w.words, v.words, d.words, k.words); fit = λ f. (k.fit (d.fit (v.fit (w.fit f)))).1 }
declaration_takes _ _ _ (function {n} {h} {ws} {a} {b} {c} {e} {t} {name} {ps} {ss} {rest} mark pointer le heads body within) =
    let m : Passes ws a = entry_passes ws e a mark in
    let p = pointer_takes n a t _ pointer in
    let q = parameters_pass b ps _ heads in
    let k = statements_take c ss h _ body in
    record {
      tree = λ f. k.tree (q.fit (p.fit (m.fit f)).1.1).1.1;
      words = omega (arith, m.words, p.words, q.words, k.words);
      fit = λ f. (k.fit (q.fit (p.fit (m.fit f)).1.1).1.1).1;
    }

unit_takes : (ws : List Word) (ds : List DeclTree) (rest : List Word) → IsList IsDeclaration ws ds rest → Takes (ConstantBodies ds) (length ds + least_bodies ds) ws rest
unit_takes _ _ _ no_item = record { tree = λ f. tt; words = omega arith; fit = λ f. f }
unit_takes _ _ _ (next_item {ws} {a} {x} {xs} {rest} first others) =
    let l = declaration_takes ws x a first in
    let r = unit_takes a xs rest others in
    record { tree = λ f. (l.tree f, r.tree (l.fit f)); words = omega (arith, l.words, r.words); fit = λ f. r.fit (l.fit f) }

-- the numbers in the tree of a text fit their types
pub text_constant : (text : List ℕ) (ds : List DeclTree) → IsTextOf text ds → ConstantBodies ds
text_constant text ds is = (unit_takes (words text is.0) ds [] is.2).tree (words_fit text 0 is.0 is.1)

-- and a text has no fewer bytes than its declarations and their bodies take words
pub text_takes : (text : List ℕ) (ds : List DeclTree) → IsTextOf text ds → length ds + least_bodies ds ≤ length text
text_takes text ds is = omega (arith, (unit_takes (words text is.0) ds [] is.2).words, no_more_words text is.0 is.1)
