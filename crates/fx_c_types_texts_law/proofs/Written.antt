-- Each string of a tree takes a word, and each word a byte.
use Rattle.std.proofs.Common.{◌≡◌, ℕ, suc, ◌+◌, ◌≤◌, Bool, List, [], ◌∷◌, ◌++◌, length, Option, refl, ap, arith}
use Rattle.fx_c_ast.specs.declared.parsed.Decl.{Decl}
use Rattle.fx_c_ast.specs.declared.parsed.Grant.{Grant}
use Rattle.fx_c_ast.specs.declared.parsed.Init.{Init}
use Rattle.fx_c_ast.specs.ParsedTrees.{TypeTree, ExprTree, ExprTrees, StmtTree, StmtTrees, MaybeStmt, ParamTree, DeclTree, decl_tree, decl_trees}
use Rattle.fx_c_parse.specs.Words.{Word, words}
use Rattle.fx_c_parse.specs.Expressions.{levels}
use Rattle.fx_c_parse.specs.Grammar.{IsPrimary, number, character, string, variable, parentheses, call, size, gate, putc, getc, device_load, device_store, spawn, switch, me, IsPostfix, no_suffix, index, member, arrow, IsUnary, no_sign, sign, cast, IsBinary, operand, tighter, joined, IsArguments, no_argument, arguments, IsMore, no_more, more, IsExpression, nested}
use Rattle.fx_c_parse.specs.Phrases.{IsDeclarator, declarator, IsShared, unshared, shared, IsValue, no_value, some_value, IsMaybeExpression, no_expression, some_expression, IsSimple, evaluation, assignment, IsMaybeSimple, no_simple, some_simple, IsStatement, empty, block, local, simple, conditional, alternative, repetition, counted, break, continue, return, IsStatements, no_statement, statements}
use Rattle.fx_c_parse.specs.Units.{IsList, no_item, next_item, IsMember, struct_member, IsNextName, next_name, IsGrant, no_grant, grant_all, grant_some, IsInitial, no_initial, negative, positive, byte_value, text_value, IsEntry, no_entry, entry, IsParameter, parameter, IsNextParameter, next_parameter, IsParameters, no_parameter, void_alone, parameters, IsDeclaration, structure, global, function}
use Rattle.fx_c_parse.specs.Exact.{IsTextOf}
use Rattle.fx_c_parse.proofs.Counts.{no_more_words}
use Rattle.fx_c_parse.proofs.Growth.{dims_shorter, pointer_shorter}
use Rattle.fx_c_types.specs.Programs.{PlacedDecl}
use Rattle.fx_c_types.specs.ProgramView.{placed_in}
use Rattle.fx_c_types_texts_law.specs.Strings.{strings, strings_of_all, strings_of_value, strings_in, strings_in_maybe, strings_in_all, declared_strings, unit_strings, program_strings}

-- ---- expressions

mutual
  primary_holds : (ws : List Word) (x : ExprTree) (h : ℕ) (rest : List Word) → IsPrimary ws x h rest → strings x + length rest ≤ length ws
  primary_holds _ _ _ _ number = omega arith
  primary_holds _ _ _ _ character = omega arith
  primary_holds _ _ _ _ string = omega arith
  primary_holds _ _ _ _ variable = omega arith
  primary_holds _ _ _ _ (parentheses {a} {x} {h} {rest} is) = omega (arith, binary_holds levels a x h _ is)
  primary_holds _ _ _ _ (call {f} {a} {xs} {h} {rest} is) = omega (arith, arguments_hold a xs h _ is)
  primary_holds _ _ _ _ (gate {f} {a} {xs} {h} {rest} is) = omega (arith, more_hold a xs h _ is)
  primary_holds _ _ _ _ (putc {a} {x} {h} {rest} is) = omega (arith, binary_holds levels a x h _ is)
  primary_holds _ _ _ _ getc = omega arith
  primary_holds _ _ _ _ (device_load d r) = omega arith
  primary_holds _ _ _ _ (device_store {d} {r} {t} {u} {a} {x} {h} {rest} p q is) = omega (arith, binary_holds levels a x h _ is)
  primary_holds _ _ _ _ (spawn {f} {a} {x} {h} {rest} is) = omega (arith, binary_holds levels a x h _ is)
  primary_holds _ _ _ _ (switch {a} {x} {h} {rest} is) = omega (arith, binary_holds levels a x h _ is)
  primary_holds _ _ _ _ me = omega arith

  postfix_holds : (ws : List Word) (x : ExprTree) (h : ℕ) (rest : List Word) → IsPostfix ws x h rest → strings x + length rest ≤ length ws
  postfix_holds _ _ _ _ (no_suffix {ws} {x} {h} {rest} is) = primary_holds ws x h rest is
  postfix_holds _ _ _ _ (index {ws} {a} {x} {y} {h} {k} {rest} left right) = omega (arith, postfix_holds ws x h _ left, binary_holds levels a y k _ right)
  postfix_holds _ _ _ _ (member {ws} {x} {h} {name} {rest} is) = omega (arith, postfix_holds ws x h _ is)
  postfix_holds _ _ _ _ (arrow {ws} {x} {h} {name} {rest} is) = omega (arith, postfix_holds ws x h _ is)

  unary_holds : (ws : List Word) (x : ExprTree) (h : ℕ) (rest : List Word) → IsUnary ws x h rest → strings x + length rest ≤ length ws
  unary_holds _ _ _ _ (no_sign {ws} {x} {h} {rest} is) = postfix_holds ws x h rest is
  unary_holds _ _ _ _ (sign {s} {op} {a} {x} {h} {rest} e is) = omega (arith, unary_holds a x h rest is)
  unary_holds _ _ _ _ (cast {n} {a} {c} {t} {x} {h} {rest} pointer le is) = omega (arith, unary_holds c x h rest is, pointer_shorter n a t _ pointer)
  unary_holds _ _ _ _ (size {n} {m} {a} {c} {t} {u} {rest} pointer dims le) = omega (arith, pointer_shorter n a t c pointer, dims_shorter m c t u _ dims)

  binary_holds : (level : ℕ) (ws : List Word) (x : ExprTree) (h : ℕ) (rest : List Word) → IsBinary level ws x h rest → strings x + length rest ≤ length ws
  binary_holds _ _ _ _ _ (operand {ws} {x} {h} {rest} is) = unary_holds ws x h rest is
  binary_holds _ _ _ _ _ (tighter {level} {ws} {x} {h} {rest} is) = binary_holds level ws x h rest is
  binary_holds _ _ _ _ _ (joined {level} {s} {op} {ws} {a} {x} {y} {h} {k} {rest} left e right) = omega (arith, binary_holds (suc level) ws x h _ left, binary_holds level a y k rest right)

  arguments_hold : (ws : List Word) (xs : ExprTrees) (h : ℕ) (rest : List Word) → IsArguments ws xs h rest → strings_of_all xs + length rest ≤ length ws
  arguments_hold _ _ _ _ no_argument = omega arith
  arguments_hold _ _ _ _ (arguments {ws} {a} {x} {xs} {h} {k} {rest} first others) = omega (arith, binary_holds levels ws x h a first, more_hold a xs k rest others)

  more_hold : (ws : List Word) (xs : ExprTrees) (h : ℕ) (rest : List Word) → IsMore ws xs h rest → strings_of_all xs + length rest ≤ length ws
  more_hold _ _ _ _ no_more = omega arith
  more_hold _ _ _ _ (more {a} {c} {x} {xs} {h} {k} {rest} first others) = omega (arith, binary_holds levels a x h c first, more_hold c xs k rest others)

expression_holds : (ws : List Word) (x : ExprTree) (rest : List Word) → IsExpression ws x rest → strings x + length rest ≤ length ws
expression_holds _ _ _ (nested {ws} {x} {h} {rest} is le) = binary_holds levels ws x h rest is

-- ---- statements

declarator_shorter : (ws : List Word) (t : TypeTree) (name : List ℕ) (rest : List Word) → IsDeclarator ws t name rest → length rest ≤ length ws
declarator_shorter _ _ _ _ (declarator {n} {m} {ws} {a} {t} {u} {name} {rest} pointer dims le) = omega (arith, pointer_shorter n ws t _ pointer, dims_shorter m a t u rest dims)

shared_shorter : (ws : List Word) (s : Bool) (rest : List Word) → IsShared ws s rest → length rest ≤ length ws
shared_shorter _ _ _ unshared = omega arith
shared_shorter _ _ _ shared = omega arith

value_holds : (ws : List Word) (v : Option ExprTree) (rest : List Word) → IsValue ws v rest → strings_of_value v + length rest ≤ length ws
value_holds _ _ _ no_value = omega arith
value_holds _ _ _ (some_value {a} {x} {rest} is) = omega (arith, expression_holds a x rest is)

maybe_expression_holds : (ws : List Word) (v : Option ExprTree) (rest : List Word) → IsMaybeExpression ws v rest → strings_of_value v + length rest ≤ length ws
maybe_expression_holds _ _ _ no_expression = omega arith
maybe_expression_holds _ _ _ (some_expression {ws} {x} {rest} is) = expression_holds ws x rest is

simple_holds : (ws : List Word) (s : StmtTree) (rest : List Word) → IsSimple ws s rest → strings_in s + length rest ≤ length ws
simple_holds _ _ _ (evaluation {ws} {x} {rest} is) = expression_holds ws x rest is
simple_holds _ _ _ (assignment {ws} {a} {x} {y} {rest} to is) = omega (arith, expression_holds ws x _ to, expression_holds a y rest is)

maybe_simple_holds : (ws : List Word) (s : MaybeStmt) (rest : List Word) → IsMaybeSimple ws s rest → strings_in_maybe s + length rest ≤ length ws
maybe_simple_holds _ _ _ no_simple = omega arith
maybe_simple_holds _ _ _ (some_simple {ws} {s} {rest} is) = simple_holds ws s rest is

mutual
  statement_holds : (ws : List Word) (s : StmtTree) (h : ℕ) (open_end : Bool) (rest : List Word) → IsStatement ws s h open_end rest → strings_in s + length rest ≤ length ws
  statement_holds _ _ _ _ _ empty = omega arith
  statement_holds _ _ _ _ _ (block {a} {ss} {h} {rest} is) = omega (arith, statements_hold a ss h _ is)
  statement_holds _ _ _ _ _ (local {ws} {a} {c} {s} {t} {name} {v} {rest} mark declared value) = omega (arith, shared_shorter ws s a mark, declarator_shorter a t name c declared, value_holds c v _ value)
  statement_holds _ _ _ _ _ (simple {ws} {s} {rest} is) = omega (arith, simple_holds ws s _ is)
  statement_holds _ _ _ _ _ (conditional {a} {c} {x} {s} {h} {open_end} {rest} test one) = omega (arith, expression_holds a x _ test, statement_holds c s h open_end rest one)
  statement_holds _ _ _ _ _ (alternative {a} {c} {d} {x} {s} {o} {h} {k} {open_end} {rest} test one two) = omega (arith, expression_holds a x _ test, statement_holds c s h _ _ one, statement_holds d o k open_end rest two)
  statement_holds _ _ _ _ _ (repetition {a} {c} {x} {s} {h} {open_end} {rest} test body) = omega (arith, expression_holds a x _ test, statement_holds c s h open_end rest body)
  statement_holds _ _ _ _ _ (counted {a} {c} {d} {e} {first} {next} {x} {s} {h} {open_end} {rest} begins test steps body) = omega (arith, maybe_simple_holds a first _ begins, maybe_expression_holds c x _ test, maybe_simple_holds d next _ steps, statement_holds e s h open_end rest body)
  statement_holds _ _ _ _ _ break = omega arith
  statement_holds _ _ _ _ _ continue = omega arith
  statement_holds _ _ _ _ _ (return {a} {x} {rest} is) = omega (arith, maybe_expression_holds a x _ is)

  statements_hold : (ws : List Word) (ss : StmtTrees) (h : ℕ) (rest : List Word) → IsStatements ws ss h rest → strings_in_all ss + length rest ≤ length ws
  statements_hold _ _ _ _ no_statement = omega arith
  statements_hold _ _ _ _ (statements {ws} {a} {s} {ss} {h} {k} {open_end} {rest} first others) = omega (arith, statement_holds ws s h open_end a first, statements_hold a ss k rest others)

-- ---- declarations

list_shorter : {A : Type 0} (Is : List Word → A → List Word → Type 0) → ((ws : List Word) (x : A) (rest : List Word) → Is ws x rest → length rest ≤ length ws) → (ws : List Word) (xs : List A) (rest : List Word) → IsList Is ws xs rest → length rest ≤ length ws
list_shorter Is each _ _ _ no_item = omega arith
list_shorter Is each _ _ _ (next_item {ws} {a} {x} {xs} {rest} first others) = omega (arith, each ws x a first, list_shorter Is each a xs rest others)

member_shorter : (ws : List Word) (m : TypeTree × List ℕ) (rest : List Word) → IsMember ws m rest → length rest ≤ length ws
member_shorter _ _ _ (struct_member {ws} {t} {name} {rest} is) = omega (arith, declarator_shorter ws t name _ is)

name_shorter : (ws : List Word) (name : List ℕ) (rest : List Word) → IsNextName ws name rest → length rest ≤ length ws
name_shorter _ _ _ next_name = omega arith

grant_shorter : (word : ℕ) (ws : List Word) (g : Grant) (rest : List Word) → IsGrant word ws g rest → length rest ≤ length ws
grant_shorter _ _ _ _ no_grant = omega arith
grant_shorter _ _ _ _ grant_all = omega arith
grant_shorter _ _ _ _ (grant_some {word} {name} {names} {a} {rest} is) = omega (arith, list_shorter IsNextName name_shorter a names _ is)

initial_shorter : (ws : List Word) (i : Init) (rest : List Word) → IsInitial ws i rest → length rest ≤ length ws
initial_shorter _ _ _ no_initial = omega arith
initial_shorter _ _ _ negative = omega arith
initial_shorter _ _ _ positive = omega arith
initial_shorter _ _ _ byte_value = omega arith
initial_shorter _ _ _ text_value = omega arith

entry_shorter : (ws : List Word) (e : Bool) (rest : List Word) → IsEntry ws e rest → length rest ≤ length ws
entry_shorter _ _ _ no_entry = omega arith
entry_shorter _ _ _ entry = omega arith

parameter_shorter : (ws : List Word) (p : ParamTree) (rest : List Word) → IsParameter ws p rest → length rest ≤ length ws
parameter_shorter _ _ _ (parameter {n} {ws} {a} {s} {t} {name} {rest} mark pointer le) = omega (arith, shared_shorter ws s a mark, pointer_shorter n a t _ pointer)

next_parameter_shorter : (ws : List Word) (p : ParamTree) (rest : List Word) → IsNextParameter ws p rest → length rest ≤ length ws
next_parameter_shorter _ _ _ (next_parameter {a} {p} {rest} is) = omega (arith, parameter_shorter a p rest is)

parameters_shorter : (ws : List Word) (ps : List ParamTree) (rest : List Word) → IsParameters ws ps rest → length rest ≤ length ws
parameters_shorter _ _ _ no_parameter = omega arith
parameters_shorter _ _ _ void_alone = omega arith
parameters_shorter _ _ _ (parameters {ws} {a} {p} {ps} {rest} first others) = omega (arith, parameter_shorter ws p a first, list_shorter IsNextParameter next_parameter_shorter a ps rest others)

declaration_holds : (ws : List Word) (d : DeclTree) (rest : List Word) → IsDeclaration ws d rest → declared_strings d + length rest ≤ length ws
declaration_holds _ _ _ (structure {a} {b} {name} {m} {ms} {rest} first others) = omega (arith, member_shorter a m b first, list_shorter IsMember member_shorter b ms _ others)
declaration_holds _ _ _ (global {ws} {a} {b} {c} {g} {r} {t} {name} {i} {rest} writers readers declared initial) = omega (arith, grant_shorter _ ws g a writers, grant_shorter _ a r b readers, declarator_shorter b t name c declared, initial_shorter c i _ initial)
declaration_holds _ _ _ (function {n} {h} {ws} {a} {b} {c} {e} {t} {name} {ps} {ss} {rest} mark pointer le heads body within) = omega (arith, entry_shorter ws e a mark, pointer_shorter n a t _ pointer, parameters_shorter b ps _ heads, statements_hold c ss h _ body)

unit_holds : (ws : List Word) (ds : List DeclTree) (rest : List Word) → IsList IsDeclaration ws ds rest → unit_strings ds + length rest ≤ length ws
unit_holds _ _ _ no_item = omega arith
unit_holds _ _ _ (next_item {ws} {a} {x} {xs} {rest} first others) = omega (arith, declaration_holds ws x a first, unit_holds a xs rest others)

pub few_strings : (text : List ℕ) (ds : List DeclTree) → IsTextOf text ds → unit_strings ds ≤ length text
few_strings text ds is = omega (arith, unit_holds (words text is.0) ds [] is.2, no_more_words text is.0 is.1)

-- ---- the trees of files

pub strings-append : (ds es : List PlacedDecl) → program_strings (ds ++ es) ≡ program_strings ds + program_strings es
strings-append [] es = omega arith
strings-append (d ∷ ds) es = omega (arith, strings-append ds es)

pub strings-placed : (library : ℕ) (ds : List Decl) → program_strings (placed_in library ds) ≡ unit_strings (decl_trees ds)
strings-placed library [] = refl
strings-placed library (d ∷ ds) = ap (λ n. declared_strings (decl_tree d) + n) (strings-placed library ds)
