-- What the grammar says of the tree of a text.
use Rattle.std.proofs.Common.{ℕ, suc, ◌<◌, Bool, List, [], ◌∷◌, Option, Some, None, arith}
use Rattle.fx_c_ast.specs.ParsedTrees.{TypeTree, VoidType, IntegerType, StructType, PointerType, ArrayType, ExprTree, NumberTree, TextTree, VarTree, UnTree, BinTree, CastTree, SizeTree, IndexTree, MemberTree, ArrowTree, CallTree, GateTree, GetcTree, PutcTree, DevLoadTree, DevStoreTree, SpawnTree, SwitchTree, MeTree, ExprTrees, NoExprs, MoreExprs, StmtTree, EmptyTree, BlockTree, LocalTree, EvalTree, AssignTree, IfTree, WhileTree, ForTree, BreakTree, ContinueTree, ReturnTree, StmtTrees, NoStmts, MoreStmts, MaybeStmt, Absent, Present, ParamTree, DeclTree, StructTree, GlobalTree, FunctionTree}
use Rattle.fx_c_parse.specs.Words.{Word, words}
use Rattle.fx_c_parse.specs.Expressions.{levels}
use Rattle.fx_c_parse.specs.Grammar.{IsBase, void_base, signed_base, unsigned_alone, unsigned_integer, struct_base, IsStars, no_star, one_star, IsDims, no_dim, one_dim, IsPointerType, pointer_type, IsPrimary, number, character, string, variable, parentheses, call, size, gate, putc, getc, device_load, device_store, spawn, switch, me, IsPostfix, no_suffix, index, member, arrow, IsUnary, no_sign, sign, cast, IsBinary, operand, tighter, joined, IsArguments, no_argument, arguments, IsMore, no_more, more, IsExpression, nested}
use Rattle.fx_c_parse.specs.Phrases.{IsDeclarator, declarator, IsValue, no_value, some_value, IsMaybeExpression, no_expression, some_expression, IsSimple, evaluation, assignment, IsMaybeSimple, no_simple, some_simple, IsStatement, empty, block, local, simple, conditional, alternative, repetition, counted, break, continue, return, IsStatements, no_statement, statements}
use Rattle.fx_c_parse.specs.Units.{IsList, no_item, next_item, IsMember, struct_member, IsParameter, parameter, IsNextParameter, next_parameter, IsParameters, no_parameter, void_alone, parameters, IsDeclaration, structure, global, function}
use Rattle.fx_c_parse.specs.Exact.{IsTextOf}
use Rattle.fx_c_types_model.specs.Fits.{IsDeviceRegister}

-- a type without arrays: a base and stars
abbrev pub IsBare : TypeTree → Type 0
IsBare VoidType = Unit {0}
IsBare (IntegerType i) = Unit {0}
IsBare (StructType tag) = Unit {0}
IsBare (PointerType t) = IsBare t
IsBare (ArrayType t count) = ⊥

-- no array stands behind a pointer
abbrev pub IsDeclared : TypeTree → Type 0
IsDeclared VoidType = Unit {0}
IsDeclared (IntegerType i) = Unit {0}
IsDeclared (StructType tag) = Unit {0}
IsDeclared (PointerType t) = IsBare t
IsDeclared (ArrayType t count) = IsDeclared t

abbrev mutual
  pub Written : ExprTree → Type 0
  Written (NumberTree value ty) = Unit {0}
  Written (TextTree bytes) = Unit {0}
  Written (VarTree name) = Unit {0}
  Written (UnTree op e) = Written e
  Written (BinTree op e f) = Written e × Written f
  Written (CastTree t e) = IsBare t × Written e
  Written (SizeTree t) = Unit {0}
  Written (IndexTree e f) = Written e × Written f
  Written (MemberTree e name) = Written e
  Written (ArrowTree e name) = Written e
  Written (CallTree name all) = AllWritten all
  Written (GateTree name all) = AllWritten all
  Written GetcTree = Unit {0}
  Written (PutcTree e) = Written e
  Written (DevLoadTree device register) = IsDeviceRegister device register
  Written (DevStoreTree device register e) = IsDeviceRegister device register × Written e
  Written (SpawnTree name e) = Written e
  Written (SwitchTree e) = Written e
  Written MeTree = Unit {0}

  pub AllWritten : ExprTrees → Type 0
  AllWritten NoExprs = Unit {0}
  AllWritten (MoreExprs e rest) = Written e × AllWritten rest

abbrev pub ValueWritten : Option ExprTree → Type 0
ValueWritten None = Unit {0}
ValueWritten (Some e) = Written e

abbrev mutual
  pub WrittenIn : StmtTree → Type 0
  WrittenIn EmptyTree = Unit {0}
  WrittenIn (BlockTree all) = WrittenInAll all
  WrittenIn (LocalTree shared t name init) = IsDeclared t × ValueWritten init
  WrittenIn (EvalTree e) = Written e
  WrittenIn (AssignTree to e) = Written to × Written e
  WrittenIn (IfTree test one other) = Written test × WrittenIn one × WrittenInMaybe other
  WrittenIn (WhileTree test body) = Written test × WrittenIn body
  WrittenIn (ForTree first test next body) = WrittenInMaybe first × ValueWritten test × WrittenInMaybe next × WrittenIn body
  WrittenIn BreakTree = Unit {0}
  WrittenIn ContinueTree = Unit {0}
  WrittenIn (ReturnTree e) = ValueWritten e

  pub WrittenInMaybe : MaybeStmt → Type 0
  WrittenInMaybe Absent = Unit {0}
  WrittenInMaybe (Present s) = WrittenIn s

  pub WrittenInAll : StmtTrees → Type 0
  WrittenInAll NoStmts = Unit {0}
  WrittenInAll (MoreStmts s rest) = WrittenIn s × WrittenInAll rest

abbrev pub AreMembers : List (TypeTree × List ℕ) → Type 0
AreMembers [] = Unit {0}
AreMembers (m ∷ ms) = IsDeclared m.0 × AreMembers ms

-- a struct has a member at least
abbrev pub AreSome : List (TypeTree × List ℕ) → Type 0
AreSome [] = ⊥
AreSome (m ∷ ms) = Unit {0}

abbrev pub AreParameters : List ParamTree → Type 0
AreParameters [] = Unit {0}
AreParameters (p ∷ ps) = IsBare p.ty × AreParameters ps

abbrev pub IsWritten : DeclTree → Type 0
IsWritten (StructTree name members) = AreSome members × AreMembers members
IsWritten (GlobalTree grant readers t name init) = IsDeclared t
IsWritten (FunctionTree entry answer name params body) = IsBare answer × AreParameters params × WrittenInAll body

abbrev pub AreWritten : List DeclTree → Type 0
AreWritten [] = Unit {0}
AreWritten (d ∷ ds) = IsWritten d × AreWritten ds

-- ---- types

base_bare : (ws : List Word) (t : TypeTree) (rest : List Word) → IsBase ws t rest → IsBare t
base_bare _ _ _ void_base = tt
base_bare _ _ _ (signed_base is) = tt
base_bare _ _ _ unsigned_alone = tt
base_bare _ _ _ (unsigned_integer is) = tt
base_bare _ _ _ struct_base = tt

stars_bare : (n : ℕ) (ws : List Word) (t u : TypeTree) (rest : List Word) → IsStars n ws t u rest → IsBare t → IsBare u
stars_bare _ _ _ _ _ no_star bare = bare
stars_bare _ _ _ _ _ (one_star {n} {a} {t} {u} {rest} is) bare = stars_bare n a (PointerType t) u rest is bare

pointer_bare : (n : ℕ) (ws : List Word) (t : TypeTree) (rest : List Word) → IsPointerType n ws t rest → IsBare t
pointer_bare _ _ _ _ (pointer_type {n} {ws} {a} {t} {u} {rest} base stars) = stars_bare n a t u rest stars (base_bare ws t a base)

bare_declared : (t : TypeTree) → IsBare t → IsDeclared t
bare_declared VoidType bare = tt
bare_declared (IntegerType i) bare = tt
bare_declared (StructType tag) bare = tt
bare_declared (PointerType t) bare = bare
bare_declared (ArrayType t count) bare = absurd bare

dims_declared : (n : ℕ) (ws : List Word) (t u : TypeTree) (rest : List Word) → IsDims n ws t u rest → IsDeclared t → IsDeclared u
dims_declared _ _ _ _ _ no_dim is = is
dims_declared _ _ _ _ _ (one_dim {n} {count} {ty} {a} {t} {u} {rest} lt dims) is = dims_declared n a t u rest dims is

declarator_declared : (ws : List Word) (t : TypeTree) (name : List ℕ) (rest : List Word) → IsDeclarator ws t name rest → IsDeclared t
declarator_declared _ _ _ _ (declarator {n} {m} {ws} {a} {t} {u} {name} {rest} pointer dims le) = dims_declared m a t u rest dims (bare_declared t (pointer_bare n ws t _ pointer))

-- ---- expressions

in_range : (d r : ℕ) → d < 16 → r < 512 → IsDeviceRegister d r
in_range d r device register = (omega (arith, device), omega (arith, register))

mutual
  primary_written : (ws : List Word) (x : ExprTree) (h : ℕ) (rest : List Word) → IsPrimary ws x h rest → Written x
  primary_written _ _ _ _ number = tt
  primary_written _ _ _ _ character = tt
  primary_written _ _ _ _ string = tt
  primary_written _ _ _ _ variable = tt
  primary_written _ _ _ _ (parentheses {a} {x} {h} {rest} is) = binary_written levels a x h _ is
  primary_written _ _ _ _ (call {f} {a} {xs} {h} {rest} is) = arguments_written a xs h _ is
  primary_written _ _ _ _ (gate {f} {a} {xs} {h} {rest} is) = more_written a xs h _ is
  primary_written _ _ _ _ (putc {a} {x} {h} {rest} is) = binary_written levels a x h _ is
  primary_written _ _ _ _ getc = tt
  primary_written _ _ _ _ (device_load {d} {r} p q) = in_range d r p q
  primary_written _ _ _ _ (device_store {d} {r} {t} {u} {a} {x} {h} {rest} p q is) = (in_range d r p q, binary_written levels a x h _ is)
  primary_written _ _ _ _ (spawn {f} {a} {x} {h} {rest} is) = binary_written levels a x h _ is
  primary_written _ _ _ _ (switch {a} {x} {h} {rest} is) = binary_written levels a x h _ is
  primary_written _ _ _ _ me = tt

  postfix_written : (ws : List Word) (x : ExprTree) (h : ℕ) (rest : List Word) → IsPostfix ws x h rest → Written x
  postfix_written _ _ _ _ (no_suffix {ws} {x} {h} {rest} is) = primary_written ws x h rest is
  postfix_written _ _ _ _ (index {ws} {a} {x} {y} {h} {k} {rest} left right) = (postfix_written ws x h _ left, binary_written levels a y k _ right)
  postfix_written _ _ _ _ (member {ws} {x} {h} {name} {rest} is) = postfix_written ws x h _ is
  postfix_written _ _ _ _ (arrow {ws} {x} {h} {name} {rest} is) = postfix_written ws x h _ is

  unary_written : (ws : List Word) (x : ExprTree) (h : ℕ) (rest : List Word) → IsUnary ws x h rest → Written x
  unary_written _ _ _ _ (no_sign {ws} {x} {h} {rest} is) = postfix_written ws x h rest is
  unary_written _ _ _ _ (sign {s} {op} {a} {x} {h} {rest} e is) = unary_written a x h rest is
  unary_written _ _ _ _ (cast {n} {a} {c} {t} {x} {h} {rest} pointer le is) = (pointer_bare n a t _ pointer, unary_written c x h rest is)
  unary_written _ _ _ _ (size {n} {m} {a} {c} {t} {u} {rest} pointer dims le) = tt

  binary_written : (level : ℕ) (ws : List Word) (x : ExprTree) (h : ℕ) (rest : List Word) → IsBinary level ws x h rest → Written x
  binary_written _ _ _ _ _ (operand {ws} {x} {h} {rest} is) = unary_written ws x h rest is
  binary_written _ _ _ _ _ (tighter {level} {ws} {x} {h} {rest} is) = binary_written level ws x h rest is
  binary_written _ _ _ _ _ (joined {level} {s} {op} {ws} {a} {x} {y} {h} {k} {rest} left e right) = (binary_written (suc level) ws x h _ left, binary_written level a y k rest right)

  arguments_written : (ws : List Word) (xs : ExprTrees) (h : ℕ) (rest : List Word) → IsArguments ws xs h rest → AllWritten xs
  arguments_written _ _ _ _ no_argument = tt
  arguments_written _ _ _ _ (arguments {ws} {a} {x} {xs} {h} {k} {rest} first others) = (binary_written levels ws x h a first, more_written a xs k rest others)

  more_written : (ws : List Word) (xs : ExprTrees) (h : ℕ) (rest : List Word) → IsMore ws xs h rest → AllWritten xs
  more_written _ _ _ _ no_more = tt
  more_written _ _ _ _ (more {a} {c} {x} {xs} {h} {k} {rest} first others) = (binary_written levels a x h c first, more_written c xs k rest others)

expression_written : (ws : List Word) (x : ExprTree) (rest : List Word) → IsExpression ws x rest → Written x
expression_written _ _ _ (nested {ws} {x} {h} {rest} is le) = binary_written levels ws x h rest is

-- ---- statements

value_written : (ws : List Word) (v : Option ExprTree) (rest : List Word) → IsValue ws v rest → ValueWritten v
value_written _ _ _ no_value = tt
value_written _ _ _ (some_value {a} {x} {rest} is) = expression_written a x rest is

maybe_expression_written : (ws : List Word) (v : Option ExprTree) (rest : List Word) → IsMaybeExpression ws v rest → ValueWritten v
maybe_expression_written _ _ _ no_expression = tt
maybe_expression_written _ _ _ (some_expression {ws} {x} {rest} is) = expression_written ws x rest is

simple_written : (ws : List Word) (s : StmtTree) (rest : List Word) → IsSimple ws s rest → WrittenIn s
simple_written _ _ _ (evaluation {ws} {x} {rest} is) = expression_written ws x rest is
simple_written _ _ _ (assignment {ws} {a} {x} {y} {rest} to is) = (expression_written ws x _ to, expression_written a y rest is)

maybe_simple_written : (ws : List Word) (s : MaybeStmt) (rest : List Word) → IsMaybeSimple ws s rest → WrittenInMaybe s
maybe_simple_written _ _ _ no_simple = tt
maybe_simple_written _ _ _ (some_simple {ws} {s} {rest} is) = simple_written ws s rest is

mutual
  statement_written : (ws : List Word) (s : StmtTree) (h : ℕ) (open_end : Bool) (rest : List Word) → IsStatement ws s h open_end rest → WrittenIn s
  statement_written _ _ _ _ _ empty = tt
  statement_written _ _ _ _ _ (block {a} {ss} {h} {rest} is) = statements_written a ss h _ is
  statement_written _ _ _ _ _ (local {ws} {a} {c} {s} {t} {name} {v} {rest} mark declared value) = (declarator_declared a t name c declared, value_written c v _ value)
  statement_written _ _ _ _ _ (simple {ws} {s} {rest} is) = simple_written ws s _ is
  statement_written _ _ _ _ _ (conditional {a} {c} {x} {s} {h} {open_end} {rest} test one) = (expression_written a x _ test, statement_written c s h open_end rest one, tt)
  statement_written _ _ _ _ _ (alternative {a} {c} {d} {x} {s} {o} {h} {k} {open_end} {rest} test one two) = (expression_written a x _ test, statement_written c s h _ _ one, statement_written d o k open_end rest two)
  statement_written _ _ _ _ _ (repetition {a} {c} {x} {s} {h} {open_end} {rest} test body) = (expression_written a x _ test, statement_written c s h open_end rest body)
  statement_written _ _ _ _ _ (counted {a} {c} {d} {e} {first} {next} {x} {s} {h} {open_end} {rest} begins test steps body) = (maybe_simple_written a first _ begins, maybe_expression_written c x _ test, maybe_simple_written d next _ steps, statement_written e s h open_end rest body)
  statement_written _ _ _ _ _ break = tt
  statement_written _ _ _ _ _ continue = tt
  statement_written _ _ _ _ _ (return {a} {x} {rest} is) = maybe_expression_written a x _ is

  statements_written : (ws : List Word) (ss : StmtTrees) (h : ℕ) (rest : List Word) → IsStatements ws ss h rest → WrittenInAll ss
  statements_written _ _ _ _ no_statement = tt
  statements_written _ _ _ _ (statements {ws} {a} {s} {ss} {h} {k} {open_end} {rest} first others) = (statement_written ws s h open_end a first, statements_written a ss k rest others)

-- ---- declarations

member_declared : (ws : List Word) (m : TypeTree × List ℕ) (rest : List Word) → IsMember ws m rest → IsDeclared m.0
member_declared _ _ _ (struct_member {ws} {t} {name} {rest} is) = declarator_declared ws t name _ is

members_declared : (ws : List Word) (ms : List (TypeTree × List ℕ)) (rest : List Word) → IsList IsMember ws ms rest → AreMembers ms
members_declared _ _ _ no_item = tt
members_declared _ _ _ (next_item {ws} {a} {x} {xs} {rest} first others) = (member_declared ws x a first, members_declared a xs rest others)

parameter_bare : (ws : List Word) (p : ParamTree) (rest : List Word) → IsParameter ws p rest → IsBare p.ty
parameter_bare _ _ _ (parameter {n} {ws} {a} {s} {t} {name} {rest} mark pointer le) = pointer_bare n a t _ pointer

next_parameter_bare : (ws : List Word) (p : ParamTree) (rest : List Word) → IsNextParameter ws p rest → IsBare p.ty
next_parameter_bare _ _ _ (next_parameter {a} {p} {rest} is) = parameter_bare a p rest is

next_parameters_bare : (ws : List Word) (ps : List ParamTree) (rest : List Word) → IsList IsNextParameter ws ps rest → AreParameters ps
next_parameters_bare _ _ _ no_item = tt
next_parameters_bare _ _ _ (next_item {ws} {a} {x} {xs} {rest} first others) = (next_parameter_bare ws x a first, next_parameters_bare a xs rest others)

parameters_bare : (ws : List Word) (ps : List ParamTree) (rest : List Word) → IsParameters ws ps rest → AreParameters ps
parameters_bare _ _ _ no_parameter = tt
parameters_bare _ _ _ void_alone = tt
parameters_bare _ _ _ (parameters {ws} {a} {p} {ps} {rest} first others) = (parameter_bare ws p a first, next_parameters_bare a ps rest others)

declaration_written : (ws : List Word) (d : DeclTree) (rest : List Word) → IsDeclaration ws d rest → IsWritten d
declaration_written _ _ _ (structure {a} {b} {name} {m} {ms} {rest} first others) = (tt, (member_declared a m b first, members_declared b ms _ others))
declaration_written _ _ _ (global {ws} {a} {b} {c} {g} {r} {t} {name} {i} {rest} writers readers declared begins) = declarator_declared b t name c declared
declaration_written _ _ _ (function {n} {h} {ws} {a} {b} {c} {e} {t} {name} {ps} {ss} {rest} mark pointer le heads body within) = (pointer_bare n a t _ pointer, parameters_bare b ps _ heads, statements_written c ss h _ body)

unit_written : (ws : List Word) (ds : List DeclTree) (rest : List Word) → IsList IsDeclaration ws ds rest → AreWritten ds
unit_written _ _ _ no_item = tt
unit_written _ _ _ (next_item {ws} {a} {x} {xs} {rest} first others) = (declaration_written ws x a first, unit_written a xs rest others)

pub text_written : (text : List ℕ) (ds : List DeclTree) → IsTextOf text ds → AreWritten ds
text_written text ds is = unit_written (words text is.0) ds [] is.2
