-- The names in the declarations of a text are C names.
use Rattle.std.proofs.Common.{◌≡◌, ◌<◌, ◌≤◌, ℕ, suc, ◌-◌, Bool, true, ◌&&◌, List, [], ◌∷◌, ◌++◌}
use Rattle.std.proofs.Common.{length, take, drop, Option, Some, ap, ◌∙◌, arith}
use Rattle.std.specs.Prelude.{nat_le, slice_range}
use Rattle.std.proofs.lemmas.Bool.{and_from, le-leb, cond-true}
use Rattle.fx_c_ast.specs.declared.parsed.Decl.{Decl}
use Rattle.fx_c_ast.specs.declared.parsed.Grant.{Grant}
use Rattle.fx_c_ast.specs.declared.parsed.Init.{Init}
use Rattle.fx_c_ast.specs.ParsedTrees.{TypeTree, PointerType, ExprTree, ExprTrees, StmtTree}
use Rattle.fx_c_ast.specs.ParsedTrees.{StmtTrees, MaybeStmt, ParamTree, DeclTree, StructTree}
use Rattle.fx_c_ast.specs.ParsedTrees.{GlobalTree, FunctionTree, decl_trees}
use Rattle.fx_c_lex.specs.declared.token.Token.{Token}
use Rattle.fx_c_lex.specs.declared.token.TokenKind.{TokenKind}
use Rattle.fx_c_lex.specs.declared.token.TokenKind.TheVariants as kind
use Rattle.fx_c_lex.specs.Lexis.{meaning}
use Rattle.fx_c_lex.specs.Laws.{IsTokenOf, InOrder}
use Rattle.fx_c_parse.specs.Words.{Word, NameWord, KeywordWord, NumberWord, CharWord, TextWord}
use Rattle.fx_c_parse.specs.Words.{SignWord, name_bytes, kind_word, word_of, words}
use Rattle.fx_c_parse.specs.Expressions.{levels}
use Rattle.fx_c_parse.specs.Grammar.{IsBase, void_base, signed_base, unsigned_alone}
use Rattle.fx_c_parse.specs.Grammar.{unsigned_integer, struct_base, IsStars, no_star, one_star}
use Rattle.fx_c_parse.specs.Grammar.{IsDims, no_dim, one_dim, IsPointerType, pointer_type}
use Rattle.fx_c_parse.specs.Grammar.{IsPrimary, number, character, string, variable, parentheses}
use Rattle.fx_c_parse.specs.Grammar.{call, size, gate, putc, getc, device_load, device_store, spawn}
use Rattle.fx_c_parse.specs.Grammar.{switch, me, IsPostfix, no_suffix, index, member, arrow}
use Rattle.fx_c_parse.specs.Grammar.{IsUnary, no_sign, sign, cast, IsBinary, operand, tighter}
use Rattle.fx_c_parse.specs.Grammar.{joined, IsArguments, no_argument, arguments, IsMore, no_more}
use Rattle.fx_c_parse.specs.Grammar.{more, IsExpression, nested}
use Rattle.fx_c_parse.specs.Phrases.{IsDeclarator, declarator, IsShared, unshared, shared, IsValue}
use Rattle.fx_c_parse.specs.Phrases.{no_value, some_value, IsMaybeExpression, no_expression}
use Rattle.fx_c_parse.specs.Phrases.{some_expression, IsSimple, evaluation, assignment}
use Rattle.fx_c_parse.specs.Phrases.{IsMaybeSimple, no_simple, some_simple, IsStatement, empty}
use Rattle.fx_c_parse.specs.Phrases.{block, local, simple, conditional, alternative, repetition}
use Rattle.fx_c_parse.specs.Phrases.{counted, break, continue, return, IsStatements, no_statement}
use Rattle.fx_c_parse.specs.Phrases.{statements}
use Rattle.fx_c_parse.specs.Units.{IsList, no_item, next_item, IsMember, struct_member, IsNextName}
use Rattle.fx_c_parse.specs.Units.{next_name, IsGrant, no_grant, grant_all, grant_some, IsInitial}
use Rattle.fx_c_parse.specs.Units.{no_initial, negative, positive, byte_value, text_value, IsEntry}
use Rattle.fx_c_parse.specs.Units.{no_entry, entry, IsParameter, parameter, IsNextParameter}
use Rattle.fx_c_parse.specs.Units.{next_parameter, IsParameters, no_parameter, void_alone}
use Rattle.fx_c_parse.specs.Units.{parameters, IsDeclaration, structure, global, function}
use Rattle.fx_c_parse.specs.Exact.{IsTextOf}
use Rattle.fx_image.specs.Rules as image
use Rattle.fx_c_types.specs.declared.program.SourceFile.{SourceFile}
use Rattle.fx_c_types.specs.Programs.{PlacedDecl}
use Rattle.fx_c_types.specs.ProgramView.{placed_in, declarations}
use Rattle.fx_c_types_texts_law.specs.Texts.{AreFilesOf}
use Rattle.fx_given_law.proofs.Spelled.{name_spelled}

-- a word that is a name is a C name
abbrev IsNamed : Word → Type 0
IsNamed (NameWord bytes) = image.is_c_name bytes ≡ true
IsNamed (KeywordWord keyword) = Unit {0}
IsNamed (NumberWord value ty) = Unit {0}
IsNamed (CharWord byte) = Unit {0}
IsNamed (TextWord bytes) = Unit {0}
IsNamed (SignWord punctuation) = Unit {0}

abbrev AreNamed : List Word → Type 0
AreNamed [] = Unit {0}
AreNamed (w ∷ ws) = IsNamed w × AreNamed ws

-- ---- the words of a text

kind_named : (bytes : List ℕ) (k : TokenKind) → meaning bytes ≡ Some k → IsNamed (kind_word bytes k)
kind_named bytes kind.Name is = name_spelled bytes is
kind_named bytes (kind.Keyword keyword) is = tt
kind_named bytes (kind.Number value unsigned long) is = tt
kind_named bytes (kind.Char byte) is = tt
kind_named bytes (kind.Text contents) is = tt
kind_named bytes (kind.Sign punctuation) is = tt

bytes_are : (text : List ℕ) (start end : ℕ) → start < end → end ≤ length text
    → name_bytes text start end ≡ take (end - start) (drop start text)
bytes_are text start end less within =
    cond-true (nat_le start end && nat_le end (length text)) (slice_range text start end) []
    (and_from (nat_le start end) (nat_le end (length text)) (le-leb start end (omega (arith, less)))
    (le-leb end (length text) within))

word_named : (text : List ℕ) (t : Token) → IsTokenOf text t → IsNamed (word_of text t)
word_named text t is =
    kind_named (name_bytes text t.start t.end) t.kind
    (ap meaning (bytes_are text t.start t.end is.some is.within) ∙ is.means)

words_named : (text : List ℕ) (at : ℕ) (ts : List Token) → InOrder text at ts
    → AreNamed (words text ts)
words_named text at [] order = tt
words_named text at (t ∷ ts) order =
    (word_named text t order.2, words_named text t.end ts order.3)

-- ---- what stands behind a phrase

base_keeps : (ws : List Word) (t : TypeTree) (rest : List Word) → IsBase ws t rest
    → AreNamed ws → AreNamed rest
base_keeps _ _ _ void_base all = all.1
base_keeps _ _ _ (signed_base is) all = all.1
base_keeps _ _ _ unsigned_alone all = all.1
base_keeps _ _ _ (unsigned_integer is) all = all.1.1
base_keeps _ _ _ struct_base all = all.1.1

stars_keep : (n : ℕ) (ws : List Word) (t u : TypeTree) (rest : List Word) → IsStars n ws t u rest
    → AreNamed ws → AreNamed rest
stars_keep _ _ _ _ _ no_star all = all
stars_keep _ _ _ _ _ (one_star {n} {a} {t} {u} {rest} is) all =
    stars_keep n a (PointerType t) u rest is all.1

dims_keep : (n : ℕ) (ws : List Word) (t u : TypeTree) (rest : List Word) → IsDims n ws t u rest
    → AreNamed ws → AreNamed rest
dims_keep _ _ _ _ _ no_dim all = all
dims_keep _ _ _ _ _ (one_dim {n} {count} {ty} {a} {t} {u} {rest} lt dims) all =
    dims_keep n a t u rest dims all.1.1.1

pointer_keeps : (n : ℕ) (ws : List Word) (t : TypeTree) (rest : List Word)
    → IsPointerType n ws t rest → AreNamed ws → AreNamed rest
pointer_keeps _ _ _ _ (pointer_type {n} {ws} {a} {t} {u} {rest} base stars) all =
    stars_keep n a t u rest stars (base_keeps ws t a base all)

mutual
  primary_keeps : (ws : List Word) (x : ExprTree) (h : ℕ) (rest : List Word) → IsPrimary ws x h rest
      → AreNamed ws → AreNamed rest
  primary_keeps _ _ _ _ number all = all.1
  primary_keeps _ _ _ _ character all = all.1
  primary_keeps _ _ _ _ string all = all.1
  primary_keeps _ _ _ _ variable all = all.1
  primary_keeps _ _ _ _ (parentheses {a} {x} {h} {rest} is) all =
      (binary_keeps levels a x h _ is all.1).1
  primary_keeps _ _ _ _ (call {f} {a} {xs} {h} {rest} is) all =
      (arguments_keep a xs h _ is all.1.1).1
  primary_keeps _ _ _ _ (gate {f} {a} {xs} {h} {rest} is) all = (more_keep a xs h _ is all.1.1.1).1
  primary_keeps _ _ _ _ (putc {a} {x} {h} {rest} is) all =
      (binary_keeps levels a x h _ is all.1.1).1
  primary_keeps _ _ _ _ getc all = all.1.1.1
  primary_keeps _ _ _ _ (device_load d r) all = all.1.1.1.1.1.1
  primary_keeps _ _ _ _ (device_store {d} {r} {t} {u} {a} {x} {h} {rest} p q is) all =
      (binary_keeps levels a x h _ is all.1.1.1.1.1.1).1
  primary_keeps _ _ _ _ (spawn {f} {a} {x} {h} {rest} is) all =
      (binary_keeps levels a x h _ is all.1.1.1.1).1
  primary_keeps _ _ _ _ (switch {a} {x} {h} {rest} is) all =
      (binary_keeps levels a x h _ is all.1.1).1
  primary_keeps _ _ _ _ me all = all.1.1.1

  postfix_keeps : (ws : List Word) (x : ExprTree) (h : ℕ) (rest : List Word) → IsPostfix ws x h rest
      → AreNamed ws → AreNamed rest
  postfix_keeps _ _ _ _ (no_suffix {ws} {x} {h} {rest} is) all = primary_keeps ws x h rest is all
  postfix_keeps _ _ _ _ (index {ws} {a} {x} {y} {h} {k} {rest} left right) all =
      (binary_keeps levels a y k _ right (postfix_keeps ws x h _ left all).1).1
  postfix_keeps _ _ _ _ (member {ws} {x} {h} {name} {rest} is) all =
      (postfix_keeps ws x h _ is all).1.1
  postfix_keeps _ _ _ _ (arrow {ws} {x} {h} {name} {rest} is) all =
      (postfix_keeps ws x h _ is all).1.1

  unary_keeps : (ws : List Word) (x : ExprTree) (h : ℕ) (rest : List Word) → IsUnary ws x h rest
      → AreNamed ws → AreNamed rest
  unary_keeps _ _ _ _ (no_sign {ws} {x} {h} {rest} is) all = postfix_keeps ws x h rest is all
  unary_keeps _ _ _ _ (sign {s} {op} {a} {x} {h} {rest} e is) all = unary_keeps a x h rest is all.1
  unary_keeps _ _ _ _ (cast {n} {a} {c} {t} {x} {h} {rest} pointer le is) all =
      unary_keeps c x h rest is (pointer_keeps n a t _ pointer all.1).1
  unary_keeps _ _ _ _ (size {n} {m} {a} {c} {t} {u} {rest} pointer dims le) all =
      (dims_keep m c t u _ dims (pointer_keeps n a t c pointer all.1.1)).1

  binary_keeps : (level : ℕ) (ws : List Word) (x : ExprTree) (h : ℕ) (rest : List Word)
      → IsBinary level ws x h rest → AreNamed ws → AreNamed rest
  binary_keeps _ _ _ _ _ (operand {ws} {x} {h} {rest} is) all = unary_keeps ws x h rest is all
  binary_keeps _ _ _ _ _ (tighter {level} {ws} {x} {h} {rest} is) all =
      binary_keeps level ws x h rest is all
  binary_keeps _ _ _ _ _
      (joined {level} {s} {op} {ws} {a} {x} {y} {h} {k} {rest} left e right) all =
      binary_keeps level a y k rest right (binary_keeps (suc level) ws x h _ left all).1

  arguments_keep : (ws : List Word) (xs : ExprTrees) (h : ℕ) (rest : List Word)
      → IsArguments ws xs h rest → AreNamed ws → AreNamed rest
  arguments_keep _ _ _ _ no_argument all = all
  arguments_keep _ _ _ _ (arguments {ws} {a} {x} {xs} {h} {k} {rest} first others) all =
      more_keep a xs k rest others (binary_keeps levels ws x h a first all)

  more_keep : (ws : List Word) (xs : ExprTrees) (h : ℕ) (rest : List Word) → IsMore ws xs h rest
      → AreNamed ws → AreNamed rest
  more_keep _ _ _ _ no_more all = all
  more_keep _ _ _ _ (more {a} {c} {x} {xs} {h} {k} {rest} first others) all =
      more_keep c xs k rest others (binary_keeps levels a x h c first all.1)

expression_keeps : (ws : List Word) (x : ExprTree) (rest : List Word) → IsExpression ws x rest
    → AreNamed ws → AreNamed rest
expression_keeps _ _ _ (nested {ws} {x} {h} {rest} is le) all =
    binary_keeps levels ws x h rest is all

-- ---- statements

declarator_keeps : (ws : List Word) (t : TypeTree) (name : List ℕ) (rest : List Word)
    → IsDeclarator ws t name rest → AreNamed ws → AreNamed rest
declarator_keeps _ _ _ _ (declarator {n} {m} {ws} {a} {t} {u} {name} {rest} pointer dims le) all =
    dims_keep m a t u rest dims (pointer_keeps n ws t _ pointer all).1

declarator_named : (ws : List Word) (t : TypeTree) (name : List ℕ) (rest : List Word)
    → IsDeclarator ws t name rest → AreNamed ws → image.is_c_name name ≡ true
declarator_named _ _ _ _ (declarator {n} {m} {ws} {a} {t} {u} {name} {rest} pointer dims le) all =
    (pointer_keeps n ws t _ pointer all).0

shared_keeps : (ws : List Word) (s : Bool) (rest : List Word) → IsShared ws s rest
    → AreNamed ws → AreNamed rest
shared_keeps _ _ _ unshared all = all
shared_keeps _ _ _ shared all = all.1

value_keeps : (ws : List Word) (v : Option ExprTree) (rest : List Word) → IsValue ws v rest
    → AreNamed ws → AreNamed rest
value_keeps _ _ _ no_value all = all
value_keeps _ _ _ (some_value {a} {x} {rest} is) all = expression_keeps a x rest is all.1

maybe_expression_keeps : (ws : List Word) (v : Option ExprTree) (rest : List Word)
    → IsMaybeExpression ws v rest → AreNamed ws → AreNamed rest
maybe_expression_keeps _ _ _ no_expression all = all
maybe_expression_keeps _ _ _ (some_expression {ws} {x} {rest} is) all =
    expression_keeps ws x rest is all

simple_keeps : (ws : List Word) (s : StmtTree) (rest : List Word) → IsSimple ws s rest
    → AreNamed ws → AreNamed rest
simple_keeps _ _ _ (evaluation {ws} {x} {rest} is) all = expression_keeps ws x rest is all
simple_keeps _ _ _ (assignment {ws} {a} {x} {y} {rest} to is) all =
    expression_keeps a y rest is (expression_keeps ws x _ to all).1

maybe_simple_keeps : (ws : List Word) (s : MaybeStmt) (rest : List Word) → IsMaybeSimple ws s rest
    → AreNamed ws → AreNamed rest
maybe_simple_keeps _ _ _ no_simple all = all
maybe_simple_keeps _ _ _ (some_simple {ws} {s} {rest} is) all = simple_keeps ws s rest is all

mutual
  statement_keeps : (ws : List Word) (s : StmtTree) (h : ℕ) (open_end : Bool) (rest : List Word)
      → IsStatement ws s h open_end rest → AreNamed ws → AreNamed rest
  statement_keeps _ _ _ _ _ empty all = all.1
  statement_keeps _ _ _ _ _ (block {a} {ss} {h} {rest} is) all =
      (statements_keep a ss h _ is all.1).1
  statement_keeps _ _ _ _ _
      (local {ws} {a} {c} {s} {t} {name} {v} {rest} mark declared value) all =
      (value_keeps c v _ value
      (declarator_keeps a t name c declared (shared_keeps ws s a mark all))).1
  statement_keeps _ _ _ _ _ (simple {ws} {s} {rest} is) all = (simple_keeps ws s _ is all).1
  statement_keeps _ _ _ _ _ (conditional {a} {c} {x} {s} {h} {open_end} {rest} test one) all =
      statement_keeps c s h open_end rest one (expression_keeps a x _ test all.1.1).1
  statement_keeps _ _ _ _ _
      (alternative {a} {c} {d} {x} {s} {o} {h} {k} {open_end} {rest} test one two) all =
      statement_keeps d o k open_end rest two
      (statement_keeps c s h _ _ one (expression_keeps a x _ test all.1.1).1).1
  statement_keeps _ _ _ _ _ (repetition {a} {c} {x} {s} {h} {open_end} {rest} test body) all =
      statement_keeps c s h open_end rest body (expression_keeps a x _ test all.1.1).1
  statement_keeps _ _ _ _ _
      (counted {a} {c} {d} {e} {first} {next} {x} {s} {h} {open_end} {rest} begins test steps body)
      all =
      statement_keeps e s h open_end rest body
      (maybe_simple_keeps d next _ steps (maybe_expression_keeps c x _ test
      (maybe_simple_keeps a first _ begins all.1.1).1).1).1
  statement_keeps _ _ _ _ _ break all = all.1.1
  statement_keeps _ _ _ _ _ continue all = all.1.1
  statement_keeps _ _ _ _ _ (return {a} {x} {rest} is) all =
      (maybe_expression_keeps a x _ is all.1).1

  statements_keep : (ws : List Word) (ss : StmtTrees) (h : ℕ) (rest : List Word)
      → IsStatements ws ss h rest → AreNamed ws → AreNamed rest
  statements_keep _ _ _ _ no_statement all = all
  statements_keep _ _ _ _
      (statements {ws} {a} {s} {ss} {h} {k} {open_end} {rest} first others) all =
      statements_keep a ss k rest others (statement_keeps ws s h open_end a first all)

-- ---- declarations

list_keeps : {A : Type 0} (Is : List Word → A → List Word → Type 0)
    → ((ws : List Word) (x : A) (rest : List Word) → Is ws x rest → AreNamed ws → AreNamed rest)
    → (ws : List Word) (xs : List A) (rest : List Word) → IsList Is ws xs rest
    → AreNamed ws → AreNamed rest
list_keeps Is each _ _ _ no_item all = all
list_keeps Is each _ _ _ (next_item {ws} {a} {x} {xs} {rest} first others) all =
    list_keeps Is each a xs rest others (each ws x a first all)

member_keeps : (ws : List Word) (m : TypeTree × List ℕ) (rest : List Word) → IsMember ws m rest
    → AreNamed ws → AreNamed rest
member_keeps _ _ _ (struct_member {ws} {t} {name} {rest} is) all =
    (declarator_keeps ws t name _ is all).1

name_keeps : (ws : List Word) (name : List ℕ) (rest : List Word) → IsNextName ws name rest
    → AreNamed ws → AreNamed rest
name_keeps _ _ _ next_name all = all.1.1

grant_keeps : (word : ℕ) (ws : List Word) (g : Grant) (rest : List Word) → IsGrant word ws g rest
    → AreNamed ws → AreNamed rest
grant_keeps _ _ _ _ no_grant all = all
grant_keeps _ _ _ _ grant_all all = all.1.1.1.1
grant_keeps _ _ _ _ (grant_some {word} {name} {names} {a} {rest} is) all =
    (list_keeps IsNextName name_keeps a names _ is all.1.1.1).1

initial_keeps : (ws : List Word) (i : Init) (rest : List Word) → IsInitial ws i rest
    → AreNamed ws → AreNamed rest
initial_keeps _ _ _ no_initial all = all
initial_keeps _ _ _ negative all = all.1.1.1
initial_keeps _ _ _ positive all = all.1.1
initial_keeps _ _ _ byte_value all = all.1.1
initial_keeps _ _ _ text_value all = all.1.1

entry_keeps : (ws : List Word) (e : Bool) (rest : List Word) → IsEntry ws e rest
    → AreNamed ws → AreNamed rest
entry_keeps _ _ _ no_entry all = all
entry_keeps _ _ _ entry all = all.1

parameter_keeps : (ws : List Word) (p : ParamTree) (rest : List Word) → IsParameter ws p rest
    → AreNamed ws → AreNamed rest
parameter_keeps _ _ _ (parameter {n} {ws} {a} {s} {t} {name} {rest} mark pointer le) all =
    (pointer_keeps n a t _ pointer (shared_keeps ws s a mark all)).1

next_parameter_keeps : (ws : List Word) (p : ParamTree) (rest : List Word)
    → IsNextParameter ws p rest → AreNamed ws → AreNamed rest
next_parameter_keeps _ _ _ (next_parameter {a} {p} {rest} is) all =
    parameter_keeps a p rest is all.1

parameters_keep : (ws : List Word) (ps : List ParamTree) (rest : List Word)
    → IsParameters ws ps rest → AreNamed ws → AreNamed rest
parameters_keep _ _ _ no_parameter all = all
parameters_keep _ _ _ void_alone all = all.1
parameters_keep _ _ _ (parameters {ws} {a} {p} {ps} {rest} first others) all =
    list_keeps IsNextParameter next_parameter_keeps a ps rest others
    (parameter_keeps ws p a first all)

-- a global and a function have a C name
abbrev pub HasName : DeclTree → Type 0
HasName (StructTree name members) = Unit {0}
HasName (GlobalTree grant readers ty name init) = image.is_c_name name ≡ true
HasName (FunctionTree mark answer name params body) = image.is_c_name name ≡ true

declaration_named : (ws : List Word) (d : DeclTree) (rest : List Word) → IsDeclaration ws d rest
    → AreNamed ws → HasName d × AreNamed rest
declaration_named _ _ _ (structure {a} {b} {name} {m} {ms} {rest} first others) all =
    (tt, (list_keeps IsMember member_keeps b ms _ others (member_keeps a m b first all.1.1.1)).1.1)
declaration_named _ _ _
    (global {ws} {a} {b} {c} {g} {r} {t} {name} {i} {rest} writers readers declared initial) all =
    let marked : AreNamed b = grant_keeps _ a r b readers (grant_keeps _ ws g a writers all) in (
      declarator_named b t name c declared marked,
      (initial_keeps c i _ initial (declarator_keeps b t name c declared marked)).1,
    )
declaration_named _ _ _
    (function {n} {h} {ws} {a} {b} {c} {e} {t} {name} {ps} {ss} {rest} mark pointer le heads body
    within)
    all =
    let typed = pointer_keeps n a t _ pointer (entry_keeps ws e a mark all) in (
      typed.0,
      (statements_keep c ss h _ body (parameters_keep b ps _ heads typed.1.1).1.1).1,
    )

abbrev HaveNames : List DeclTree → Type 0
HaveNames [] = Unit {0}
HaveNames (d ∷ ds) = HasName d × HaveNames ds

unit_named : (ws : List Word) (ds : List DeclTree) (rest : List Word)
    → IsList IsDeclaration ws ds rest → AreNamed ws → HaveNames ds
unit_named _ _ _ no_item all = tt
unit_named _ _ _ (next_item {ws} {a} {x} {xs} {rest} first others) all =
    let one = declaration_named ws x a first all in (one.0, unit_named a xs rest others one.1)

text_named : (text : List ℕ) (ds : List DeclTree) → IsTextOf text ds → HaveNames ds
text_named text ds is =
    unit_named (words text is.0) ds [] is.2 (words_named text 0 is.0 is.1)

-- ---- the declarations of files

abbrev pub PlacedHaveNames : List PlacedDecl → Type 0
PlacedHaveNames [] = Unit {0}
PlacedHaveNames (d ∷ ds) = HasName d.decl × PlacedHaveNames ds

placed_named : (library : ℕ) (ds : List Decl) (rest : List PlacedDecl) → HaveNames (decl_trees ds)
    → PlacedHaveNames rest → PlacedHaveNames (placed_in library ds ++ rest)
placed_named library [] rest have after = after
placed_named library (d ∷ ds) rest have after =
    (have.0, placed_named library ds rest have.1 after)

pub files_named : (texts : List (List ℕ)) (files : List SourceFile) → AreFilesOf texts files
    → PlacedHaveNames (declarations files)
files_named [] [] are = tt
files_named [] (f ∷ fs) are = absurd are
files_named (t ∷ ts) [] are = absurd are
files_named (t ∷ ts) (f ∷ fs) are =
    placed_named f.library f.unit.decls (declarations fs)
    (text_named t (decl_trees f.unit.decls) are.0) (files_named ts fs are.1)
