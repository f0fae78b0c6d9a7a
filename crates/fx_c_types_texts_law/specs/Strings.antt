-- How many strings stand in the expressions of a tree, each of which is an object of its own. A string that a
-- global begins with is none.
use Rattle.std.specs.Prelude.{ℕ, ◌+◌, List, [], ◌∷◌, Option, Some, None}
use Rattle.fx_c_ast.specs.ParsedTrees.{ExprTree, NumberTree, TextTree, VarTree, UnTree, BinTree}
use Rattle.fx_c_ast.specs.ParsedTrees.{CastTree, SizeTree, IndexTree, MemberTree, ArrowTree}
use Rattle.fx_c_ast.specs.ParsedTrees.{CallTree, GateTree, GetcTree, PutcTree, DevLoadTree}
use Rattle.fx_c_ast.specs.ParsedTrees.{DevStoreTree, SpawnTree, SwitchTree, MeTree, ExprTrees}
use Rattle.fx_c_ast.specs.ParsedTrees.{NoExprs, MoreExprs, StmtTree, EmptyTree, BlockTree}
use Rattle.fx_c_ast.specs.ParsedTrees.{LocalTree, EvalTree, AssignTree, IfTree, WhileTree, ForTree}
use Rattle.fx_c_ast.specs.ParsedTrees.{BreakTree, ContinueTree, ReturnTree, StmtTrees, NoStmts}
use Rattle.fx_c_ast.specs.ParsedTrees.{MoreStmts, MaybeStmt, Absent, Present, DeclTree, StructTree}
use Rattle.fx_c_ast.specs.ParsedTrees.{GlobalTree, FunctionTree}
use Rattle.fx_c_types.specs.Programs.{PlacedDecl}

abbrev mutual
  pub strings : ExprTree → ℕ
  strings (NumberTree value ty) = 0
  strings (TextTree bytes) = 1
  strings (VarTree name) = 0
  strings (UnTree op e) = strings e
  strings (BinTree op e f) = strings e + strings f
  strings (CastTree t e) = strings e
  strings (SizeTree t) = 0
  strings (IndexTree e f) = strings e + strings f
  strings (MemberTree e name) = strings e
  strings (ArrowTree e name) = strings e
  strings (CallTree name all) = strings_of_all all
  strings (GateTree name all) = strings_of_all all
  strings GetcTree = 0
  strings (PutcTree e) = strings e
  strings (DevLoadTree device register) = 0
  strings (DevStoreTree device register e) = strings e
  strings (SpawnTree name e) = strings e
  strings (SwitchTree e) = strings e
  strings MeTree = 0

  pub strings_of_all : ExprTrees → ℕ
  strings_of_all NoExprs = 0
  strings_of_all (MoreExprs e rest) = strings e + strings_of_all rest

abbrev pub strings_of_value : Option ExprTree → ℕ
strings_of_value None = 0
strings_of_value (Some e) = strings e

abbrev mutual
  pub strings_in : StmtTree → ℕ
  strings_in EmptyTree = 0
  strings_in (BlockTree all) = strings_in_all all
  strings_in (LocalTree shared t name init) = strings_of_value init
  strings_in (EvalTree e) = strings e
  strings_in (AssignTree to e) = strings to + strings e
  strings_in (IfTree test one other) = strings test + (strings_in one + strings_in_maybe other)
  strings_in (WhileTree test body) = strings test + strings_in body
  strings_in (ForTree first test next body) = strings_in_maybe first + (strings_of_value test + (strings_in_maybe next + strings_in body))
  strings_in BreakTree = 0
  strings_in ContinueTree = 0
  strings_in (ReturnTree e) = strings_of_value e

  pub strings_in_maybe : MaybeStmt → ℕ
  strings_in_maybe Absent = 0
  strings_in_maybe (Present s) = strings_in s

  pub strings_in_all : StmtTrees → ℕ
  strings_in_all NoStmts = 0
  strings_in_all (MoreStmts s rest) = strings_in s + strings_in_all rest

abbrev pub declared_strings : DeclTree → ℕ
declared_strings (StructTree name members) = 0
declared_strings (GlobalTree grant readers ty name init) = 0
declared_strings (FunctionTree entry answer name params body) = strings_in_all body

-- the strings of a file's declarations
abbrev pub unit_strings : List DeclTree → ℕ
unit_strings [] = 0
unit_strings (d ∷ ds) = declared_strings d + unit_strings ds

-- the strings of a program's declarations
abbrev pub program_strings : List PlacedDecl → ℕ
program_strings [] = 0
program_strings (d ∷ ds) = declared_strings d.decl + program_strings ds
