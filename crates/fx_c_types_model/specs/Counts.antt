-- How many nodes checked trees have: expressions, with the conversions that are written, and statements.
use Rattle.std.specs.Prelude.{ℕ, ◌+◌, List, [], ◌∷◌, Option, Some, None}
use Rattle.fx_c_ast.specs.declared.checked.TFunction.{TFunction}
use Rattle.fx_c_ast.specs.CheckedTrees.{TExprTree, ENumber, ELiteral, EGlobal, ELocal, EUn, EBin}
use Rattle.fx_c_ast.specs.CheckedTrees.{ECast, EConvert, ESize, EIndex, EMember, EArrow, ECall}
use Rattle.fx_c_ast.specs.CheckedTrees.{EGate, EGetc, EPutc, EDevLoad, EDevStore, ESpawn, ESwitch}
use Rattle.fx_c_ast.specs.CheckedTrees.{EMe, TExprTrees, NoTExprs, MoreTExprs, TStmtTree, SEmpty}
use Rattle.fx_c_ast.specs.CheckedTrees.{SBlock, SLocal, SEval, SAssign, SIf, SWhile, SFor, SBreak}
use Rattle.fx_c_ast.specs.CheckedTrees.{SContinue, SReturn, TStmtTrees, NoTStmts, MoreTStmts}
use Rattle.fx_c_ast.specs.CheckedTrees.{MaybeTStmt, NoTStmt, OneTStmt, tstmt_trees}

abbrev mutual
  pub nodes : TExprTree → ℕ
  nodes (ENumber ty value) = 1
  nodes (ELiteral ty n) = 1
  nodes (EGlobal ty n) = 1
  nodes (ELocal ty n) = 1
  nodes (EUn ty op e) = 1 + nodes e
  nodes (EBin ty op a b) = 1 + (nodes a + nodes b)
  nodes (ECast ty e) = 1 + nodes e
  nodes (EConvert ty e) = 1 + nodes e
  nodes (ESize ty of) = 1
  nodes (EIndex ty a b) = 1 + (nodes a + nodes b)
  nodes (EMember ty e n) = 1 + nodes e
  nodes (EArrow ty e n) = 1 + nodes e
  nodes (ECall ty f all) = 1 + nodes_of_all all
  nodes (EGate ty f all) = 1 + nodes_of_all all
  nodes (EGetc ty) = 1
  nodes (EPutc ty e) = 1 + nodes e
  nodes (EDevLoad ty device register) = 1
  nodes (EDevStore ty device register e) = 1 + nodes e
  nodes (ESpawn ty f e) = 1 + nodes e
  nodes (ESwitch ty e) = 1 + nodes e
  nodes (EMe ty) = 1

  pub nodes_of_all : TExprTrees → ℕ
  nodes_of_all NoTExprs = 0
  nodes_of_all (MoreTExprs e rest) = nodes e + nodes_of_all rest

abbrev pub nodes_of_value : Option TExprTree → ℕ
nodes_of_value None = 0
nodes_of_value (Some e) = nodes e

abbrev mutual
  pub nodes_in : TStmtTree → ℕ
  nodes_in SEmpty = 1
  nodes_in (SBlock all) = 1 + nodes_in_all all
  nodes_in (SLocal n init) = 1 + nodes_of_value init
  nodes_in (SEval e) = 1 + nodes e
  nodes_in (SAssign to e) = 1 + (nodes to + nodes e)
  nodes_in (SIf test s other) = 1 + (nodes test + (nodes_in s + nodes_in_maybe other))
  nodes_in (SWhile test s) = 1 + (nodes test + nodes_in s)
  nodes_in (SFor first test next s) = 1 + (nodes_in_maybe first + (nodes_of_value test + (nodes_in_maybe next + nodes_in s)))
  nodes_in SBreak = 1
  nodes_in SContinue = 1
  nodes_in (SReturn e) = 1 + nodes_of_value e

  pub nodes_in_maybe : MaybeTStmt → ℕ
  nodes_in_maybe NoTStmt = 0
  nodes_in_maybe (OneTStmt s) = nodes_in s

  pub nodes_in_all : TStmtTrees → ℕ
  nodes_in_all NoTStmts = 0
  nodes_in_all (MoreTStmts s rest) = nodes_in s + nodes_in_all rest

-- the nodes of all bodies
abbrev pub body_nodes : List TFunction → ℕ
body_nodes [] = 0
body_nodes (f ∷ fs) = nodes_in_all (tstmt_trees f.body.items) + body_nodes fs
