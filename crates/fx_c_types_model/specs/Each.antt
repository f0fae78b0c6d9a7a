-- What holds at each node of the expressions of checked trees.
use Rattle.std.specs.Prelude.{Option, Some, None}
use Rattle.fx_c_ast.specs.CheckedTrees.{TExprTree, ENumber, ELiteral, EGlobal, ELocal, EUn, EBin}
use Rattle.fx_c_ast.specs.CheckedTrees.{ECast, EConvert, ESize, EIndex, EMember, EArrow, ECall}
use Rattle.fx_c_ast.specs.CheckedTrees.{EGate, EGetc, EPutc, EDevLoad, EDevStore, ESpawn, ESwitch}
use Rattle.fx_c_ast.specs.CheckedTrees.{EMe, TExprTrees, NoTExprs, MoreTExprs, TStmtTree, SEmpty}
use Rattle.fx_c_ast.specs.CheckedTrees.{SBlock, SLocal, SEval, SAssign, SIf, SWhile, SFor, SBreak}
use Rattle.fx_c_ast.specs.CheckedTrees.{SContinue, SReturn, TStmtTrees, NoTStmts, MoreTStmts}
use Rattle.fx_c_ast.specs.CheckedTrees.{MaybeTStmt, NoTStmt, OneTStmt}

-- an expression and each expression in it
abbrev mutual
  pub Each : (TExprTree → Type 0) → TExprTree → Type 0
  Each P (ENumber ty value) = P (ENumber ty value)
  Each P (ELiteral ty n) = P (ELiteral ty n)
  Each P (EGlobal ty n) = P (EGlobal ty n)
  Each P (ELocal ty n) = P (ELocal ty n)
  Each P (EUn ty op e) = P (EUn ty op e) × Each P e
  Each P (EBin ty op a b) = P (EBin ty op a b) × Each P a × Each P b
  Each P (ECast ty e) = P (ECast ty e) × Each P e
  Each P (EConvert ty e) = P (EConvert ty e) × Each P e
  Each P (ESize ty of) = P (ESize ty of)
  Each P (EIndex ty a b) = P (EIndex ty a b) × Each P a × Each P b
  Each P (EMember ty e n) = P (EMember ty e n) × Each P e
  Each P (EArrow ty e n) = P (EArrow ty e n) × Each P e
  Each P (ECall ty f all) = P (ECall ty f all) × EachOfAll P all
  Each P (EGate ty f all) = P (EGate ty f all) × EachOfAll P all
  Each P (EGetc ty) = P (EGetc ty)
  Each P (EPutc ty e) = P (EPutc ty e) × Each P e
  Each P (EDevLoad ty device register) = P (EDevLoad ty device register)
  Each P (EDevStore ty device register e) = P (EDevStore ty device register e) × Each P e
  Each P (ESpawn ty f e) = P (ESpawn ty f e) × Each P e
  Each P (ESwitch ty e) = P (ESwitch ty e) × Each P e
  Each P (EMe ty) = P (EMe ty)

  pub EachOfAll : (TExprTree → Type 0) → TExprTrees → Type 0
  EachOfAll P NoTExprs = Unit {0}
  EachOfAll P (MoreTExprs e rest) = Each P e × EachOfAll P rest

abbrev pub EachOfValue : (TExprTree → Type 0) → Option TExprTree → Type 0
EachOfValue P None = Unit {0}
EachOfValue P (Some e) = Each P e

-- each expression in statements
abbrev mutual
  pub EachIn : (TExprTree → Type 0) → TStmtTree → Type 0
  EachIn P SEmpty = Unit {0}
  EachIn P (SBlock all) = EachInAll P all
  EachIn P (SLocal n init) = EachOfValue P init
  EachIn P (SEval e) = Each P e
  EachIn P (SAssign to e) = Each P to × Each P e
  EachIn P (SIf test s other) = Each P test × EachIn P s × EachInMaybe P other
  EachIn P (SWhile test s) = Each P test × EachIn P s
  EachIn P (SFor first test next s) = EachInMaybe P first × EachOfValue P test × EachInMaybe P next × EachIn P s
  EachIn P SBreak = Unit {0}
  EachIn P SContinue = Unit {0}
  EachIn P (SReturn e) = EachOfValue P e

  pub EachInMaybe : (TExprTree → Type 0) → MaybeTStmt → Type 0
  EachInMaybe P NoTStmt = Unit {0}
  EachInMaybe P (OneTStmt s) = EachIn P s

  pub EachInAll : (TExprTree → Type 0) → TStmtTrees → Type 0
  EachInAll P NoTStmts = Unit {0}
  EachInAll P (MoreTStmts s rest) = EachIn P s × EachInAll P rest
