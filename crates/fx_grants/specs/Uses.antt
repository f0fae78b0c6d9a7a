-- What a function uses that a configuration may refuse: devices, gates and the scheduler's operations.
use Rattle.std.specs.Prelude.{ℕ, List, [], ◌∷◌, ◌++◌, Option, Some, None}
use Rattle.fx_c_ast.specs.CheckedTrees.{TExprTree, ENumber, ELiteral, EGlobal, ELocal, EUn, EBin}
use Rattle.fx_c_ast.specs.CheckedTrees.{ECast, EConvert, ESize, EIndex, EMember, EArrow, ECall}
use Rattle.fx_c_ast.specs.CheckedTrees.{EGate, EGetc, EPutc, EDevLoad, EDevStore, ESpawn, ESwitch}
use Rattle.fx_c_ast.specs.CheckedTrees.{EMe, TExprTrees, NoTExprs, MoreTExprs, TStmtTree, SEmpty}
use Rattle.fx_c_ast.specs.CheckedTrees.{SBlock, SLocal, SEval, SAssign, SIf, SWhile, SFor, SBreak}
use Rattle.fx_c_ast.specs.CheckedTrees.{SContinue, SReturn, TStmtTrees, NoTStmts, MoreTStmts}
use Rattle.fx_c_ast.specs.CheckedTrees.{MaybeTStmt, NoTStmt, OneTStmt}
use Rattle.fx_grants.specs.declared.uses.Use.{Use}
use Rattle.fx_grants.specs.declared.uses.Use.TheVariants.{Device, Gate, Thread}

-- the uses in an expression, in the order of its text; the console is device 0
abbrev mutual
  pub uses : TExprTree → List Use
  uses (ENumber ty value) = []
  uses (ELiteral ty n) = []
  uses (EGlobal ty n) = []
  uses (ELocal ty n) = []
  uses (EUn ty op e) = uses e
  uses (EBin ty op a b) = uses a ++ uses b
  uses (ECast ty e) = uses e
  uses (EConvert ty e) = uses e
  uses (ESize ty of) = []
  uses (EIndex ty a b) = uses a ++ uses b
  uses (EMember ty e n) = uses e
  uses (EArrow ty e n) = uses e
  uses (ECall ty f all) = uses_all all
  uses (EGate ty f all) = Gate f ∷ [] ++ uses_all all
  uses (EGetc ty) = Device 0 ∷ []
  uses (EPutc ty e) = Device 0 ∷ [] ++ uses e
  uses (EDevLoad ty device register) = Device device ∷ []
  uses (EDevStore ty device register e) = Device device ∷ [] ++ uses e
  uses (ESpawn ty f e) = Thread ∷ [] ++ uses e
  uses (ESwitch ty e) = Thread ∷ [] ++ uses e
  uses (EMe ty) = []

  pub uses_all : TExprTrees → List Use
  uses_all NoTExprs = []
  uses_all (MoreTExprs e rest) = uses e ++ uses_all rest

abbrev pub uses_maybe : Option TExprTree → List Use
uses_maybe None = []
uses_maybe (Some e) = uses e

-- the uses in a statement, in the order of its text
abbrev mutual
  pub stmt_uses : TStmtTree → List Use
  stmt_uses SEmpty = []
  stmt_uses (SBlock all) = stmts_uses all
  stmt_uses (SLocal local init) = uses_maybe init
  stmt_uses (SEval e) = uses e
  stmt_uses (SAssign to e) = uses to ++ uses e
  stmt_uses (SIf test s other) = uses test ++ stmt_uses s ++ maybe_stmt_uses other
  stmt_uses (SWhile test s) = uses test ++ stmt_uses s
  stmt_uses (SFor first test next s) = maybe_stmt_uses first ++ uses_maybe test ++ maybe_stmt_uses next ++ stmt_uses s
  stmt_uses SBreak = []
  stmt_uses SContinue = []
  stmt_uses (SReturn e) = uses_maybe e

  pub maybe_stmt_uses : MaybeTStmt → List Use
  maybe_stmt_uses NoTStmt = []
  maybe_stmt_uses (OneTStmt s) = stmt_uses s

  pub stmts_uses : TStmtTrees → List Use
  stmts_uses NoTStmts = []
  stmts_uses (MoreTStmts s rest) = stmt_uses s ++ stmts_uses rest
