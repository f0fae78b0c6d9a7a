-- What the numbers at the nodes of a function's trees are.
use Rattle.std.proofs.Common.{◌≡◌, ℕ, ◌<◌, length, Option, Some, None}
use Rattle.std.specs.Prelude.{slice_index_or}
use Rattle.fx_c_ast.specs.declared.operator.Binop.{Binop}
use Rattle.fx_c_ast.specs.declared.operator.Binop.TheVariants.{Sub}
use Rattle.fx_c_ast.specs.CheckedTrees.{TyTree, IntTy, PtrTy, TExprTree, ELiteral, EGlobal, ELocal, EBin, EIndex, ECall, EGate, EDevLoad, EDevStore, ESpawn}
use Rattle.fx_c_ast.specs.declared.operator.Binop.TheVariants.{Add}
use Rattle.fx_c_ast.specs.CheckedTrees.{TStmtTree, SEmpty, SBlock, SLocal, SEval, SAssign, SIf, SWhile, SFor, SBreak, SContinue, SReturn, TStmtTrees, NoTStmts, MoreTStmts, MaybeTStmt, NoTStmt, OneTStmt}
use Rattle.fx_c_mean_model.specs.Programs.{Program, Function, size_in}
use Rattle.fx_c_mean_model.specs.Rights.{no_variable}
use Rattle.fx_c_mean_model.specs.States.{type_of}
use Rattle.fx_c_types_model.specs.Fits.{IsDeviceRegister}
use Rattle.fx_c_types_model.specs.Each.{Each, EachOfValue}
use Rattle.fx_c_lower_ranges_law.specs.Ranges.{IsSize}

abbrev pub LocalIn : Function → TyTree → ℕ → Type 0
LocalIn f ty n = (n < length f.variables) × ((slice_index_or f.variables n no_variable).ty ≡ ty)

-- two operands of which one may be a pointer that is moved
abbrev pub PairIn : Program → Binop → TyTree → TyTree → Type 0
PairIn p o (PtrTy t) (IntTy i) = IsSize (size_in p t)
PairIn p o (IntTy i) (PtrTy t) = IsSize (size_in p t)
PairIn p Sub (PtrTy s) (PtrTy t) = IsSize (size_in p s)
PairIn p o s t = Unit {0}

abbrev pub NodeIn : Program → Function → TExprTree → Type 0
NodeIn p f (ELiteral ty n) = n < length p.literals
NodeIn p f (EGlobal ty n) = n < length p.globals
NodeIn p f (ELocal ty n) = LocalIn f ty n
NodeIn p f (EBin ty o a b) = PairIn p o (type_of a) (type_of b)
NodeIn p f (EIndex ty a b) = PairIn p Add (type_of a) (type_of b)
NodeIn p f (ECall ty g all) = g < length p.functions
NodeIn p f (EGate ty g all) = g < length p.functions
NodeIn p f (EDevLoad ty d r) = IsDeviceRegister d r
NodeIn p f (EDevStore ty d r e) = IsDeviceRegister d r
NodeIn p f (ESpawn ty g e) = g < length p.functions
NodeIn p f e = Unit {0}

-- what is copied has a size
abbrev pub CopyIn : Program → TyTree → Type 0
CopyIn p (IntTy i) = Unit {0}
CopyIn p (PtrTy t) = Unit {0}
CopyIn p t = IsSize (size_in p t)

-- the value that a variable starts with
abbrev pub StartIn : Program → Function → ℕ → Option TExprTree → Type 0
StartIn p f n None = Unit {0}
StartIn p f n (Some e) = LocalIn f (type_of e) n × CopyIn p (type_of e) × Each (NodeIn p f) e

abbrev mutual
  pub StmtIn : Program → Function → TStmtTree → Type 0
  StmtIn p f SEmpty = Unit {0}
  StmtIn p f (SBlock all) = StmtsIn p f all
  StmtIn p f (SLocal n init) = StartIn p f n init
  StmtIn p f (SEval e) = Each (NodeIn p f) e
  StmtIn p f (SAssign to e) = CopyIn p (type_of to) × Each (NodeIn p f) to × Each (NodeIn p f) e
  StmtIn p f (SIf test s other) = Each (NodeIn p f) test × StmtIn p f s × OtherIn p f other
  StmtIn p f (SWhile test s) = Each (NodeIn p f) test × StmtIn p f s
  StmtIn p f (SFor first test next s) =
      OtherIn p f first × EachOfValue (NodeIn p f) test × OtherIn p f next × StmtIn p f s
  StmtIn p f SBreak = Unit {0}
  StmtIn p f SContinue = Unit {0}
  StmtIn p f (SReturn e) = EachOfValue (NodeIn p f) e

  pub OtherIn : Program → Function → MaybeTStmt → Type 0
  OtherIn p f NoTStmt = Unit {0}
  OtherIn p f (OneTStmt s) = StmtIn p f s

  pub StmtsIn : Program → Function → TStmtTrees → Type 0
  StmtsIn p f NoTStmts = Unit {0}
  StmtsIn p f (MoreTStmts s more) = StmtIn p f s × StmtsIn p f more
