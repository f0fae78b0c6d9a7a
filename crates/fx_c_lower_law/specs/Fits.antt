-- What the law of lowering asks of a program. A checked program has it, but for numbers of elements that are unsigned
-- longs.
use Rattle.std.specs.Prelude.{◌≡◌, ℕ, ◌+◌, ◌<◌, length, Option, Some, None, slice_index_or}
use Rattle.fx_c_ast.specs.declared.operator.IntType.{IntType}
use Rattle.fx_c_ast.specs.declared.operator.IntType.TheVariants.{Ulong}
use Rattle.fx_c_ast.specs.declared.operator.Binop.{Binop}
use Rattle.fx_c_ast.specs.declared.operator.Binop.TheVariants.{Add, Sub, Land, Lor}
use Rattle.fx_c_ast.specs.CheckedTrees.{TyTree, IntTy, PtrTy, TExprTree, ELocal, EUn, EBin, ECast}
use Rattle.fx_c_ast.specs.CheckedTrees.{EConvert, EIndex, EMember, EArrow, ECall, EGate, EPutc}
use Rattle.fx_c_ast.specs.CheckedTrees.{EDevStore, ESpawn, ESwitch, TExprTrees, NoTExprs}
use Rattle.fx_c_ast.specs.CheckedTrees.{MoreTExprs, TStmtTree, SEmpty, SBlock, SLocal, SEval}
use Rattle.fx_c_ast.specs.CheckedTrees.{SAssign, SIf, SWhile, SFor, SBreak, SContinue, SReturn}
use Rattle.fx_c_ast.specs.CheckedTrees.{TStmtTrees, NoTStmts, MoreTStmts, MaybeTStmt, NoTStmt}
use Rattle.fx_c_ast.specs.CheckedTrees.{OneTStmt}
use Rattle.fx_c_mean_model.specs.Programs.{Program, function_at}
use Rattle.fx_c_mean_model.specs.Rights.{no_variable}
use Rattle.fx_c_mean_model.specs.States.{type_of}

abbrev pub count : TExprTrees → ℕ
count NoTExprs = 0
count (MoreTExprs e more) = count more + 1

-- a number of elements
abbrev pub FitsIndex : IntType → Type 0
FitsIndex Ulong = ⊥
FitsIndex i = Unit {0}

-- a pointer is moved by an integer behind it, or by one before it
abbrev pub FitsMove : Binop → IntType → Type 0
FitsMove Add i = FitsIndex i
FitsMove Sub i = FitsIndex i
FitsMove o i = ⊥

abbrev pub FitsMoveBy : Binop → IntType → Type 0
FitsMoveBy Add i = FitsIndex i
FitsMoveBy o i = ⊥

-- two integers, a pointer that is moved, or two pointers
abbrev pub FitsPair : Binop → TyTree → TyTree → Type 0
FitsPair o (IntTy i) (IntTy j) = Unit {0}
FitsPair o (PtrTy t) (IntTy i) = FitsMove o i
FitsPair o (IntTy i) (PtrTy t) = FitsMoveBy o i
FitsPair o (PtrTy s) (PtrTy t) = Unit {0}
FitsPair o s t = ⊥

-- a variable of a function, by its number and its type
abbrev pub FitsLocal : Program → ℕ → TyTree → ℕ → Type 0
FitsLocal p f ty n =
    (n < length (function_at p f).variables)
    × ((slice_index_or (function_at p f).variables n no_variable).ty ≡ ty)

-- expressions of a function
abbrev mutual
  pub Fits : Program → ℕ → TExprTree → Type 0
  Fits p f (ELocal ty n) = FitsLocal p f ty n
  Fits p f (EUn ty o e) = Fits p f e
  Fits p f (EBin ty Land a b) = Fits p f a × Fits p f b
  Fits p f (EBin ty Lor a b) = Fits p f a × Fits p f b
  Fits p f (EBin ty o a b) = FitsPair o (type_of a) (type_of b) × Fits p f a × Fits p f b
  Fits p f (ECast ty e) = Fits p f e
  Fits p f (EConvert ty e) = Fits p f e
  Fits p f (EIndex ty a b) = FitsPair Add (type_of a) (type_of b) × Fits p f a × Fits p f b
  Fits p f (EMember ty e n) = Fits p f e
  Fits p f (EArrow ty e n) = Fits p f e
  Fits p f (ECall ty g all) = (count all ≡ (function_at p g).params) × FitsAll p f all
  Fits p f (EGate ty g all) = (count all ≡ (function_at p g).params) × FitsAll p f all
  Fits p f (EPutc ty e) = Fits p f e
  Fits p f (EDevStore ty d r e) = Fits p f e
  Fits p f (ESpawn ty g e) = Fits p f e
  Fits p f (ESwitch ty e) = Fits p f e
  Fits p f e = Unit {0}

  pub FitsAll : Program → ℕ → TExprTrees → Type 0
  FitsAll p f NoTExprs = Unit {0}
  FitsAll p f (MoreTExprs e more) = Fits p f e × FitsAll p f more

abbrev pub FitsMaybe : Program → ℕ → Option TExprTree → Type 0
FitsMaybe p f None = Unit {0}
FitsMaybe p f (Some e) = Fits p f e

-- a variable that starts with a value has the value's type
abbrev pub FitsStart : Program → ℕ → ℕ → Option TExprTree → Type 0
FitsStart p f n None = Unit {0}
FitsStart p f n (Some e) = FitsLocal p f (type_of e) n × Fits p f e

abbrev mutual
  pub FitsStmt : Program → ℕ → TStmtTree → Type 0
  FitsStmt p f SEmpty = Unit {0}
  FitsStmt p f (SBlock all) = FitsStmts p f all
  FitsStmt p f (SLocal n init) = FitsStart p f n init
  FitsStmt p f (SEval e) = Fits p f e
  FitsStmt p f (SAssign to e) = Fits p f to × Fits p f e
  FitsStmt p f (SIf test s other) = Fits p f test × FitsStmt p f s × FitsOther p f other
  FitsStmt p f (SWhile test s) = Fits p f test × FitsStmt p f s
  FitsStmt p f (SFor first test next s) =
      FitsOther p f first × FitsMaybe p f test × FitsOther p f next × FitsStmt p f s
  FitsStmt p f SBreak = Unit {0}
  FitsStmt p f SContinue = Unit {0}
  FitsStmt p f (SReturn e) = FitsMaybe p f e

  pub FitsOther : Program → ℕ → MaybeTStmt → Type 0
  FitsOther p f NoTStmt = Unit {0}
  FitsOther p f (OneTStmt s) = FitsStmt p f s

  pub FitsStmts : Program → ℕ → TStmtTrees → Type 0
  FitsStmts p f NoTStmts = Unit {0}
  FitsStmts p f (MoreTStmts s more) = FitsStmt p f s × FitsStmts p f more

abbrev pub FitsProgram : Program → Type 0
FitsProgram p = (f : ℕ) → FitsStmts p f (function_at p f).body
