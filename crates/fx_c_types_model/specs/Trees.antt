-- Checked trees whose numbers are there and whose types are right.
use Rattle.std.specs.Prelude.{◌≡◌, true, length, Option, Some, None, slice_get}
use Rattle.fx_c_ast.specs.declared.operator.IntType.TheVariants.{Long, Ulong}
use Rattle.fx_c_ast.specs.CheckedTrees.{TyTree, VoidTy, IntTy, PtrTy, TExprTree, ENumber, ELiteral}
use Rattle.fx_c_ast.specs.CheckedTrees.{EGlobal, ELocal, EUn, EBin, ECast, EConvert, ESize, EIndex}
use Rattle.fx_c_ast.specs.CheckedTrees.{EMember, EArrow, ECall, EGate, EGetc, EPutc, EDevLoad}
use Rattle.fx_c_ast.specs.CheckedTrees.{EDevStore, ESpawn, ESwitch, EMe, TExprTrees, NoTExprs}
use Rattle.fx_c_ast.specs.CheckedTrees.{MoreTExprs, TStmtTree, SEmpty, SBlock, SLocal, SEval}
use Rattle.fx_c_ast.specs.CheckedTrees.{SAssign, SIf, SWhile, SFor, SBreak, SContinue, SReturn}
use Rattle.fx_c_ast.specs.CheckedTrees.{TStmtTrees, NoTStmts, MoreTStmts, MaybeTStmt, NoTStmt}
use Rattle.fx_c_ast.specs.CheckedTrees.{OneTStmt}
use Rattle.fx_c_ast.specs.Layout.{known_layouts, IsSized}
use Rattle.fx_c_types_rules.specs.Types.{is_complete, pointee}
use Rattle.fx_c_types_rules.specs.Values.{type_of, is_object}
use Rattle.fx_c_types_model.specs.Tables.{Tables, IsNamed, global_type, local_type, literal_type, member_type}
use Rattle.fx_c_types_model.specs.Nodes.{IsInteger, IsPointer, IsScalar, IsAssigned, FitsUnary, Casts, Converts, FitsBinary, Calls, Enters, Starts}

-- a type of the program
abbrev pub IsType : Tables → TyTree → Type 0
IsType g t = IsNamed (length g.structs) t

-- an expression: at each node the numbers are there, the type is one of the program, and it and those of the
-- operands are as the node asks
abbrev mutual
  pub IsTyped : Tables → TExprTree → Type 0
  IsTyped g (ENumber ty value) = IsType g ty × IsInteger ty
  IsTyped g (ELiteral ty n) = IsType g ty × (literal_type g.literals n ≡ Some ty)
  IsTyped g (EGlobal ty n) = IsType g ty × (global_type g.globals n ≡ Some ty)
  IsTyped g (ELocal ty n) = IsType g ty × (local_type g.locals n ≡ Some ty)
  IsTyped g (EUn ty op e) = IsType g ty × FitsUnary (length g.structs) op ty e × IsTyped g e
  IsTyped g (EBin ty op a b) = IsType g ty × FitsBinary (length g.structs) op ty (type_of a) (type_of b) × IsTyped g a × IsTyped g b
  IsTyped g (ECast ty e) = IsType g ty × Casts ty (type_of e) × IsTyped g e
  IsTyped g (EConvert ty e) = IsType g ty × Converts ty (type_of e) e × IsTyped g e
  IsTyped g (ESize ty of) = IsType g ty × (ty ≡ IntTy Ulong) × IsType g of × IsSized (known_layouts g.structs) (length g.structs) of
  IsTyped g (EIndex ty a b) = IsType g ty × (type_of a ≡ PtrTy ty) × (is_complete (length g.structs) ty ≡ true) × IsInteger (type_of b) × IsTyped g a × IsTyped g b
  IsTyped g (EMember ty e n) = IsType g ty × (member_type g.structs (type_of e) n ≡ Some ty) × (is_object e ≡ true) × IsTyped g e
  IsTyped g (EArrow ty e n) = IsType g ty × IsPointer (type_of e) × (member_type g.structs (pointee (type_of e)) n ≡ Some ty) × IsTyped g e
  IsTyped g (ECall ty f all) = IsType g ty × Calls g.library (slice_get g.functions f) ty all × AreTyped g all
  IsTyped g (EGate ty f all) = IsType g ty × Enters (slice_get g.functions f) ty all × AreTyped g all
  IsTyped g (EGetc ty) = IsType g ty × (ty ≡ IntTy Long)
  IsTyped g (EPutc ty e) = IsType g ty × (ty ≡ VoidTy) × (type_of e ≡ IntTy Long) × IsTyped g e
  IsTyped g (EDevLoad ty device register) = IsType g ty × (ty ≡ IntTy Long)
  IsTyped g (EDevStore ty device register e) = IsType g ty × (ty ≡ VoidTy) × (type_of e ≡ IntTy Long) × IsTyped g e
  IsTyped g (ESpawn ty f e) = IsType g ty × (ty ≡ IntTy Long) × Starts g.library (slice_get g.functions f) × (type_of e ≡ IntTy Long) × IsTyped g e
  IsTyped g (ESwitch ty e) = IsType g ty × (ty ≡ VoidTy) × (type_of e ≡ IntTy Long) × IsTyped g e
  IsTyped g (EMe ty) = IsType g ty × (ty ≡ IntTy Long)

  pub AreTyped : Tables → TExprTrees → Type 0
  AreTyped g NoTExprs = Unit {0}
  AreTyped g (MoreTExprs e rest) = IsTyped g e × AreTyped g rest

-- a condition is an integer; a pointer that is tested stands converted
abbrev pub IsTest : Tables → TExprTree → Type 0
IsTest g e = IsInteger (type_of e) × IsTyped g e

abbrev pub IsMaybeTest : Tables → Option TExprTree → Type 0
IsMaybeTest g None = Unit {0}
IsMaybeTest g (Some e) = IsTest g e

-- the value that a local starts with
abbrev pub IsStart : Tables → Option TyTree → Option TExprTree → Type 0
IsStart g None init = ⊥
IsStart g (Some ty) None = Unit {0}
IsStart g (Some ty) (Some e) = IsAssigned ty × (type_of e ≡ ty) × IsTyped g e

-- the value that the function gives
abbrev pub IsReturned : Tables → Option TExprTree → Type 0
IsReturned g None = g.answer ≡ VoidTy
IsReturned g (Some e) = IsScalar g.answer × (type_of e ≡ g.answer) × IsTyped g e

-- statements
abbrev mutual
  pub IsRight : Tables → TStmtTree → Type 0
  IsRight g SEmpty = Unit {0}
  IsRight g (SBlock all) = AreRight g all
  IsRight g (SLocal n init) = IsStart g (local_type g.locals n) init
  IsRight g (SEval e) = IsTyped g e
  IsRight g (SAssign to e) = IsAssigned (type_of to) × (is_object to ≡ true) × (type_of e ≡ type_of to) × IsTyped g to × IsTyped g e
  IsRight g (SIf test s other) = IsTest g test × IsRight g s × MaybeRight g other
  IsRight g (SWhile test s) = IsTest g test × IsRight g s
  IsRight g (SFor first test next s) = MaybeRight g first × IsMaybeTest g test × MaybeRight g next × IsRight g s
  IsRight g SBreak = Unit {0}
  IsRight g SContinue = Unit {0}
  IsRight g (SReturn e) = IsReturned g e

  pub MaybeRight : Tables → MaybeTStmt → Type 0
  MaybeRight g NoTStmt = Unit {0}
  MaybeRight g (OneTStmt s) = IsRight g s

  pub AreRight : Tables → TStmtTrees → Type 0
  AreRight g NoTStmts = Unit {0}
  AreRight g (MoreTStmts s rest) = IsRight g s × AreRight g rest
