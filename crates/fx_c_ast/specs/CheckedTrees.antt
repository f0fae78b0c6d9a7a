-- Checked trees as plain data, without where they lie in memory.
use Rattle.std.specs.Prelude.{ℕ, List, [], ◌∷◌, Option, Some, None}
use Rattle.fx_c_ast.specs.declared.operator.IntType.{IntType}
use Rattle.fx_c_ast.specs.declared.operator.Unop.{Unop}
use Rattle.fx_c_ast.specs.declared.operator.Binop.{Binop}
use Rattle.fx_c_ast.specs.declared.checked.Ty.{Ty, Void, Int, Struct, Ptr', Array'}
use Rattle.fx_c_ast.specs.declared.checked.TExpr.{TExpr}
use Rattle.fx_c_ast.specs.declared.checked.TKind.{TKind, Number, Literal, Global, Local, Un', Bin'}
use Rattle.fx_c_ast.specs.declared.checked.TKind.{Cast', Convert', Size, Index', Member', Arrow'}
use Rattle.fx_c_ast.specs.declared.checked.TKind.{Call', Gate', Getc, Putc', DevLoad, DevStore'}
use Rattle.fx_c_ast.specs.declared.checked.TKind.{Spawn', Switch', Me, Row_of-TExpr, end_of-TExpr}
use Rattle.fx_c_ast.specs.declared.checked.TKind.{more_of-TExpr}
use Rattle.fx_c_ast.specs.declared.checked.TStmt.{TStmt, Empty, Block', Eval, Assign, If', While'}
use Rattle.fx_c_ast.specs.declared.checked.TStmt.{For', Break, Continue, Return, Row_of-TStmt}
use Rattle.fx_c_ast.specs.declared.checked.TStmt.{end_of-TStmt, more_of-TStmt, Held-TStmt-If-2}
use Rattle.fx_c_ast.specs.declared.checked.TStmt.{None', Some'}
use Rattle.fx_c_ast.specs.declared.checked.TStmt as stmt
use Rattle.fx_c_ast.specs.declared.checked.TMember.{TMember}
use Rattle.fx_c_ast.specs.declared.checked.TLocal.{TLocal}
use Rattle.fx_c_ast.specs.declared.checked.TStruct.{TStruct}

pub data TyTree : Type 0 where
  VoidTy : TyTree
  IntTy : (i : IntType) → TyTree
  StructTy : (number : ℕ) → TyTree
  PtrTy : (to : TyTree) → TyTree
  ArrayTy : (of : TyTree) (count : ℕ) → TyTree

-- an expression, each node with its type
mutual
  pub data TExprTree : Type 0 where
    ENumber : (ty : TyTree) (value : ℕ) → TExprTree
    ELiteral : (ty : TyTree) (number : ℕ) → TExprTree
    EGlobal : (ty : TyTree) (number : ℕ) → TExprTree
    ELocal : (ty : TyTree) (number : ℕ) → TExprTree
    EUn : (ty : TyTree) (op : Unop) (e : TExprTree) → TExprTree
    EBin : (ty : TyTree) (op : Binop) (a b : TExprTree) → TExprTree
    ECast : (ty : TyTree) (e : TExprTree) → TExprTree
    EConvert : (ty : TyTree) (e : TExprTree) → TExprTree
    ESize : (ty of : TyTree) → TExprTree
    EIndex : (ty : TyTree) (a b : TExprTree) → TExprTree
    EMember : (ty : TyTree) (e : TExprTree) (member : ℕ) → TExprTree
    EArrow : (ty : TyTree) (e : TExprTree) (member : ℕ) → TExprTree
    ECall : (ty : TyTree) (f : ℕ) (all : TExprTrees) → TExprTree
    EGate : (ty : TyTree) (f : ℕ) (all : TExprTrees) → TExprTree
    EGetc : (ty : TyTree) → TExprTree
    EPutc : (ty : TyTree) (e : TExprTree) → TExprTree
    EDevLoad : (ty : TyTree) (device register : ℕ) → TExprTree
    EDevStore : (ty : TyTree) (device register : ℕ) (e : TExprTree) → TExprTree
    ESpawn : (ty : TyTree) (f : ℕ) (e : TExprTree) → TExprTree
    ESwitch : (ty : TyTree) (e : TExprTree) → TExprTree
    EMe : (ty : TyTree) → TExprTree

  pub data TExprTrees : Type 0 where
    NoTExprs : TExprTrees
    MoreTExprs : (e : TExprTree) (rest : TExprTrees) → TExprTrees

mutual
  pub data TStmtTree : Type 0 where
    SEmpty : TStmtTree
    SBlock : (all : TStmtTrees) → TStmtTree
    SLocal : (local : ℕ) (init : Option TExprTree) → TStmtTree
    SEval : (e : TExprTree) → TStmtTree
    SAssign : (to e : TExprTree) → TStmtTree
    SIf : (test : TExprTree) (s : TStmtTree) (other : MaybeTStmt) → TStmtTree
    SWhile : (test : TExprTree) (s : TStmtTree) → TStmtTree
    SFor : (first : MaybeTStmt) (test : Option TExprTree) (next : MaybeTStmt) (s : TStmtTree) → TStmtTree
    SBreak : TStmtTree
    SContinue : TStmtTree
    SReturn : (e : Option TExprTree) → TStmtTree

  pub data TStmtTrees : Type 0 where
    NoTStmts : TStmtTrees
    MoreTStmts : (s : TStmtTree) (rest : TStmtTrees) → TStmtTrees

  pub data MaybeTStmt : Type 0 where
    NoTStmt : MaybeTStmt
    OneTStmt : (s : TStmtTree) → MaybeTStmt

abbrev pub ty_tree : Ty → TyTree
ty_tree Void = VoidTy
ty_tree (Int i) = IntTy i
ty_tree (Struct n) = StructTy n
ty_tree (Ptr' p t) = PtrTy (ty_tree t)
ty_tree (Array' p t count) = ArrayTy (ty_tree t) count

abbrev mutual
  pub kind_tree : TyTree → TKind → TExprTree
  kind_tree ty (Number value) = ENumber ty value
  kind_tree ty (Literal n) = ELiteral ty n
  kind_tree ty (Global n) = EGlobal ty n
  kind_tree ty (Local n) = ELocal ty n
  kind_tree ty (Un' op p t e) = EUn ty op (kind_tree (ty_tree t) e)
  kind_tree ty (Bin' op p s a q t b) = EBin ty op (kind_tree (ty_tree s) a) (kind_tree (ty_tree t) b)
  kind_tree ty (Cast' p t e) = ECast ty (kind_tree (ty_tree t) e)
  kind_tree ty (Convert' p t e) = EConvert ty (kind_tree (ty_tree t) e)
  kind_tree ty (Size t) = ESize ty (ty_tree t)
  kind_tree ty (Index' p s a q t b) = EIndex ty (kind_tree (ty_tree s) a) (kind_tree (ty_tree t) b)
  kind_tree ty (Member' p t e n) = EMember ty (kind_tree (ty_tree t) e) n
  kind_tree ty (Arrow' p t e n) = EArrow ty (kind_tree (ty_tree t) e) n
  kind_tree ty (Call' f shape all) = ECall ty f (texpr_row all)
  kind_tree ty (Gate' f shape all) = EGate ty f (texpr_row all)
  kind_tree ty Getc = EGetc ty
  kind_tree ty (Putc' p t e) = EPutc ty (kind_tree (ty_tree t) e)
  kind_tree ty (DevLoad d r) = EDevLoad ty d r
  kind_tree ty (DevStore' d r p t e) = EDevStore ty d r (kind_tree (ty_tree t) e)
  kind_tree ty (Spawn' f p t e) = ESpawn ty f (kind_tree (ty_tree t) e)
  kind_tree ty (Switch' p t e) = ESwitch ty (kind_tree (ty_tree t) e)
  kind_tree ty Me = EMe ty

  pub texpr_row : {m : _} → Row_of-TExpr m → TExprTrees
  texpr_row end_of-TExpr = NoTExprs
  texpr_row (more_of-TExpr t e rest) = MoreTExprs (kind_tree (ty_tree t) e) (texpr_row rest)

abbrev pub texpr_tree : TExpr → TExprTree
texpr_tree e = kind_tree (ty_tree e.ty) e.kind

abbrev pub texpr_trees : List TExpr → TExprTrees
texpr_trees [] = NoTExprs
texpr_trees (e ∷ es) = MoreTExprs (texpr_tree e) (texpr_trees es)

abbrev pub maybe_texpr : Option TExpr → Option TExprTree
maybe_texpr None = None
maybe_texpr (Some e) = Some (texpr_tree e)

abbrev mutual
  pub tstmt_tree : TStmt → TStmtTree
  tstmt_tree Empty = SEmpty
  tstmt_tree (Block' shape all) = SBlock (tstmt_row all)
  tstmt_tree (stmt.Local n init) = SLocal n (maybe_texpr init)
  tstmt_tree (Eval e) = SEval (texpr_tree e)
  tstmt_tree (Assign to e) = SAssign (texpr_tree to) (texpr_tree e)
  tstmt_tree (If' test p s other) = SIf (texpr_tree test) (tstmt_tree s) (maybe_tstmt other)
  tstmt_tree (While' test p s) = SWhile (texpr_tree test) (tstmt_tree s)
  tstmt_tree (For' first test next p s) = SFor (maybe_tstmt first) (maybe_texpr test) (maybe_tstmt next) (tstmt_tree s)
  tstmt_tree Break = SBreak
  tstmt_tree Continue = SContinue
  tstmt_tree (Return e) = SReturn (maybe_texpr e)

  pub maybe_tstmt : Held-TStmt-If-2 → MaybeTStmt
  maybe_tstmt None' = NoTStmt
  maybe_tstmt (Some' p s) = OneTStmt (tstmt_tree s)

  pub tstmt_row : {m : _} → Row_of-TStmt m → TStmtTrees
  tstmt_row end_of-TStmt = NoTStmts
  tstmt_row (more_of-TStmt s rest) = MoreTStmts (tstmt_tree s) (tstmt_row rest)

abbrev pub tstmt_trees : List TStmt → TStmtTrees
tstmt_trees [] = NoTStmts
tstmt_trees (s ∷ ss) = MoreTStmts (tstmt_tree s) (tstmt_trees ss)

-- the types of a struct's members, in order
abbrev pub member_types : List TMember → List TyTree
member_types [] = []
member_types (m ∷ ms) = ty_tree m.ty ∷ member_types ms

-- the members' types of each struct of a program
abbrev pub struct_types : List TStruct → List (List TyTree)
struct_types [] = []
struct_types (s ∷ ss) = member_types s.members ∷ struct_types ss

-- the types of a function's parameters and locals, in order
abbrev pub local_types : List TLocal → List TyTree
local_types [] = []
local_types (l ∷ ls) = ty_tree l.ty ∷ local_types ls
