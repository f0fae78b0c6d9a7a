-- Parsed trees as plain data, without where they lie in memory. A name is the list of its bytes.
use Rattle.std.specs.Prelude.{ℕ, Bool, List, [], ◌∷◌, Option, Some, None}
use Rattle.fx_c_ast.specs.declared.operator.IntType.{IntType}
use Rattle.fx_c_ast.specs.declared.operator.Unop.{Unop}
use Rattle.fx_c_ast.specs.declared.operator.Binop.{Binop}
use Rattle.fx_c_ast.specs.declared.parsed.TypeName.{TypeName, Void, Int, Struct, Ptr', Array'}
use Rattle.fx_c_ast.specs.declared.parsed.Expr.{Expr, Number, Text, Var, Un', Bin', Cast', Size}
use Rattle.fx_c_ast.specs.declared.parsed.Expr.{Index', Member', Arrow', Call', Gate', Getc, Putc'}
use Rattle.fx_c_ast.specs.declared.parsed.Expr.{DevLoad, DevStore', Spawn', Switch', Me}
use Rattle.fx_c_ast.specs.declared.parsed.Expr.{Row_of-Expr, end_of-Expr, more_of-Expr}
use Rattle.fx_c_ast.specs.declared.parsed.Stmt.{Stmt, Empty, Block', Local, Eval, Assign, If'}
use Rattle.fx_c_ast.specs.declared.parsed.Stmt.{While', For', Break, Continue, Return, Row_of-Stmt}
use Rattle.fx_c_ast.specs.declared.parsed.Stmt.{end_of-Stmt, more_of-Stmt, Held-Stmt-If-2, None'}
use Rattle.fx_c_ast.specs.declared.parsed.Stmt.{Some'}
use Rattle.fx_c_ast.specs.declared.parsed.Grant.{Grant}
use Rattle.fx_c_ast.specs.declared.parsed.Init.{Init}
use Rattle.fx_c_ast.specs.declared.parsed.Param.{Param}
use Rattle.fx_c_ast.specs.declared.parsed.Decl.{Decl}
use Rattle.fx_c_ast.specs.declared.parsed.Decl.TheVariants as decl

pub data TypeTree : Type 0 where
  VoidType : TypeTree
  IntegerType : (i : IntType) → TypeTree
  StructType : (tag : List ℕ) → TypeTree
  PointerType : (to : TypeTree) → TypeTree
  ArrayType : (of : TypeTree) (count : ℕ) → TypeTree

mutual
  pub data ExprTree : Type 0 where
    NumberTree : (value : ℕ) (ty : IntType) → ExprTree
    TextTree : (bytes : List ℕ) → ExprTree
    VarTree : (name : List ℕ) → ExprTree
    UnTree : (op : Unop) (e : ExprTree) → ExprTree
    BinTree : (op : Binop) (a b : ExprTree) → ExprTree
    CastTree : (ty : TypeTree) (e : ExprTree) → ExprTree
    SizeTree : (ty : TypeTree) → ExprTree
    IndexTree : (a b : ExprTree) → ExprTree
    MemberTree : (e : ExprTree) (name : List ℕ) → ExprTree
    ArrowTree : (e : ExprTree) (name : List ℕ) → ExprTree
    CallTree : (f : List ℕ) (all : ExprTrees) → ExprTree
    GateTree : (f : List ℕ) (all : ExprTrees) → ExprTree
    GetcTree : ExprTree
    PutcTree : (e : ExprTree) → ExprTree
    DevLoadTree : (device register : ℕ) → ExprTree
    DevStoreTree : (device register : ℕ) (e : ExprTree) → ExprTree
    SpawnTree : (f : List ℕ) (e : ExprTree) → ExprTree
    SwitchTree : (e : ExprTree) → ExprTree
    MeTree : ExprTree

  pub data ExprTrees : Type 0 where
    NoExprs : ExprTrees
    MoreExprs : (e : ExprTree) (rest : ExprTrees) → ExprTrees

mutual
  pub data StmtTree : Type 0 where
    EmptyTree : StmtTree
    BlockTree : (all : StmtTrees) → StmtTree
    LocalTree : (shared : Bool) (ty : TypeTree) (name : List ℕ) (init : Option ExprTree) → StmtTree
    EvalTree : (e : ExprTree) → StmtTree
    AssignTree : (to e : ExprTree) → StmtTree
    IfTree : (test : ExprTree) (s : StmtTree) (other : MaybeStmt) → StmtTree
    WhileTree : (test : ExprTree) (s : StmtTree) → StmtTree
    ForTree : (first : MaybeStmt) (test : Option ExprTree) (next : MaybeStmt) (s : StmtTree) → StmtTree
    BreakTree : StmtTree
    ContinueTree : StmtTree
    ReturnTree : (e : Option ExprTree) → StmtTree

  pub data StmtTrees : Type 0 where
    NoStmts : StmtTrees
    MoreStmts : (s : StmtTree) (rest : StmtTrees) → StmtTrees

  pub data MaybeStmt : Type 0 where
    Absent : MaybeStmt
    Present : (s : StmtTree) → MaybeStmt

pub record ParamTree : Type 0 where
  pub shared : Bool
  pub ty : TypeTree
  pub name : List ℕ

pub data DeclTree : Type 0 where
  StructTree : (name : List ℕ) (members : List (TypeTree × List ℕ)) → DeclTree
  GlobalTree : (grant readers : Grant) (ty : TypeTree) (name : List ℕ) (init : Init) → DeclTree
  FunctionTree : (entry : Bool) (answer : TypeTree) (name : List ℕ) (params : List ParamTree) (body : StmtTrees) → DeclTree

abbrev pub type_tree : TypeName → TypeTree
type_tree Void = VoidType
type_tree (Int i) = IntegerType i
type_tree (Struct tag) = StructType tag
type_tree (Ptr' p t) = PointerType (type_tree t)
type_tree (Array' p t count) = ArrayType (type_tree t) count

abbrev mutual
  pub expr_tree : Expr → ExprTree
  expr_tree (Number value ty) = NumberTree value ty
  expr_tree (Text bytes) = TextTree bytes
  expr_tree (Var name) = VarTree name
  expr_tree (Un' op p e) = UnTree op (expr_tree e)
  expr_tree (Bin' op p a q b) = BinTree op (expr_tree a) (expr_tree b)
  expr_tree (Cast' t p e) = CastTree (type_tree t) (expr_tree e)
  expr_tree (Size t) = SizeTree (type_tree t)
  expr_tree (Index' p a q b) = IndexTree (expr_tree a) (expr_tree b)
  expr_tree (Member' p e name) = MemberTree (expr_tree e) name
  expr_tree (Arrow' p e name) = ArrowTree (expr_tree e) name
  expr_tree (Call' f shape all) = CallTree f (expr_row all)
  expr_tree (Gate' f shape all) = GateTree f (expr_row all)
  expr_tree Getc = GetcTree
  expr_tree (Putc' p e) = PutcTree (expr_tree e)
  expr_tree (DevLoad d r) = DevLoadTree d r
  expr_tree (DevStore' d r p e) = DevStoreTree d r (expr_tree e)
  expr_tree (Spawn' f p e) = SpawnTree f (expr_tree e)
  expr_tree (Switch' p e) = SwitchTree (expr_tree e)
  expr_tree Me = MeTree

  pub expr_row : {m : _} → Row_of-Expr m → ExprTrees
  expr_row end_of-Expr = NoExprs
  expr_row (more_of-Expr e rest) = MoreExprs (expr_tree e) (expr_row rest)

abbrev pub expr_trees : List Expr → ExprTrees
expr_trees [] = NoExprs
expr_trees (e ∷ es) = MoreExprs (expr_tree e) (expr_trees es)

abbrev pub maybe_expr : Option Expr → Option ExprTree
maybe_expr None = None
maybe_expr (Some e) = Some (expr_tree e)

abbrev pub param_tree : Param → ParamTree
param_tree p = record { shared = p.shared; ty = type_tree p.ty; name = p.name }

abbrev mutual
  pub stmt_tree : Stmt → StmtTree
  stmt_tree Empty = EmptyTree
  stmt_tree (Block' shape all) = BlockTree (stmt_row all)
  stmt_tree (Local shared ty name init) = LocalTree shared (type_tree ty) name (maybe_expr init)
  stmt_tree (Eval e) = EvalTree (expr_tree e)
  stmt_tree (Assign to e) = AssignTree (expr_tree to) (expr_tree e)
  stmt_tree (If' test p s other) = IfTree (expr_tree test) (stmt_tree s) (maybe_stmt other)
  stmt_tree (While' test p s) = WhileTree (expr_tree test) (stmt_tree s)
  stmt_tree (For' first test next p s) = ForTree (maybe_stmt first) (maybe_expr test) (maybe_stmt next) (stmt_tree s)
  stmt_tree Break = BreakTree
  stmt_tree Continue = ContinueTree
  stmt_tree (Return e) = ReturnTree (maybe_expr e)

  pub maybe_stmt : Held-Stmt-If-2 → MaybeStmt
  maybe_stmt None' = Absent
  maybe_stmt (Some' p s) = Present (stmt_tree s)

  pub stmt_row : {m : _} → Row_of-Stmt m → StmtTrees
  stmt_row end_of-Stmt = NoStmts
  stmt_row (more_of-Stmt s rest) = MoreStmts (stmt_tree s) (stmt_row rest)

abbrev pub stmt_trees : List Stmt → StmtTrees
stmt_trees [] = NoStmts
stmt_trees (s ∷ ss) = MoreStmts (stmt_tree s) (stmt_trees ss)

abbrev pub member_trees : List (TypeName × List ℕ) → List (TypeTree × List ℕ)
member_trees [] = []
member_trees (m ∷ ms) = (type_tree m.0, m.1) ∷ member_trees ms

abbrev pub param_trees : List Param → List ParamTree
param_trees [] = []
param_trees (p ∷ ps) = param_tree p ∷ param_trees ps

abbrev pub decl_tree : Decl → DeclTree
decl_tree (decl.Struct name members) = StructTree name (member_trees members)
decl_tree (decl.Global grant readers ty name init) = GlobalTree grant readers (type_tree ty) name init
decl_tree (decl.Function entry answer name params body) = FunctionTree entry (type_tree answer) name (param_trees params) (stmt_trees body.items)

abbrev pub decl_trees : List Decl → List DeclTree
decl_trees [] = []
decl_trees (d ∷ ds) = decl_tree d ∷ decl_trees ds
