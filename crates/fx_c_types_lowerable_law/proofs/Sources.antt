-- Trees as they are written: whether the numbers in them fit their types, and how many words they take at least.
use Rattle.std.proofs.Common.{ℕ, ◌+◌, List, [], ◌∷◌, Option, Some, None}
use Rattle.fx_c_ast.specs.ParsedTrees.{ExprTree, NumberTree, TextTree, VarTree, UnTree, BinTree, CastTree, SizeTree, IndexTree, MemberTree, ArrowTree, CallTree, GateTree, GetcTree, PutcTree, DevLoadTree, DevStoreTree, SpawnTree, SwitchTree, MeTree, ExprTrees, NoExprs, MoreExprs, StmtTree, EmptyTree, BlockTree, LocalTree, EvalTree, AssignTree, IfTree, WhileTree, ForTree, BreakTree, ContinueTree, ReturnTree, StmtTrees, NoStmts, MoreStmts, MaybeStmt, Absent, Present, DeclTree, StructTree, GlobalTree, FunctionTree}
use Rattle.fx_c_types_model.specs.Values.{IsConstant}

-- ---- numbers fit

abbrev mutual
  pub Constant : ExprTree → Type 0
  Constant (NumberTree value ty) = IsConstant ty value
  Constant (TextTree bytes) = Unit {0}
  Constant (VarTree name) = Unit {0}
  Constant (UnTree op e) = Constant e
  Constant (BinTree op e f) = Constant e × Constant f
  Constant (CastTree t e) = Constant e
  Constant (SizeTree t) = Unit {0}
  Constant (IndexTree e f) = Constant e × Constant f
  Constant (MemberTree e name) = Constant e
  Constant (ArrowTree e name) = Constant e
  Constant (CallTree name all) = AllConstant all
  Constant (GateTree name all) = AllConstant all
  Constant GetcTree = Unit {0}
  Constant (PutcTree e) = Constant e
  Constant (DevLoadTree device register) = Unit {0}
  Constant (DevStoreTree device register e) = Constant e
  Constant (SpawnTree name e) = Constant e
  Constant (SwitchTree e) = Constant e
  Constant MeTree = Unit {0}

  pub AllConstant : ExprTrees → Type 0
  AllConstant NoExprs = Unit {0}
  AllConstant (MoreExprs e rest) = Constant e × AllConstant rest

abbrev pub ValueConstant : Option ExprTree → Type 0
ValueConstant None = Unit {0}
ValueConstant (Some e) = Constant e

abbrev mutual
  pub ConstantIn : StmtTree → Type 0
  ConstantIn EmptyTree = Unit {0}
  ConstantIn (BlockTree all) = ConstantInAll all
  ConstantIn (LocalTree shared t name init) = ValueConstant init
  ConstantIn (EvalTree e) = Constant e
  ConstantIn (AssignTree to e) = Constant to × Constant e
  ConstantIn (IfTree test one other) = Constant test × ConstantIn one × ConstantInMaybe other
  ConstantIn (WhileTree test body) = Constant test × ConstantIn body
  ConstantIn (ForTree first test next body) = ConstantInMaybe first × ValueConstant test × ConstantInMaybe next × ConstantIn body
  ConstantIn BreakTree = Unit {0}
  ConstantIn ContinueTree = Unit {0}
  ConstantIn (ReturnTree e) = ValueConstant e

  pub ConstantInMaybe : MaybeStmt → Type 0
  ConstantInMaybe Absent = Unit {0}
  ConstantInMaybe (Present s) = ConstantIn s

  pub ConstantInAll : StmtTrees → Type 0
  ConstantInAll NoStmts = Unit {0}
  ConstantInAll (MoreStmts s rest) = ConstantIn s × ConstantInAll rest

abbrev pub ConstantBody : DeclTree → Type 0
ConstantBody (StructTree name members) = Unit {0}
ConstantBody (GlobalTree grant readers ty name init) = Unit {0}
ConstantBody (FunctionTree entry answer name params body) = ConstantInAll body

abbrev pub ConstantBodies : List DeclTree → Type 0
ConstantBodies [] = Unit {0}
ConstantBodies (d ∷ ds) = ConstantBody d × ConstantBodies ds

-- ---- words: each expression takes one of its own, and each statement but a value or an assignment alone

abbrev mutual
  pub least : ExprTree → ℕ
  least (NumberTree value ty) = 1
  least (TextTree bytes) = 1
  least (VarTree name) = 1
  least (UnTree op e) = 1 + least e
  least (BinTree op e f) = 1 + (least e + least f)
  least (CastTree t e) = 1 + least e
  least (SizeTree t) = 1
  least (IndexTree e f) = 1 + (least e + least f)
  least (MemberTree e name) = 1 + least e
  least (ArrowTree e name) = 1 + least e
  least (CallTree name all) = 1 + least_of_all all
  least (GateTree name all) = 1 + least_of_all all
  least GetcTree = 1
  least (PutcTree e) = 1 + least e
  least (DevLoadTree device register) = 1
  least (DevStoreTree device register e) = 1 + least e
  least (SpawnTree name e) = 1 + least e
  least (SwitchTree e) = 1 + least e
  least MeTree = 1

  pub least_of_all : ExprTrees → ℕ
  least_of_all NoExprs = 0
  least_of_all (MoreExprs e rest) = least e + least_of_all rest

abbrev pub least_of_value : Option ExprTree → ℕ
least_of_value None = 0
least_of_value (Some e) = least e

abbrev mutual
  pub least_in : StmtTree → ℕ
  least_in EmptyTree = 1
  least_in (BlockTree all) = 1 + least_in_all all
  least_in (LocalTree shared t name init) = 1 + least_of_value init
  least_in (EvalTree e) = least e
  least_in (AssignTree to e) = least to + least e
  least_in (IfTree test one other) = 1 + (least test + (least_in one + least_in_maybe other))
  least_in (WhileTree test body) = 1 + (least test + least_in body)
  least_in (ForTree first test next body) = 1 + (least_in_maybe first + (least_of_value test + (least_in_maybe next + least_in body)))
  least_in BreakTree = 1
  least_in ContinueTree = 1
  least_in (ReturnTree e) = 1 + least_of_value e

  pub least_in_maybe : MaybeStmt → ℕ
  least_in_maybe Absent = 0
  least_in_maybe (Present s) = least_in s

  pub least_in_all : StmtTrees → ℕ
  least_in_all NoStmts = 0
  least_in_all (MoreStmts s rest) = least_in s + least_in_all rest

abbrev pub least_body : DeclTree → ℕ
least_body (StructTree name members) = 0
least_body (GlobalTree grant readers ty name init) = 0
least_body (FunctionTree entry answer name params body) = least_in_all body

abbrev pub least_bodies : List DeclTree → ℕ
least_bodies [] = 0
least_bodies (d ∷ ds) = least_body d + least_bodies ds
