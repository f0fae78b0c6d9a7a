-- Linear code as plain data: for each function a list of steps, each an op with its cost.
use Rattle.std.specs.Prelude.{ℕ, List, map}
use Rattle.fx_c_ast.specs.declared.operator.IntType.{IntType}
use Rattle.fx_c_ast.specs.declared.operator.Unop.{Unop}
use Rattle.fx_c_ast.specs.declared.operator.Binop.{Binop}
use Rattle.fx_c_ast.specs.CheckedTrees.{TyTree, ty_tree}
use Rattle.fx_c_lin.specs.declared.op.Right.{Right}
use Rattle.fx_c_lin.specs.declared.op.Compared.{Compared}
use Rattle.fx_c_lin.specs.declared.op.Op as declared
use Rattle.fx_c_lin.specs.declared.op.Op.TheVariants as variant
use Rattle.fx_c_lin.specs.declared.op.Step as declared_step
use Rattle.fx_c_lin.specs.declared.op.Code as declared_code

pub data Op : Type 0 where
  Number : (w : ℕ) → Op
  LocalAddr : (n : ℕ) → Op
  LoadLocal : (n : ℕ) → Op
  StoreLocal : (n : ℕ) → Op
  GlobalAddr : (n : ℕ) → Op
  LiteralAddr : (n : ℕ) → Op
  Load : (ty : TyTree) → Op
  Store : (ty : TyTree) → Op
  Copy : (bytes : ℕ) → Op
  Unary : (op : Unop) (i : IntType) → Op
  Binary : (op : Binop) (i : IntType) (right : Right) → Op
  PtrCompare : (op : Binop) (right : Right) → Op
  CompareJump : (op : Binop) (of : Compared) (right : Right) (to : ℕ) → Op
  Convert : (from to : IntType) → Op
  Index : (bytes : ℕ) (right : Right) → Op
  IndexLeft : (bytes : ℕ) → Op
  Back : (bytes : ℕ) → Op
  Difference : (bytes : ℕ) → Op
  Offset : (bytes : ℕ) → Op
  Jump : (to : ℕ) → Op
  JumpZero : (to : ℕ) → Op
  Call : (f : ℕ) → Op
  Gate : (f : ℕ) → Op
  Spawn : (f : ℕ) → Op
  Switch : Op
  Me : Op
  DevLoad : (device register : ℕ) → Op
  DevStore : (device register : ℕ) → Op
  Getc : Op
  Putc : Op
  Drop : Op
  Return : Op

-- where the cost is 0 the op is done together with the one before it
pub record Step : Type 0 where
  pub op : Op
  pub cost : ℕ

abbrev pub op_of : declared.Op → Op
op_of (variant.Number w) = Number w
op_of (variant.LocalAddr n) = LocalAddr n
op_of (variant.LoadLocal n) = LoadLocal n
op_of (variant.StoreLocal n) = StoreLocal n
op_of (variant.GlobalAddr n) = GlobalAddr n
op_of (variant.LiteralAddr n) = LiteralAddr n
op_of (variant.Load ty) = Load (ty_tree ty)
op_of (variant.Store ty) = Store (ty_tree ty)
op_of (variant.Copy bytes) = Copy bytes
op_of (variant.Unary o i) = Unary o i
op_of (variant.Binary o i right) = Binary o i right
op_of (variant.PtrCompare o right) = PtrCompare o right
op_of (variant.CompareJump o of right to) = CompareJump o of right to
op_of (variant.Convert from to) = Convert from to
op_of (variant.Index bytes right) = Index bytes right
op_of (variant.IndexLeft bytes) = IndexLeft bytes
op_of (variant.Back bytes) = Back bytes
op_of (variant.Difference bytes) = Difference bytes
op_of (variant.Offset bytes) = Offset bytes
op_of (variant.Jump to) = Jump to
op_of (variant.JumpZero to) = JumpZero to
op_of (variant.Call f) = Call f
op_of (variant.Gate f) = Gate f
op_of (variant.Spawn f) = Spawn f
op_of variant.Switch = Switch
op_of variant.Me = Me
op_of (variant.DevLoad device register) = DevLoad device register
op_of (variant.DevStore device register) = DevStore device register
op_of variant.Getc = Getc
op_of variant.Putc = Putc
op_of variant.Drop = Drop
op_of variant.Return = Return

abbrev pub step_of : declared_step.Step → Step
step_of x = record { op = op_of x.op; cost = x.cost }

-- the steps of each function
abbrev pub plain_code : declared_code.Code → List (List Step)
plain_code c = map (λ all. map step_of all) c.functions
