-- The bytes of stack that a call of a function takes (this project's own layout).
use Rattle.std.specs.Prelude.{ℕ, ◌+◌, ◌*◌, max, List, [], ◌∷◌, Option, Some, None}
use Rattle.fx_c_ast.specs.declared.operator.Binop.{Binop}
use Rattle.fx_c_ast.specs.declared.operator.Binop.TheVariants.{Land, Lor}
use Rattle.fx_c_ast.specs.declared.checked.TFunction.{TFunction}
use Rattle.fx_c_ast.specs.CheckedTrees.{TyTree, TExprTree, ENumber, ELiteral, EGlobal, ELocal, EUn}
use Rattle.fx_c_ast.specs.CheckedTrees.{EBin, ECast, EConvert, ESize, EIndex, EMember, EArrow}
use Rattle.fx_c_ast.specs.CheckedTrees.{ECall, EGate, EGetc, EPutc, EDevLoad, EDevStore, ESpawn}
use Rattle.fx_c_ast.specs.CheckedTrees.{ESwitch, EMe, TExprTrees, NoTExprs, MoreTExprs, TStmtTree}
use Rattle.fx_c_ast.specs.CheckedTrees.{SEmpty, SBlock, SLocal, SEval, SAssign, SIf, SWhile, SFor}
use Rattle.fx_c_ast.specs.CheckedTrees.{SBreak, SContinue, SReturn, TStmtTrees, NoTStmts}
use Rattle.fx_c_ast.specs.CheckedTrees.{MoreTStmts, MaybeTStmt, NoTStmt, OneTStmt, tstmt_trees}
use Rattle.fx_c_ast.specs.CheckedTrees.{local_types}
use Rattle.fx_c_ast.specs.declared.layout.Layout.{Layout}
use Rattle.fx_c_ast.specs.Layout.{type_layout, known_layouts, round_up}

-- of two operands that are both pending before an operation
abbrev pub need_two : Binop → ℕ → ℕ → ℕ
need_two Land a b = max a b
need_two Lor a b = max a b
need_two _ a b = max a (1 + b)

-- the most operands that are pending at once while an expression is evaluated
abbrev mutual
  pub need : TExprTree → ℕ
  need (ENumber ty value) = 1
  need (ELiteral ty n) = 1
  need (EGlobal ty n) = 1
  need (ELocal ty n) = 1
  need (EUn ty op e) = need e
  need (EBin ty op a b) = need_two op (need a) (need b)
  need (ECast ty e) = need e
  need (EConvert ty e) = need e
  need (ESize ty of) = 1
  need (EIndex ty a b) = max (need a) (1 + need b)
  need (EMember ty e n) = need e
  need (EArrow ty e n) = need e
  need (ECall ty f all) = max 1 (need_all 0 all)
  need (EGate ty f all) = max 1 (need_all 0 all)
  need (EGetc ty) = 1
  need (EPutc ty e) = max 1 (need e)
  need (EDevLoad ty device register) = 1
  need (EDevStore ty device register e) = max 1 (need e)
  need (ESpawn ty f e) = max 1 (need e)
  need (ESwitch ty e) = max 1 (need e)
  need (EMe ty) = 1

  -- of arguments, the first of which stands behind so many others
  pub need_all : ℕ → TExprTrees → ℕ
  need_all behind NoTExprs = 0
  need_all behind (MoreTExprs e rest) = max (behind + need e) (need_all (behind + 1) rest)

abbrev pub need_maybe : Option TExprTree → ℕ
need_maybe None = 0
need_maybe (Some e) = need e

-- a declaration with a value is the assignment of that value to the local
abbrev pub need_start : Option TExprTree → ℕ
need_start None = 0
need_start (Some e) = max 1 (1 + need e)

-- the greatest need in a statement
abbrev mutual
  pub need_stmt : TStmtTree → ℕ
  need_stmt SEmpty = 0
  need_stmt (SBlock all) = need_stmts all
  need_stmt (SLocal local init) = need_start init
  need_stmt (SEval e) = need e
  need_stmt (SAssign to e) = max (need to) (1 + need e)
  need_stmt (SIf test s other) = max (need test) (max (need_stmt s) (need_maybe_stmt other))
  need_stmt (SWhile test s) = max (need test) (need_stmt s)
  need_stmt (SFor first test next s) = max (max (need_maybe_stmt first) (need_maybe test)) (max (need_maybe_stmt next) (need_stmt s))
  need_stmt SBreak = 0
  need_stmt SContinue = 0
  need_stmt (SReturn e) = need_maybe e

  pub need_maybe_stmt : MaybeTStmt → ℕ
  need_maybe_stmt NoTStmt = 0
  need_maybe_stmt (OneTStmt s) = need_stmt s

  pub need_stmts : TStmtTrees → ℕ
  need_stmts NoTStmts = 0
  need_stmts (MoreTStmts s rest) = max (need_stmt s) (need_stmts rest)

-- the slot of a local of so many bytes: it begins 16 bytes behind the one before it
abbrev pub slot_size : ℕ → ℕ
slot_size bytes = round_up bytes 16 + 16

-- the slots of parameters and locals of these types, where the layout of each struct is known
abbrev pub slots_size : (ℕ → Layout) → List TyTree → ℕ
slots_size known [] = 0
slots_size known (t ∷ ts) = slot_size (type_layout known t).size + slots_size known ts

-- the return address and the saved frame pointer, the slots, and the pending operands, which are
-- words of 8 bytes and an even number
abbrev pub frame_bytes : (slots pending : ℕ) → ℕ
frame_bytes slots pending = 16 + slots + 8 * round_up pending 2

-- the frame of a call, by the types of parameters and locals and by the body
abbrev pub frame_size : (ℕ → Layout) → List TyTree → TStmtTrees → ℕ
frame_size known locals body = frame_bytes (slots_size known locals) (need_stmts body)

-- pending operands of a function, in words of 8 bytes
abbrev pub depth : TFunction → ℕ
depth f = round_up (need_stmts (tstmt_trees f.body.items)) 2

-- parameters and locals of a function of a program with these structs
abbrev pub locals_size : List (List TyTree) → TFunction → ℕ
locals_size structs f = slots_size (known_layouts structs) (local_types f.locals)

-- the frame of a function
abbrev pub fs : List (List TyTree) → TFunction → ℕ
fs structs f = frame_size (known_layouts structs) (local_types f.locals) (tstmt_trees f.body.items)
