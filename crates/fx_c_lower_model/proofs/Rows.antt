-- Small programs and their code: what the code does, computed, against what the source does, at every cost.
use Rattle.std.proofs.Common.{◌≡◌, ℕ, zero, suc, ◌+◌, pos, true, false, List, [], ◌∷◌, ◌++◌, map, Some, None, refl}
use Rattle.fx_outcomes.specs.Runs.{Outcome}
use Rattle.fx_base.specs.declared.device_op.DeviceOp.{DeviceOp}
use Rattle.fx_c_ast.specs.declared.operator.IntType.TheVariants.{Int, Long, Char}
use Rattle.fx_c_ast.specs.declared.operator.Unop.TheVariants.{Neg, Lnot, Deref, Addr}
use Rattle.fx_c_ast.specs.declared.operator.Binop.TheVariants.{Add, Sub, Div, Shl, Lt, Ge, Eq, Ne, Land, Lor}
use Rattle.fx_c_ast.specs.declared.parsed.Init.TheVariants as init
use Rattle.fx_c_ast.specs.CheckedTrees.{TyTree, VoidTy, IntTy, PtrTy, ArrayTy, StructTy, TExprTree, EGlobal, ELocal, EUn, EBin, ECast, EConvert, EIndex, EMember, ECall, EPutc, EGetc, TStmtTree, SBlock, SEval, SAssign, SLocal, SIf, SWhile, SFor, SBreak, SContinue, NoTStmt, OneTStmt}
use Rattle.fx_c_mean_model.specs.declared.end.End.{End}
use Rattle.fx_c_mean_model.specs.declared.end.End.TheVariants.{Exit, StackFull, Divide}
use Rattle.fx_c_mean_model.specs.declared.rights.Rights.{Rights}
use Rattle.fx_c_mean_model.specs.Programs.{Program}
use Rattle.fx_c_mean_model.specs.Expected.{expected}
use Rattle.fx_c_lin.specs.Machine.{performed}
use Rattle.fx_c_lin.specs.Ops.{Step}
use Rattle.fx_c_lin.specs.Ops as op
use Rattle.fx_c_lin.specs.declared.op.Right.TheVariants as right
use Rattle.fx_c_lin.specs.declared.op.Compared.TheVariants.{Integers, Pointers}
use Rattle.fx_c_lower_model.specs.Steps.{costing, free}
use Rattle.fx_c_lower_model.specs.Code.{code_of, function_code}
use Rattle.fx_c_lower_model.proofs.Texts.{int, long, num, to_long, one, block, gives_back, function, global, program, single, ends, exits, main_of, with_functions, nothing_more}

-- what the code does within each cost below a number, and what the source does
abbrev pub Costs : Type 0
Costs = List (Outcome DeviceOp End)

abbrev pub numbers : ℕ → List ℕ
numbers zero = []
numbers (suc n) = numbers n ++ n ∷ []

abbrev pub by_code : Program → Rights → List ℕ → ℕ → Costs
by_code p r answers n = map (performed p r (code_of p) answers) (numbers n)

abbrev pub by_source : Program → Rights → List ℕ → ℕ → Costs
by_source p r answers n = map (expected p r answers) (numbers n)

put : ℕ → DeviceOp
put c = record { device = 0; reg = 0; write = true; value = c }

-- ---- void main() { __putc(72); }

writes_h : Program
writes_h = program [] [] (function 0 VoidTy 0 [] 32 (SEval (EPutc VoidTy (to_long (num 72))) ∷ []) ∷ [])

-- a number with its conversion, the operation, its value dropped with no cost, and the return
writes_h_code : code_of writes_h ≡ (costing 2 (op.Number 72) ∷ costing 1 op.Putc ∷ free op.Drop ∷ costing 1 op.Return ∷ []) ∷ []
unfolding writes_h
writes_h_code = refl

writes_h_same : by_code writes_h single [] 10 ≡ by_source writes_h single [] 10
unfolding writes_h
writes_h_same = refl

-- ---- long r(long n) { if (n == 0) return 0; return r(n - 1); } long main() { return r(top); }, one page

recursion : ℕ → Program
recursion top =
    with_functions [] (gives_back (ECall long 1 (one (to_long (num top)))) ∷ [])
    (function 0 long 1 (long ∷ []) 64
    (SIf (EBin int Eq (ELocal long 0) (to_long (num 0))) (gives_back (to_long (num 0))) NoTStmt
    ∷ gives_back (ECall long 1 (one (EBin long Sub (ELocal long 0) (to_long (num 1))))) ∷ []))
    nothing_more

one_page : Rights
one_page = record single { stack_pages = 1 }

-- the comparison costs 1 for itself and for the jump, and 2 for the number and its conversion; a call costs 8 more
recursion_code : function_code (recursion 0) (function 0 long 1 (long ∷ []) 64
    (SIf (EBin int Eq (ELocal long 0) (to_long (num 0))) (gives_back (to_long (num 0))) NoTStmt
    ∷ gives_back (ECall long 1 (one (EBin long Sub (ELocal long 0) (to_long (num 1))))) ∷ []))
    ≡ costing 2 (op.LoadLocal 0) ∷ costing 4 (op.CompareJump Eq (Integers Long) (right.Number 0) 4) ∷ costing 2 (op.Number 0) ∷ costing 1 op.Return
    ∷ costing 2 (op.LoadLocal 0) ∷ costing 3 (op.Binary Sub Long (right.Number 1)) ∷ costing 9 (op.Call 1) ∷ costing 1 op.Return
    ∷ free (op.Number 0) ∷ costing 1 op.Return ∷ []
unfolding recursion
recursion_code = refl

recursion_same : by_code (recursion 2) one_page [] 90 ≡ by_source (recursion 2) one_page [] 90
unfolding recursion one_page
recursion_same = refl

fits_the_page : performed (recursion 61) one_page (code_of (recursion 61)) [] 2000 ≡ exits 0
unfolding recursion one_page
fits_the_page = refl

passes_the_page : performed (recursion 62) one_page (code_of (recursion 62)) [] 2000 ≡ ends [] (StackFull 0 0)
unfolding recursion one_page
passes_the_page = refl

-- ---- long main() { int a = 1; int b = -1; a = a << 31; return a / b; }

quotient : Program
quotient = main_of (int ∷ int ∷ []) (SLocal 0 (Some (num 1)) ∷ SLocal 1 (Some (EUn int Neg (num 1)))
    ∷ SAssign (ELocal int 0) (EBin int Shl (ELocal int 0) (num 31))
    ∷ gives_back (to_long (EBin int Div (ELocal int 0) (ELocal int 1))) ∷ [])

quotient_divides : performed quotient single (code_of quotient) [] 100 ≡ ends [] Divide
unfolding quotient
quotient_divides = refl

quotient_same : by_code quotient single [] 30 ≡ by_source quotient single [] 30
unfolding quotient
quotient_same = refl

-- ---- long a; long b; long main() { return (&a + 1 == &b) + 5; }

neighbours : Program
neighbours = program (global 0 long init.Zero ∷ global 0 long init.Zero ∷ []) []
    (function 0 long 0 [] 48 (gives_back (to_long (EBin int Add (EBin int Eq (EBin (PtrTy long) Add (EUn (PtrTy long) Addr (EGlobal long 0)) (num 1)) (EUn (PtrTy long) Addr (EGlobal long 1))) (num 5))) ∷ []) ∷ [])

-- `&` has no op: it is in the cost of what follows
neighbours_code : code_of neighbours ≡
    (costing 1 (op.GlobalAddr 0) ∷ costing 3 (op.Index 8 (right.Number 1)) ∷ costing 1 (op.GlobalAddr 1) ∷ costing 2 (op.PtrCompare Eq right.Pending)
    ∷ costing 2 (op.Binary Add Int (right.Number 5)) ∷ costing 1 (op.Convert Int Long) ∷ costing 1 op.Return
    ∷ free (op.Number 0) ∷ costing 1 op.Return ∷ []) ∷ []
unfolding neighbours
neighbours_code = refl

neighbours_same : by_code neighbours single [] 30 ≡ by_source neighbours single [] 30
unfolding neighbours
neighbours_same = refl
