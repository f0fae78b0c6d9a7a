-- The forms of code: what each source form becomes, and that it does what the source does, at every cost.
use Rattle.std.proofs.Common.{◌≡◌, ℕ, false, List, [], ◌∷◌, Some, None, refl}
use Rattle.fx_c_ast.specs.declared.operator.IntType.TheVariants.{Int, Long}
use Rattle.fx_c_ast.specs.declared.operator.Unop.TheVariants.{Lnot, Deref, Addr}
use Rattle.fx_c_ast.specs.declared.operator.Binop.TheVariants.{Add, Sub, Lt, Gt, Ge, Eq, Ne, Land, Lor}
use Rattle.fx_c_ast.specs.declared.parsed.Init.TheVariants as init
use Rattle.fx_c_ast.specs.CheckedTrees.{TyTree, IntTy, StructTy, PtrTy, ArrayTy, TExprTree, EGlobal, ELocal, EUn, EBin, EConvert, EIndex, EMember, EGetc, TStmtTree, SBlock, SEval, SAssign, SLocal, SIf, SWhile, SFor, SBreak, SContinue, NoTStmt, OneTStmt}
use Rattle.fx_c_ast.specs.Layout.{struct_layout}
use Rattle.fx_c_mean_model.specs.Programs.{Program}
use Rattle.fx_c_lin.specs.Machine.{performed}
use Rattle.fx_c_lin.specs.Ops.{Step}
use Rattle.fx_c_lin.specs.Ops as op
use Rattle.fx_c_lin.specs.declared.op.Right.TheVariants as right
use Rattle.fx_c_lin.specs.declared.op.Compared.TheVariants.{Integers, Pointers}
use Rattle.fx_c_lower_model.specs.Steps.{costing, free}
use Rattle.fx_c_lower_model.specs.Code.{code_of, function_code, condition_code, value_code}
use Rattle.fx_c_lower_model.proofs.Rows.{by_code, by_source}
use Rattle.fx_c_lower_model.proofs.Texts.{int, long, num, to_long, block, gives_back, function, global, program, single, exits, main_of, nothing_more}

-- ---- long i; long n; for (i = 0; i < 4; i = i + 1) { if (i == 2) continue; n = n + i; } return n;

i : TExprTree
i = ELocal long 0

n : TExprTree
n = ELocal long 1

continues : Program
continues = main_of (long ∷ long ∷ [])
    (SFor (OneTStmt (SAssign i (to_long (num 0)))) (Some (EBin int Lt i (to_long (num 4)))) (OneTStmt (SAssign i (EBin long Add i (to_long (num 1)))))
    (SBlock (block (SIf (EBin int Eq i (to_long (num 2))) SContinue NoTStmt ∷ SAssign n (EBin long Add n i) ∷ [])))
    ∷ gives_back n ∷ [])

-- `continue` goes to the third part, and what follows the loop stands at 14
continues_code : function_code continues (function 0 long 0 (long ∷ long ∷ []) 32
    (SFor (OneTStmt (SAssign i (to_long (num 0)))) (Some (EBin int Lt i (to_long (num 4)))) (OneTStmt (SAssign i (EBin long Add i (to_long (num 1)))))
    (SBlock (block (SIf (EBin int Eq i (to_long (num 2))) SContinue NoTStmt ∷ SAssign n (EBin long Add n i) ∷ [])))
    ∷ gives_back n ∷ []))
    ≡ costing 3 (op.Number 0) ∷ costing 1 (op.StoreLocal 0)
    ∷ costing 2 (op.LoadLocal 0) ∷ costing 4 (op.CompareJump Lt (Integers Long) (right.Number 4) 14)
    ∷ costing 2 (op.LoadLocal 0) ∷ costing 4 (op.CompareJump Eq (Integers Long) (right.Number 2) 7) ∷ costing 1 (op.Jump 10)
    ∷ costing 3 (op.LoadLocal 1) ∷ costing 3 (op.Binary Add Long (right.Local 0)) ∷ costing 1 (op.StoreLocal 1)
    ∷ costing 3 (op.LoadLocal 0) ∷ costing 3 (op.Binary Add Long (right.Number 1)) ∷ costing 1 (op.StoreLocal 0) ∷ costing 1 (op.Jump 2)
    ∷ costing 2 (op.LoadLocal 1) ∷ costing 1 op.Return ∷ free (op.Number 0) ∷ costing 1 op.Return ∷ []
unfolding continues i n
continues_code = refl

continues_ends : performed continues single (code_of continues) [] 200 ≡ exits 4
unfolding continues i n
continues_ends = refl

continues_same : by_code continues single [] 110 ≡ by_source continues single [] 110
unfolding continues i n
continues_same = refl

-- ---- struct pair { long a; int b; }; pair x, y; x.b = 7; y = x; return y.b;

pair : TyTree
pair = StructTy 0

copies : Program
copies = record (main_of (pair ∷ pair ∷ [])
    (SAssign (EMember int (ELocal pair 0) 1) (num 7) ∷ SAssign (ELocal pair 1) (ELocal pair 0) ∷ gives_back (to_long (EMember int (ELocal pair 1) 1)) ∷ []))
    { structs = (long ∷ int ∷ []) ∷ [] }

copies_ends : performed copies single (code_of copies) [] 200 ≡ exits 7
unfolding copies pair struct_layout
copies_ends = refl

-- each byte is read at a cost of its own and written at a cost of its own
copies_same : by_code copies single [] 60 ≡ by_source copies single [] 60
unfolding copies pair struct_layout
copies_same = refl

-- ---- long b[3]; b[2] = 9; b[1] = 5; return *(2 + b) + b[c] - *(b + i);

element : TExprTree → TExprTree
element e = EUn long Deref e

array : TExprTree
array = EConvert (PtrTy long) (ELocal (ArrayTy long 3) 0)

adds : Program
adds = main_of (ArrayTy long 3 ∷ int ∷ [])
    (SAssign (EIndex long array (num 2)) (to_long (num 9)) ∷ SAssign (ELocal int 1) (num 1) ∷ SAssign (EIndex long array (ELocal int 1)) (to_long (num 5))
    ∷ gives_back (EBin long Add (element (EBin (PtrTy long) Add (num 2) array)) (element (EBin (PtrTy long) Sub (EBin (PtrTy long) Add array (num 2)) (ELocal int 1)))) ∷ [])

adds_ends : performed adds single (code_of adds) [] 200 ≡ exits 14
unfolding adds array element
adds_ends = refl

adds_same : by_code adds single [] 60 ≡ by_source adds single [] 60
unfolding adds array element
adds_same = refl

-- ---- long *p; long n; n = !p; p = &n; if (!p) return 1; if (p) return n; return 2;

p : TExprTree
p = ELocal (PtrTy long) 0

is_null : TExprTree
is_null = EUn int Lnot (EConvert int p)

pointers : Program
pointers = main_of (PtrTy long ∷ long ∷ [])
    (SAssign n (to_long is_null) ∷ SAssign p (EUn (PtrTy long) Addr n) ∷ SIf is_null (gives_back (to_long (num 1))) NoTStmt
    ∷ SIf (EConvert int p) (gives_back n) NoTStmt ∷ gives_back (to_long (num 2)) ∷ [])

-- a pointer as an int is one op, and as a condition too
is_null_code : value_code pointers 0 0 is_null ≡ costing 2 (op.LoadLocal 0) ∷ costing 1 (op.PtrCompare Ne (right.Number 0)) ∷ costing 1 (op.Unary Lnot Int) ∷ []
unfolding is_null p
is_null_code = refl

null_condition : condition_code pointers 0 9 is_null ≡ costing 2 (op.LoadLocal 0) ∷ costing 3 (op.CompareJump Eq Pointers (right.Number 0) 9) ∷ []
unfolding is_null p
null_condition = refl

pointers_ends : performed pointers single (code_of pointers) [] 200 ≡ exits 1
unfolding pointers is_null p n
pointers_ends = refl

pointers_same : by_code pointers single [] 50 ≡ by_source pointers single [] 50
unfolding pointers is_null p n
pointers_same = refl

-- ---- long f(void) { }  falls off its end

falls : Program
falls = main_of [] []

falls_code : function_code falls (function 0 long 0 [] 32 []) ≡ free (op.Number 0) ∷ costing 1 op.Return ∷ []
falls_code = refl

falls_same : by_code falls single [] 10 ≡ by_source falls single [] 10
unfolding falls
falls_same = refl

-- ---- conditions

a : TExprTree
a = ELocal int 0

b : TExprTree
b = ELocal int 1

-- if (a < b && a): where a < b the first jump goes over the second, which is where the whole is false
both_condition : condition_code falls 0 9 (EBin int Land (EBin int Lt a b) a) ≡
    costing 2 (op.LoadLocal 0) ∷ costing 4 (op.CompareJump Ge (Integers Int) (right.Local 1) 3) ∷ costing 1 (op.Jump 9)
    ∷ costing 2 (op.LoadLocal 0) ∷ costing 2 (op.JumpZero 9) ∷ []
unfolding a b
both_condition = refl

-- if (a || !b)
either_condition : condition_code falls 0 9 (EBin int Lor a (EUn int Lnot b)) ≡
    costing 2 (op.LoadLocal 0) ∷ costing 1 (op.JumpZero 3) ∷ costing 1 (op.Jump 6)
    ∷ costing 2 (op.LoadLocal 1) ∷ costing 3 (op.JumpZero 6) ∷ free (op.Jump 9) ∷ []
unfolding a b
either_condition = refl

-- a < b && b, as a value
both_value : value_code falls 0 0 (EBin int Land (EBin int Lt a b) b) ≡
    costing 2 (op.LoadLocal 0) ∷ costing 4 (op.CompareJump Lt (Integers Int) (right.Local 1) 6)
    ∷ costing 2 (op.LoadLocal 1) ∷ costing 1 (op.JumpZero 6)
    ∷ free (op.Number 1) ∷ free (op.Jump 7) ∷ free (op.Number 0) ∷ []
unfolding a b
both_value = refl

-- a = __getc(); b = __getc(); the condition, then the same as a value
conditions : TExprTree → Program
conditions test = main_of (int ∷ int ∷ [])
    (SAssign a (EConvert int (EGetc long)) ∷ SAssign b (EConvert int (EGetc long))
    ∷ SIf test (gives_back (to_long (EBin int Add test (num 4)))) (OneTStmt (gives_back (to_long test))) ∷ [])

Same : TExprTree → ℕ → ℕ → Type 0
Same test x y = by_code (conditions test) single (x ∷ y ∷ []) 45 ≡ by_source (conditions test) single (x ∷ y ∷ []) 45

-- at each truth of both operands
record Everywhere (test : TExprTree) : Type 0 where
  neither : Same test 0 0
  first : Same test 3 0
  second : Same test 0 3
  both : Same test 3 3

ands : Everywhere (EBin int Land a b)
unfolding a b conditions Same
ands = record { neither = refl; first = refl; second = refl; both = refl }

ors : Everywhere (EBin int Lor a b)
unfolding a b conditions Same
ors = record { neither = refl; first = refl; second = refl; both = refl }

not_and : Everywhere (EUn int Lnot (EBin int Land (EUn int Lnot a) b))
unfolding a b conditions Same
not_and = record { neither = refl; first = refl; second = refl; both = refl }

or_of_ands : Everywhere (EBin int Lor (EBin int Land a (EBin int Gt b (num 1))) (EBin int Land (EUn int Lnot a) (EBin int Eq b a)))
unfolding a b conditions Same
or_of_ands = record { neither = refl; first = refl; second = refl; both = refl }

and_of_ors : Everywhere (EBin int Land (EBin int Lor a b) (EBin int Ne (EBin int Lor a (EUn int Lnot b)) (num 0)))
unfolding a b conditions Same
and_of_ors = record { neither = refl; first = refl; second = refl; both = refl }
