-- What small programs do, computed: ends, operations, and costs counted by hand.
use Rattle.std.proofs.Common.{◌≡◌, ℕ, pos, negsuc, true, false, [], ◌∷◌, Some, refl}
use Rattle.fx_base.specs.declared.device_op.DeviceOp.{DeviceOp}
use Rattle.fx_c_ast.specs.declared.operator.IntType.TheVariants.{Uint}
use Rattle.fx_c_ast.specs.declared.operator.Unop.TheVariants.{Neg, Deref, Addr}
use Rattle.fx_c_ast.specs.declared.operator.Binop.TheVariants.{Add, Sub, Div, Shl, Lt, Eq}
use Rattle.fx_c_ast.specs.declared.parsed.Init.TheVariants as init
use Rattle.fx_c_ast.specs.CheckedTrees.{VoidTy, IntTy, PtrTy, TExprTree, ELocal, EGlobal, EUn, EBin, EConvert, ECall, EGate, EPutc, EDevLoad, EDevStore, ESpawn, ESwitch, MoreTExprs, SEval, SAssign, SLocal, SIf, SFor, NoTStmt, OneTStmt}
use Rattle.fx_c_mean_model.specs.declared.end.End.TheVariants.{Exit, Denied, StackFull, Divide, BadThread, ThreadsFull}
use Rattle.fx_c_mean_model.specs.declared.rights.Rights.{Rights}
use Rattle.fx_c_mean_model.specs.Programs.{Program, Function}
use Rattle.fx_c_mean_model.specs.Expected.{expected}
use Rattle.fx_c_mean_model.proofs.Texts.{int, long, num, lnum, to_long, one, gives_back, function, global, program, single, two, ends, goes_on, exits, main_of, with_functions, nothing_more}

put : ℕ → DeviceOp
put c = record { device = 0; reg = 0; write = true; value = c }

-- void main() { __putc(72); }
writes_h : Program
writes_h = program [] [] (function 0 VoidTy 0 [] 32 (SEval (EPutc VoidTy (to_long (num 72))) ∷ []) ∷ [])

-- 5 to enter, 1 for the number, its conversion, the operation and the return each
nine_steps : expected writes_h single [] 9 ≡ ends (put 72 ∷ []) (Exit (pos 0))
unfolding writes_h put
nine_steps = refl

eight_steps : expected writes_h single [] 8 ≡ goes_on (put 72 ∷ [])
unfolding writes_h put
eight_steps = refl

seven_steps : expected writes_h single [] 7 ≡ goes_on []
unfolding writes_h put
seven_steps = refl

-- void main() { }
empty : Program
empty = program [] [] (function 0 VoidTy 0 [] 16 [] ∷ [])

four_steps : expected empty single [] 4 ≡ exits 0
unfolding empty
four_steps = refl

three_steps : expected empty single [] 3 ≡ goes_on []
unfolding empty
three_steps = refl

-- ---- grants

-- *p of the parameter p
through_parameter : TExprTree
through_parameter = EUn long Deref (ELocal (PtrTy long) 0)

-- a: long secret = 7; long main() { return __gate(peek, &secret); }   b: __entry long peek(long *p) { return *p; }
peeks : Program
peeks = program (global 0 long (init.Number 7) ∷ []) []
    (function 0 long 0 [] 32 (gives_back (EGate long 1 (one (EUn (PtrTy long) Addr (EGlobal long 0)))) ∷ [])
    ∷ function 1 long 1 (PtrTy long ∷ []) 64 (gives_back through_parameter ∷ []) ∷ [])

peeks_by_call : expected peeks (two false false) [] 100 ≡ exits 7
unfolding peeks through_parameter
peeks_by_call = refl

peeks_by_keys : expected peeks (two true false) [] 100 ≡ ends [] (Denied 1 0 0 false)
unfolding peeks through_parameter
peeks_by_keys = refl

-- a: long main() { long v = 7; return __gate(peek, &v); }
peeks_local : Program
peeks_local = program [] []
    (function 0 long 0 (long ∷ []) 64 (SLocal 0 (Some (to_long (num 7))) ∷ gives_back (EGate long 1 (one (EUn (PtrTy long) Addr (ELocal long 0)))) ∷ [])
    ∷ function 1 long 1 (PtrTy long ∷ []) 64 (gives_back through_parameter ∷ []) ∷ [])

local_of_a_common_stack : expected peeks_local (two true false) [] 100 ≡ exits 7
unfolding peeks_local through_parameter
local_of_a_common_stack = refl

local_of_its_own_stack : expected peeks_local (two true true) [] 100 ≡ ends [] (Denied 1 0 0 false)
unfolding peeks_local through_parameter
local_of_its_own_stack = refl

-- a: void f(long *p, long n) { long x; x = n; if (n) { f(&x, n - 1); } else { __gate(poke, which); } } void main() { f(0, 1); }
-- b: __entry void poke(long *p) { *p = 5; }
pokes : TExprTree → Program
pokes which = program [] []
    (function 0 VoidTy 0 [] 32 (SEval (ECall VoidTy 1 (MoreTExprs (EConvert (PtrTy long) (num 0)) (one (to_long (num 1))))) ∷ [])
    ∷ function 0 VoidTy 2 (PtrTy long ∷ long ∷ long ∷ []) 112
    (SAssign (ELocal long 2) (ELocal long 1)
    ∷ SIf (ELocal long 1) (SEval (ECall VoidTy 1 (MoreTExprs (EUn (PtrTy long) Addr (ELocal long 2)) (one (EBin long Sub (ELocal long 1) (to_long (num 1)))))))
    (OneTStmt (SEval (EGate VoidTy 2 (one which)))) ∷ [])
    ∷ function 1 VoidTy 1 (PtrTy long ∷ []) 64 (SAssign (EUn long Deref (ELocal (PtrTy long) 0)) (to_long (num 5)) ∷ []) ∷ [])

-- `p` in the second call of f is `x` of the first, which is another object than `x` of the second
local_of_the_first_call : expected (pokes (ELocal (PtrTy long) 0)) (two true true) [] 200 ≡ ends [] (Denied 1 2 0 true)
unfolding pokes
local_of_the_first_call = refl

local_of_the_second_call : expected (pokes (EUn (PtrTy long) Addr (ELocal long 2))) (two true true) [] 200 ≡ ends [] (Denied 1 5 0 true)
unfolding pokes
local_of_the_second_call = refl

-- ---- stacks

-- long r(long n) { if (n == 0) return 0; return r(n - 1); } long main() { return r(top); }, one page
recursion : ℕ → Program
recursion top =
    with_functions [] (gives_back (ECall long 1 (one (to_long (num top)))) ∷ [])
    (function 0 long 1 (long ∷ []) 64
    (SIf (EBin int Eq (ELocal long 0) (to_long (num 0))) (gives_back (to_long (num 0))) NoTStmt
    ∷ gives_back (ECall long 1 (one (EBin long Sub (ELocal long 0) (to_long (num 1))))) ∷ []))
    nothing_more

one_page : Rights
one_page = record single { stack_pages = 1 }

fits_the_page : expected (recursion 61) one_page [] 2000 ≡ exits 0
unfolding recursion one_page
fits_the_page = refl

passes_the_page : expected (recursion 62) one_page [] 2000 ≡ ends [] (StackFull 0 0)
unfolding recursion one_page
passes_the_page = refl

-- ---- numbers and pointers

-- long a; long b; long main() { return (&a + 1 == &b) + 5; }
neighbours : Program
neighbours = program (global 0 long init.Zero ∷ global 0 long init.Zero ∷ []) []
    (function 0 long 0 [] 48 (gives_back (to_long (EBin int Add (EBin int Eq (EBin (PtrTy long) Add (EUn (PtrTy long) Addr (EGlobal long 0)) (num 1)) (EUn (PtrTy long) Addr (EGlobal long 1))) (num 5))) ∷ []) ∷ [])

never_neighbours : expected neighbours single [] 100 ≡ exits 5
unfolding neighbours
never_neighbours = refl

-- long main() { return 0xEF010FEF010F; }
constant : expected (main_of [] (gives_back (lnum 0xEF010FEF010F) ∷ [])) single [] 100 ≡ exits 262787841327375
constant = refl

-- long main() { int a = 1; int b = -1; a = a << 31; return a / b; }
quotient_too_large : expected (main_of (int ∷ int ∷ []) (SLocal 0 (Some (num 1)) ∷ SLocal 1 (Some (EUn int Neg (num 1)))
    ∷ SAssign (ELocal int 0) (EBin int Shl (ELocal int 0) (num 31))
    ∷ gives_back (to_long (EBin int Div (ELocal int 0) (ELocal int 1))) ∷ [])) single [] 100 ≡ ends [] Divide
quotient_too_large = refl

-- unsigned int main() { return -1; } and long main() { return -1; }
unsigned_exit : expected (program [] [] (function 0 (IntTy Uint) 0 [] 32 (gives_back (EConvert (IntTy Uint) (EUn int Neg (num 1))) ∷ []) ∷ [])) single [] 100 ≡ exits 4294967295
unsigned_exit = refl

signed_exit : expected (main_of [] (gives_back (to_long (EUn int Neg (num 1))) ∷ [])) single [] 100 ≡ ends [] (Exit (negsuc 0))
signed_exit = refl

-- ---- threads

-- long th(long x) { return 0; }
th : Function
th = function 0 long 1 (long ∷ []) 64 (gives_back (to_long (num 0)) ∷ [])

-- long main() { long i; for (i = 0; i < n; i = i + 1) __spawn(th, i); return 0; }
spawns : ℕ → Program
spawns n = with_functions (long ∷ []) (SFor (OneTStmt (SAssign (ELocal long 0) (to_long (num 0))))
    (Some (EBin int Lt (ELocal long 0) (to_long (num n)))) (OneTStmt (SAssign (ELocal long 0) (EBin long Add (ELocal long 0) (to_long (num 1)))))
    (SEval (ESpawn long 1 (ELocal long 0))) ∷ gives_back (to_long (num 0)) ∷ []) th nothing_more

sixteen_more : expected (spawns 16) single [] 1000 ≡ ends [] ThreadsFull
unfolding spawns th
sixteen_more = refl

fifteen_more : expected (spawns 15) single [] 1000 ≡ exits 0
unfolding spawns th
fifteen_more = refl

no_such_thread : expected (main_of [] (SEval (ESwitch VoidTy (to_long (num 5))) ∷ gives_back (to_long (num 0)) ∷ [])) single [] 100 ≡ ends [] BadThread
no_such_thread = refl

-- ---- devices

store_to : ℕ → ℕ → DeviceOp
store_to reg v = record { device = 1; reg = reg; write = true; value = v }

load_of : ℕ → ℕ → DeviceOp
load_of reg v = record { device = 1; reg = reg; write = false; value = v }

-- long main() { __out(1, 0, 5); return __in(1, 1); }
devices : Program
devices = main_of [] (SEval (EDevStore VoidTy 1 0 (to_long (num 5))) ∷ gives_back (EDevLoad long 1 1) ∷ [])

takes_an_answer : expected devices single (9 ∷ []) 100 ≡ ends (store_to 0 5 ∷ load_of 1 9 ∷ []) (Exit (pos 9))
unfolding devices store_to load_of
takes_an_answer = refl

no_answer_left : expected devices single [] 100 ≡ goes_on (store_to 0 5 ∷ [])
unfolding devices store_to
no_answer_left = refl
