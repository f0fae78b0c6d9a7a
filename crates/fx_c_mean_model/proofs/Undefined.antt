-- Each case that the language leaves undefined, and its neighbours that are defined.
use Rattle.std.proofs.Common.{◌≡◌, ℕ, List, [], ◌∷◌, Some, refl}
use Rattle.fx_c_ast.specs.declared.operator.IntType.TheVariants.{Char}
use Rattle.fx_c_ast.specs.declared.operator.Unop.TheVariants.{Deref, Addr}
use Rattle.fx_c_ast.specs.declared.operator.Binop.{Binop}
use Rattle.fx_c_ast.specs.declared.operator.Binop.TheVariants.{Add, Sub, Lt, Le, Eq}
use Rattle.fx_c_ast.specs.CheckedTrees.{TyTree, IntTy, StructTy, PtrTy, ArrayTy, TExprTree, ELiteral, ELocal, EUn, EBin, ECast, EConvert, EIndex, ECall, NoTExprs, EMember, EArrow, SEval, SAssign, SLocal, SIf, NoTStmt, TStmtTree}
use Rattle.fx_c_ast.specs.Layout.{struct_layout}
use Rattle.fx_c_mean_model.specs.declared.end.End.TheVariants.{Undefined}
use Rattle.fx_c_mean_model.specs.Programs.{Function}
use Rattle.fx_c_mean_model.specs.Expected.{expected}
use Rattle.fx_c_mean_model.proofs.Texts.{int, long, num, lnum, to_long, gives_back, function, program, single, Ends, ends, exits, main_of, with_functions, nothing_more}

undefined : Ends
undefined = ends [] Undefined

-- what `main` with these locals and this body comes to
comes : List TyTree → List TStmtTree → Ends
comes locals body = expected (main_of locals body) single [] 1000

pointer : TyTree
pointer = PtrTy long

pair : TyTree
pair = ArrayTy long 2

-- `a` of the local `long a[2]`, as a pointer
a : TExprTree
a = EConvert (PtrTy long) (ELocal (ArrayTy long 2) 0)

value_at : TExprTree → TExprTree
value_at p = EUn long Deref p

address : TyTree → ℕ → TExprTree
address ty n = EUn (PtrTy ty) Addr (ELocal ty n)

null : TExprTree
null = EConvert (PtrTy long) (num 0)

plus : TExprTree → ℕ → TExprTree
plus p n = EBin (PtrTy long) Add p (num n)

minus : TExprTree → ℕ → TExprTree
minus p n = EBin (PtrTy long) Sub p (num n)

test : Binop → TExprTree → TExprTree → List TStmtTree
test op p q = gives_back (to_long (EBin int op p q)) ∷ []

-- ---- accesses

past_the_end : comes (pair ∷ []) (gives_back (EIndex long a (num 2)) ∷ []) ≡ undefined
unfolding comes undefined a pair
past_the_end = refl

last_element : comes (pair ∷ []) (gives_back (EIndex long a (num 1)) ∷ []) ≡ exits 0
unfolding comes a pair
last_element = refl

-- long *f() { long x; return &x; }
of_dead : Function
of_dead = function 0 (PtrTy long) 0 (long ∷ []) 64 (gives_back (address long 0) ∷ [])

dead : List TStmtTree → Ends
dead body = expected (with_functions [] body of_dead nothing_more) single [] 1000

call : TExprTree
call = ECall (PtrTy long) 1 NoTExprs

dead_object : dead (gives_back (value_at call) ∷ []) ≡ undefined
unfolding dead of_dead call undefined address value_at
dead_object = refl

through_null : comes [] (gives_back (value_at null) ∷ []) ≡ undefined
unfolding comes undefined null value_at
through_null = refl

-- "a"[0] = 1
write_to_literal : expected (program [] ((97 ∷ 0 ∷ []) ∷ []) (function 0 long 0 [] 48
    (SAssign (EIndex (IntTy Char) (EConvert (PtrTy (IntTy Char)) (ELiteral (ArrayTy (IntTy Char) 2) 0)) (num 0)) (EConvert (IntTy Char) (num 1)) ∷ []) ∷ [])) single [] 100 ≡ undefined
unfolding undefined
write_to_literal = refl

read_of_literal : expected (program [] ((97 ∷ 0 ∷ []) ∷ []) (function 0 long 0 [] 48
    (gives_back (to_long (EIndex (IntTy Char) (EConvert (PtrTy (IntTy Char)) (ELiteral (ArrayTy (IntTy Char) 2) 0)) (num 0))) ∷ []) ∷ [])) single [] 100 ≡ exits 97
read_of_literal = refl

-- ---- pointer arithmetic

null_moved : comes [] (SEval (plus null 0) ∷ []) ≡ undefined
unfolding comes undefined null plus
null_moved = refl

past_the_end_moved : comes (pair ∷ []) (SEval (plus a 3) ∷ []) ≡ undefined
unfolding comes undefined a plus pair
past_the_end_moved = refl

before_the_start : comes (pair ∷ []) (SEval (minus a 1) ∷ []) ≡ undefined
unfolding comes undefined a minus pair
before_the_start = refl

to_the_end : comes (pair ∷ []) (SEval (plus a 2) ∷ []) ≡ exits 0
unfolding comes a plus pair
to_the_end = refl

-- ---- order, difference, equality

order_of_two : comes (long ∷ long ∷ []) (test Lt (address long 0) (address long 1)) ≡ undefined
unfolding comes undefined address test
order_of_two = refl

order_with_null : comes (long ∷ []) (test Lt null (address long 0)) ≡ undefined
unfolding comes undefined address test null
order_with_null = refl

order_of_nulls : comes [] (test Le null null) ≡ exits 1
unfolding comes test null
order_of_nulls = refl

difference_of_two : comes (long ∷ long ∷ []) (gives_back (EBin long Sub (address long 0) (address long 1)) ∷ []) ≡ undefined
unfolding comes undefined address
difference_of_two = refl

difference_in_one : comes (pair ∷ []) (gives_back (EBin long Sub (plus a 2) a) ∷ []) ≡ exits 2
unfolding comes a plus pair
difference_in_one = refl

equality_of_two : comes (long ∷ long ∷ []) (test Eq (address long 0) (address long 1)) ≡ exits 0
unfolding comes address test
equality_of_two = refl

equality_with_dead : dead (test Eq call null) ≡ undefined
unfolding dead of_dead call undefined address test null
equality_with_dead = refl

dead_as_condition : dead (SIf (EConvert int call) (gives_back (lnum 1)) NoTStmt ∷ []) ≡ undefined
unfolding dead of_dead call undefined address
dead_as_condition = refl

-- ---- cells

-- long *p; p = &x; return *(long *)&p;
pointer_as_number : comes (pointer ∷ long ∷ []) (SAssign (ELocal (PtrTy long) 0) (address long 1)
    ∷ gives_back (value_at (ECast (PtrTy long) (address (PtrTy long) 0))) ∷ []) ≡ undefined
unfolding comes undefined address value_at pointer
pointer_as_number = refl

-- long n = 5; *(long **)&n
number_as_pointer : comes (long ∷ []) (SLocal 0 (Some (lnum 5)) ∷ SEval (EUn (PtrTy long) Deref (ECast (PtrTy (PtrTy long)) (address long 0))) ∷ []) ≡ undefined
unfolding comes undefined address
number_as_pointer = refl

-- zeros are the null pointer
zeros_as_pointer : comes (long ∷ []) (gives_back (to_long (EBin int Eq (EUn (PtrTy long) Deref (ECast (PtrTy (PtrTy long)) (address long 0))) null)) ∷ []) ≡ exits 1
unfolding comes address null
zeros_as_pointer = refl

-- long *p; p = &x; a store of an int over a part of it leaves no pointer
parts_missing : comes (pointer ∷ long ∷ []) (SAssign (ELocal (PtrTy long) 0) (address long 1)
    ∷ SAssign (EUn int Deref (ECast (PtrTy int) (address (PtrTy long) 0))) (num 0) ∷ SEval (ELocal (PtrTy long) 0) ∷ []) ≡ undefined
unfolding comes undefined address pointer
parts_missing = refl

pointer_kept : comes (pointer ∷ long ∷ []) (SAssign (ELocal (PtrTy long) 0) (address long 1) ∷ SAssign (ELocal long 1) (lnum 8)
    ∷ gives_back (value_at (ELocal (PtrTy long) 0)) ∷ []) ≡ exits 8
unfolding comes address value_at pointer
pointer_kept = refl

-- ---- members: struct s { char c; long n; }

structs : List (List TyTree)
structs = (IntTy Char ∷ long ∷ []) ∷ []

with_struct : List TyTree → List TStmtTree → Ends
with_struct locals body = expected (record (main_of locals body) { structs = structs }) single [] 1000

member_of_null : with_struct [] (SEval (EUn (PtrTy long) Addr (EArrow long (EConvert (PtrTy (StructTy 0)) (num 0)) 0)) ∷ []) ≡ undefined
unfolding with_struct undefined structs struct_layout
member_of_null = refl

-- the member n of a struct at the end of another object
member_outside : with_struct (StructTy 0 ∷ []) (SEval (EUn (PtrTy long) Addr (EArrow long (EBin (PtrTy (StructTy 0)) Add (EUn (PtrTy (StructTy 0)) Addr (ELocal (StructTy 0) 0)) (num 1)) 1)) ∷ []) ≡ undefined
unfolding with_struct undefined structs struct_layout
member_outside = refl

member_kept : with_struct (StructTy 0 ∷ []) (SAssign (EMember long (ELocal (StructTy 0) 0) 1) (lnum 7) ∷ gives_back (EMember long (ELocal (StructTy 0) 0) 1) ∷ []) ≡ exits 7
unfolding with_struct structs struct_layout
member_kept = refl
