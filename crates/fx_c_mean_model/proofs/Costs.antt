-- The cost of each kind of step, counted by hand. A run of `main` costs 6 beside its body: 1 and an eighth
-- of its 32 bytes of stack to enter, and 1 to return.
use Rattle.std.proofs.Common.{◌≡◌, ℕ, ◌+◌, Bool, true, false, List, [], ◌∷◌, Some, None, is_some, refl}
use Rattle.fx_c_ast.specs.declared.operator.IntType.TheVariants.{Char}
use Rattle.fx_c_ast.specs.declared.operator.Unop.TheVariants.{Neg, Lnot, Deref, Addr}
use Rattle.fx_c_ast.specs.declared.operator.Binop.TheVariants.{Add, Land, Lor}
use Rattle.fx_c_ast.specs.CheckedTrees.{TyTree, VoidTy, IntTy, StructTy, PtrTy, ArrayTy, TExprTree, ELocal, EUn, EBin, ECast, EConvert, ESize, EIndex, EMember, ECall, EGate, ESpawn, ESwitch, EMe, NoTExprs, TStmtTree, SEmpty, SBlock, SEval, SAssign, SLocal, SIf, SWhile, SFor, SBreak, SContinue, NoTStmt, OneTStmt}
use Rattle.fx_c_ast.specs.Layout.{struct_layout}
use Rattle.fx_c_mean_model.specs.declared.rights.Rights.{Rights}
use Rattle.fx_c_mean_model.specs.Programs.{Program}
use Rattle.fx_c_mean_model.specs.Expected.{expected}
use Rattle.fx_c_mean_model.proofs.Texts.{int, long, num, to_long, block, gives_back, function, program, single, two, main_of, with_functions, nothing_more}

-- a run ends at a cost, and not before
ends_at : Program → Rights → ℕ → Bool × Bool
ends_at p r n = (is_some (expected p r [] (n + 1)).finish, is_some (expected p r [] n).finish)

structs : List (List TyTree)
structs = (IntTy Char ∷ IntTy Char ∷ IntTy Char ∷ []) ∷ []

-- whether a body of one statement costs n
costs : List TyTree → TStmtTree → ℕ → Bool × Bool
costs locals s n = ends_at (record (main_of locals (s ∷ [])) { structs = structs }) single (n + 5)

x : TExprTree
x = ELocal int 0

of_nothing : ends_at (main_of [] []) single 5 ≡ (true, false)
unfolding ends_at
of_nothing = refl

of_a_number : costs [] (SEval (num 1)) 1 ≡ (true, false)
unfolding costs ends_at structs
of_a_number = refl

-- the address and the load
of_a_variable : costs (int ∷ []) (SEval x) 2 ≡ (true, false)
unfolding costs ends_at structs x
of_a_variable = refl

-- a discarded struct makes no access
of_a_discarded_struct : costs (StructTy 0 ∷ []) (SEval (ELocal (StructTy 0) 0)) 1 ≡ (true, false)
unfolding costs ends_at structs struct_layout
of_a_discarded_struct = refl

of_sizeof : costs [] (SEval (ESize long int)) 1 ≡ (true, false)
unfolding costs ends_at structs
of_sizeof = refl

of_negation : costs [] (SEval (EUn int Neg (num 1))) 2 ≡ (true, false)
unfolding costs ends_at structs
of_negation = refl

-- the variable's address and `&`; then `*` and the load
of_star_and_address : costs (int ∷ []) (SEval (EUn int Deref (EUn (PtrTy int) Addr x))) 4 ≡ (true, false)
unfolding costs ends_at structs x
of_star_and_address = refl

of_a_sum : costs [] (SEval (EBin int Add (num 1) (num 2))) 3 ≡ (true, false)
unfolding costs ends_at structs
of_a_sum = refl

of_a_conversion : costs [] (SEval (to_long (num 1))) 2 ≡ (true, false)
unfolding costs ends_at structs
of_a_conversion = refl

of_an_identity : costs [] (SEval (ECast int (num 1))) 1 ≡ (true, false)
unfolding costs ends_at structs
of_an_identity = refl

-- a pointer as a condition: address, load, conversion, `!`
of_not_pointer : costs (PtrTy int ∷ []) (SEval (EUn int Lnot (EConvert int (ELocal (PtrTy int) 0)))) 4 ≡ (true, false)
unfolding costs ends_at structs
of_not_pointer = refl

-- address, decay, number, index, load
of_an_index : costs (ArrayTy int 2 ∷ []) (SEval (EIndex int (EConvert (PtrTy int) (ELocal (ArrayTy int 2) 0)) (num 1))) 5 ≡ (true, false)
unfolding costs ends_at structs
of_an_index = refl

-- address, member, load
of_a_member : costs (StructTy 0 ∷ []) (SEval (EMember (IntTy Char) (ELocal (StructTy 0) 0) 1)) 3 ≡ (true, false)
unfolding costs ends_at structs struct_layout
of_a_member = refl

-- address, number, store
of_an_assignment : costs (int ∷ []) (SAssign x (num 1)) 3 ≡ (true, false)
unfolding costs ends_at structs x
of_an_assignment = refl

of_an_initialiser : costs (int ∷ []) (SLocal 0 (Some (num 1))) 3 ≡ (true, false)
unfolding costs ends_at structs
of_an_initialiser = refl

of_a_declaration : ends_at (main_of (int ∷ []) (SLocal 0 None ∷ SEmpty ∷ [])) single 5 ≡ (true, false)
unfolding ends_at
of_a_declaration = refl

-- two addresses, three bytes' reads and writes
of_a_struct_copy : costs (StructTy 0 ∷ StructTy 0 ∷ []) (SAssign (ELocal (StructTy 0) 0) (ELocal (StructTy 0) 1)) 8 ≡ (true, false)
unfolding costs ends_at structs struct_layout
of_a_struct_copy = refl

-- number, test, number; there is no jump over the other branch
of_an_if : costs [] (SIf (num 1) (SEval (num 1)) (OneTStmt (SEval (num 2)))) 3 ≡ (true, false)
unfolding costs ends_at structs
of_an_if = refl

of_an_and : costs [] (SEval (EBin int Land (num 1) (num 1))) 4 ≡ (true, false)
unfolding costs ends_at structs
of_an_and = refl

of_an_or_decided : costs [] (SEval (EBin int Lor (num 1) (num 1))) 2 ≡ (true, false)
unfolding costs ends_at structs
of_an_or_decided = refl

-- number, test, break
of_a_break : costs [] (SWhile (num 1) SBreak) 3 ≡ (true, false)
unfolding costs ends_at structs
of_a_break = refl

-- twice address, load, test; once the assignment's 3 and the jump back
of_a_while : costs (int ∷ []) (SBlock (block (SAssign x (num 1) ∷ SWhile x (SAssign x (num 0)) ∷ []))) 13 ≡ (true, false)
unfolding costs ends_at structs x
of_a_while = refl

-- the same with `continue`, which goes to the test: 1 in place of the jump back's
of_a_continue_in_while : costs (int ∷ []) (SBlock (block (SAssign x (num 1) ∷ SWhile x (SBlock (block (SAssign x (num 0) ∷ SContinue ∷ []))) ∷ []))) 13 ≡ (true, false)
unfolding costs ends_at structs x
of_a_continue_in_while = refl

-- in a `for` 1 for `continue`, then the third part's 3, then the jump back
of_a_continue_in_for : costs (int ∷ []) (SFor (OneTStmt (SAssign x (num 1))) (Some x) (OneTStmt (SAssign x (num 0))) SContinue) 14 ≡ (true, false)
unfolding costs ends_at structs x
of_a_continue_in_for = refl

-- no test
of_a_for_without_condition : costs [] (SFor NoTStmt None NoTStmt SBreak) 1 ≡ (true, false)
unfolding costs ends_at structs
of_a_for_without_condition = refl

-- 1 and an eighth of 16 bytes, and the return
of_a_call : costs [] (SEval (ECall VoidTy 1 NoTExprs)) 4 ≡ (true, false)
unfolding costs ends_at structs
of_a_call = refl

-- and 2 more where a gate between compartments returns
gates : Program
gates = program [] [] (function 0 long 0 [] 32 (SEval (EGate VoidTy 1 NoTExprs) ∷ []) ∷ function 1 VoidTy 0 [] 16 [] ∷ [])

of_a_gate : ends_at gates (two false false) 11 ≡ (true, false)
unfolding ends_at gates
of_a_gate = refl

of_a_gate_within : ends_at gates (record single { homes = 0 ∷ 0 ∷ [] }) 9 ≡ (true, false)
unfolding ends_at gates
of_a_gate_within = refl

of_self : costs [] (SEval (EMe long)) 1 ≡ (true, false)
unfolding costs ends_at structs
of_self = refl

-- `__spawn(th, 0); __switch(1);`: number, conversion, spawn, number, conversion, switch; the start's 1 and an
-- eighth of 64; th's number, conversion and return
of_a_thread : ends_at (with_functions [] (SEval (ESpawn long 1 (to_long (num 0))) ∷ SEval (ESwitch VoidTy (to_long (num 1))) ∷ [])
    (function 0 long 1 (long ∷ []) 64 (gives_back (to_long (num 0)) ∷ [])) nothing_more) single (5 + 6 + 9 + 3) ≡ (true, false)
unfolding ends_at
of_a_thread = refl
