-- What costs nothing, and steps that are no calls, no returns and no switches, leave what waiting callers take.
use Rattle.std.proofs.Common.{◌≡◌, ℕ, ◌+◌, ◌&&◌, Bool, true, false, nat_lt, List, [], ◌∷◌, ◌++◌, length, Option, Some, None, Result, Ok, Err, if◌then◌else◌, refl, sym, ap, subst, ◌∙◌, arith}
use Rattle.fx_outcomes.specs.Runs.{Goes, Stops}
use Rattle.fx_c_ast.specs.declared.operator.Binop.{Binop}
use Rattle.fx_c_ast.specs.declared.operator.Binop.TheVariants.{Land, Lor}
use Rattle.fx_c_ast.specs.declared.operator.Unop.TheVariants.{Addr}
use Rattle.fx_c_ast.specs.CheckedTrees.{TyTree, IntTy, PtrTy, TExprTree, ENumber, ELiteral, EGlobal, ELocal, EUn, EBin, ECast, EConvert, ESize, EIndex, EMember, EArrow, ECall, EGate, EGetc, EPutc, EDevLoad, EDevStore, ESpawn, ESwitch, EMe, NoTExprs, MoreTExprs, TStmtTree, SEmpty, SBlock, SLocal, SEval, SAssign, SIf, SWhile, SFor, SBreak, SContinue, SReturn, TStmtTrees, NoTStmts, MoreTStmts, MaybeTStmt, NoTStmt, OneTStmt}
use Rattle.fx_c_mean_blocks.specs.declared.value.Value.{Value}
use Rattle.fx_c_mean_blocks.specs.declared.value.Value.TheVariants.{Void, Number}
use Rattle.fx_c_mean_blocks.specs.declared.value.Cell.{Cell}
use Rattle.fx_c_mean_blocks.specs.declared.block.Place.{Place}
use Rattle.fx_c_mean_blocks.specs.declared.fault.Fault.{Fault}
use Rattle.fx_c_mean_blocks.specs.Blocks.{width, byte_read, loaded, writable, object_in, offset_in, cells_of, written, moved}
use Rattle.fx_c_mean_blocks.specs.Operators.{unary_result, conversion, binary_result}
use Rattle.fx_c_mean_model.specs.declared.end.End.TheVariants.{Denied, StackFull, ThreadsFull}
use Rattle.fx_c_mean_model.specs.declared.rights.Rights.{Rights}
use Rattle.fx_c_mean_model.specs.Rights.{may, stack_of}
use Rattle.fx_c_mean_model.specs.Programs.{Program, function_at}
use Rattle.fx_c_mean_model.specs.States.{Loop, While, For, Act, Call, Frame, Spot, Does, Truth, Push, SizeOf, GlobalAddress, LiteralAddress, LocalAddress, Load, Apply, Convert, Step, Combine, Decide, Judge, Enter, Ask, Tell, Spawn, Switch, Self, Store, ReadByte, WriteByte, Branch, Test, JumpBack, Break, Continue, Leave, FallOff, Stuck, Loads, Converts, Applies, Steps, Second, Combines, Decides, Arguments, Tells, Spawns, Switches, Target, Into, Discards, Forks, Tests, Answers, Then, Enters, Body, Third, Caller, type_of, is_lvalue, is_scalar, same_type, pointed, wanted, converting, reach, start, begin, begin_maybe, begin_all, after_body, begin_body, begin_loop, follow, loop_body, after_loop, next_round, unwind, assign, give}
use Rattle.fx_c_mean_model.specs.Steps.{State, Outcome, if_value, granted, perform, told, stores, further, actor, at, gives, gives_result, spawn, new_thread, member_of, next_byte, decide, branch, tested, is_true, taken, use_of, has_room, waiting_for, entered, returned, left, value_at_end}
use Rattle.fx_c_mean_acts.specs.declared.uses.StackUse.{StackUse}
use Rattle.fx_c_mean_acts.specs.Uses.{HasUse, IsKnownAt, IsKnownAfter}

-- ---- expressions

if_loaded : (p : Program) (r : Rights) (k : ℕ) (b : Bool) (ty : TyTree) (rest : List Frame) → use_of p r k (if b then Loads ty ∷ rest else rest) ≡ use_of p r k rest
if_loaded p r k true ty rest = refl
if_loaded p r k false ty rest = refl

want : (p : Program) (r : Rights) (k : ℕ) (e : TExprTree) (rest : List Frame) → use_of p r k (wanted e rest) ≡ use_of p r k rest
want p r k e rest = if_loaded p r k (is_lvalue e && is_scalar (type_of e)) (type_of e) rest

if_same : (p : Program) (r : Rights) (k : ℕ) (b : Bool) (from to : TyTree) (rest : List Frame) → use_of p r k (if b then rest else Converts from to ∷ rest) ≡ use_of p r k rest
if_same p r k true from to rest = refl
if_same p r k false from to rest = refl

convert : (p : Program) (r : Rights) (k : ℕ) (from to : TyTree) (rest : List Frame) → use_of p r k (converting from to rest) ≡ use_of p r k rest
convert p r k from to rest = if_same p r k (same_type from to) from to rest

reaches : (p : Program) (r : Rights) (k n : ℕ) (e : TExprTree) (rest : List Frame) → use_of p r k rest ≡ n → HasUse p r k n (reach e rest)
reaches p r k n (ENumber ty w) rest h = h
reaches p r k n (ELiteral ty i) rest h = h
reaches p r k n (EGlobal ty i) rest h = h
reaches p r k n (ELocal ty i) rest h = h
reaches p r k n (EUn ty Addr e) rest h = reaches p r k n e (Applies Addr ty ∷ rest) h
reaches p r k n (EUn ty op e) rest h = reaches p r k n e (wanted e (Applies op (type_of e) ∷ rest)) (want p r k e (Applies op (type_of e) ∷ rest) ∙ h)
reaches p r k n (EBin ty Land a b) rest h = reaches p r k n a (wanted a (Decides Land b ∷ rest)) (want p r k a (Decides Land b ∷ rest) ∙ h)
reaches p r k n (EBin ty Lor a b) rest h = reaches p r k n a (wanted a (Decides Lor b ∷ rest)) (want p r k a (Decides Lor b ∷ rest) ∙ h)
reaches p r k n (EBin ty op a b) rest h = reaches p r k n a (wanted a (Second op (type_of a) b ∷ rest)) (want p r k a (Second op (type_of a) b ∷ rest) ∙ h)
reaches p r k n (ECast ty e) rest h = reaches p r k n e (wanted e (converting (type_of e) ty rest)) (want p r k e (converting (type_of e) ty rest) ∙ convert p r k (type_of e) ty rest ∙ h)
reaches p r k n (EConvert ty e) rest h = reaches p r k n e (wanted e (converting (type_of e) ty rest)) (want p r k e (converting (type_of e) ty rest) ∙ convert p r k (type_of e) ty rest ∙ h)
reaches p r k n (ESize ty t) rest h = h
reaches p r k n (EIndex ty a b) rest h = reaches p r k n a (wanted a (Second _ (type_of a) b ∷ rest)) (want p r k a (Second _ (type_of a) b ∷ rest) ∙ h)
reaches p r k n (EMember ty e i) rest h = reaches p r k n e (Steps (type_of e) i ∷ rest) h
reaches p r k n (EArrow ty e i) rest h = reaches p r k n e (wanted e (Steps (pointed (type_of e)) i ∷ rest)) (want p r k e (Steps (pointed (type_of e)) i ∷ rest) ∙ h)
reaches p r k n (ECall ty f NoTExprs) rest h = h
reaches p r k n (ECall ty f (MoreTExprs e more)) rest h = reaches p r k n e (wanted e (Arguments f _ [] more ∷ rest)) (want p r k e (Arguments f _ [] more ∷ rest) ∙ h)
reaches p r k n (EGate ty f NoTExprs) rest h = h
reaches p r k n (EGate ty f (MoreTExprs e more)) rest h = reaches p r k n e (wanted e (Arguments f _ [] more ∷ rest)) (want p r k e (Arguments f _ [] more ∷ rest) ∙ h)
reaches p r k n (EGetc ty) rest h = h
reaches p r k n (EPutc ty e) rest h = reaches p r k n e (wanted e (Tells 0 0 ∷ rest)) (want p r k e (Tells 0 0 ∷ rest) ∙ h)
reaches p r k n (EDevLoad ty d g) rest h = h
reaches p r k n (EDevStore ty d g e) rest h = reaches p r k n e (wanted e (Tells d g ∷ rest)) (want p r k e (Tells d g ∷ rest) ∙ h)
reaches p r k n (ESpawn ty f e) rest h = reaches p r k n e (wanted e (Spawns f ∷ rest)) (want p r k e (Spawns f ∷ rest) ∙ h)
reaches p r k n (ESwitch ty e) rest h = reaches p r k n e (wanted e (Switches ∷ rest)) (want p r k e (Switches ∷ rest) ∙ h)
reaches p r k n (EMe ty) rest h = h

starts : (p : Program) (r : Rights) (k n : ℕ) (e : TExprTree) (rest : List Frame) → use_of p r k rest ≡ n → HasUse p r k n (start e rest)
starts p r k n e rest h = reaches p r k n e (wanted e rest) (want p r k e rest ∙ h)

-- ---- statements

mutual
  begins : (p : Program) (r : Rights) (k n : ℕ) (s : TStmtTree) (rest : List Frame) (done : Spot) → use_of p r k rest ≡ n → HasUse p r k n done → HasUse p r k n (begin s rest done)
  begins p r k n SEmpty rest done h d = d
  begins p r k n (SBlock all) rest done h d = begins_all p r k n all rest done h d
  begins p r k n (SLocal i None) rest done h d = d
  begins p r k n (SLocal i (Some e)) rest done h d = h
  begins p r k n (SEval e) rest done h d = starts p r k n e (Discards ∷ rest) h
  begins p r k n (SAssign to e) rest done h d = reaches p r k n to (Target (type_of to) e ∷ rest) h
  begins p r k n (SIf test s other) rest done h d = starts p r k n test (Forks s other ∷ rest) h
  begins p r k n (SWhile test s) rest done h d = starts p r k n test (Tests (While test s) ∷ rest) h
  begins p r k n (SFor first (Some test) next s) rest done h d =
      begins_maybe p r k n first (Enters (For (Some test) next s) ∷ rest) _ h (starts p r k n test (Tests (For (Some test) next s) ∷ rest) h)
  begins p r k n (SFor first None next s) rest done h d =
      begins_maybe p r k n first (Enters (For None next s) ∷ rest) _ h
      (begins p r k n s (Body (For None next s) ∷ rest) _ h (begins_maybe p r k n next (Third (For None next s) ∷ rest) _ h h))
  begins p r k n SBreak rest done h d = h
  begins p r k n SContinue rest done h d = h
  begins p r k n (SReturn None) rest done h d = h
  begins p r k n (SReturn (Some e)) rest done h d = starts p r k n e (Answers ∷ rest) h

  begins_maybe : (p : Program) (r : Rights) (k n : ℕ) (s : MaybeTStmt) (rest : List Frame) (done : Spot) → use_of p r k rest ≡ n → HasUse p r k n done → HasUse p r k n (begin_maybe s rest done)
  begins_maybe p r k n NoTStmt rest done h d = d
  begins_maybe p r k n (OneTStmt s) rest done h d = begins p r k n s rest done h d

  begins_all : (p : Program) (r : Rights) (k n : ℕ) (all : TStmtTrees) (rest : List Frame) (done : Spot) → use_of p r k rest ≡ n → HasUse p r k n done → HasUse p r k n (begin_all all rest done)
  begins_all p r k n NoTStmts rest done h d = d
  begins_all p r k n (MoreTStmts s more) rest done h d = begins p r k n s (Then more ∷ rest) _ h (begins_all p r k n more rest done h d)

bodies_done : (p : Program) (r : Rights) (k n : ℕ) (loop : Loop) (rest : List Frame) → use_of p r k rest ≡ n → HasUse p r k n (after_body loop rest)
bodies_done p r k n (While test s) rest h = h
bodies_done p r k n (For test next s) rest h = begins_maybe p r k n next (Third (For test next s) ∷ rest) _ h h

bodies : (p : Program) (r : Rights) (k n : ℕ) (loop : Loop) (s : TStmtTree) (rest : List Frame) → use_of p r k rest ≡ n → HasUse p r k n (begin_body loop s rest)
bodies p r k n loop s rest h = begins p r k n s (Body loop ∷ rest) (after_body loop rest) h (bodies_done p r k n loop rest h)

loops : (p : Program) (r : Rights) (k n : ℕ) (loop : Loop) (rest : List Frame) → use_of p r k rest ≡ n → HasUse p r k n (begin_loop loop rest)
loops p r k n (While test s) rest h = starts p r k n test (Tests (While test s) ∷ rest) h
loops p r k n (For (Some test) next s) rest h = starts p r k n test (Tests (For (Some test) next s) ∷ rest) h
loops p r k n (For None next s) rest h = bodies p r k n (For None next s) s rest h

pub follows : (p : Program) (r : Rights) (k n : ℕ) (rest : List Frame) → use_of p r k rest ≡ n → HasUse p r k n (follow rest)
follows p r k n [] h = h
follows p r k n (Then more ∷ rest) h = begins_all p r k n more rest (follow rest) h (follows p r k n rest h)
follows p r k n (Enters loop ∷ rest) h = loops p r k n loop rest h
follows p r k n (Body loop ∷ rest) h = bodies_done p r k n loop rest h
follows p r k n (Third loop ∷ rest) h = h
follows p r k n (Caller call crosses ∷ rest) h = h
follows p r k n (_ ∷ rest) h = refl

-- a body begins
pub begun : (p : Program) (r : Rights) (k n : ℕ) (all : TStmtTrees) (rest : List Frame) → use_of p r k rest ≡ n → HasUse p r k n (begin_all all rest (follow rest))
begun p r k n all rest h = begins_all p r k n all rest (follow rest) h (follows p r k n rest h)

loops_left : (p : Program) (r : Rights) (k n : ℕ) (rest : List Frame) → use_of p r k rest ≡ n → HasUse p r k n (after_loop rest)
loops_left p r k n [] h = refl
loops_left p r k n (Body loop ∷ rest) h = follows p r k n rest h
loops_left p r k n (Caller call crosses ∷ rest) h = refl
loops_left p r k n (_ ∷ rest) h = loops_left p r k n rest h

rounds : (p : Program) (r : Rights) (k n : ℕ) (rest : List Frame) → use_of p r k rest ≡ n → HasUse p r k n (next_round rest)
rounds p r k n [] h = refl
rounds p r k n (Body (While test s) ∷ rest) h = loops p r k n (While test s) rest h
rounds p r k n (Body (For test next s) ∷ rest) h = bodies_done p r k n (For test next s) rest h
rounds p r k n (Caller call crosses ∷ rest) h = refl
rounds p r k n (_ ∷ rest) h = rounds p r k n rest h

-- ---- values

assigns : (p : Program) (r : Rights) (k n : ℕ) (ty : TyTree) (to v : Value) (rest : List Frame) → use_of p r k rest ≡ n → HasUse p r k n (assign ty to v rest)
assigns p r k n (IntTy i) to v rest h = h
assigns p r k n (PtrTy t) to v rest h = h
assigns p r k n _ to v rest h = h

pub given : (p : Program) (r : Rights) (k n : ℕ) (v : Value) (rest : List Frame) → use_of p r k rest ≡ n → HasUse p r k n (give v rest)
given p r k n v [] h = refl
given p r k n v (Loads ty ∷ rest) h = h
given p r k n v (Applies op ty ∷ rest) h = h
given p r k n v (Converts from to ∷ rest) h = h
given p r k n v (Steps struct member ∷ rest) h = h
given p r k n v (Second op first b ∷ rest) h = starts p r k n b (Combines op first (type_of b) v ∷ rest) h
given p r k n w (Combines op first second v ∷ rest) h = h
given p r k n v (Decides op b ∷ rest) h = h
given p r k n v (Truth ∷ rest) h = h
given p r k n v (Arguments f way before NoTExprs ∷ rest) h = h
given p r k n v (Arguments f way before (MoreTExprs e more) ∷ rest) h = starts p r k n e (Arguments f way (before ++ v ∷ []) more ∷ rest) h
given p r k n v (Tells device register ∷ rest) h = h
given p r k n v (Spawns f ∷ rest) h = h
given p r k n v (Switches ∷ rest) h = h
given p r k n v (Target ty e ∷ rest) h = starts p r k n e (Into ty v ∷ rest) h
given p r k n v (Into ty to ∷ rest) h = assigns p r k n ty to v rest h
given p r k n v (Discards ∷ rest) h = follows p r k n rest h
given p r k n v (Forks s other ∷ rest) h = h
given p r k n v (Tests loop ∷ rest) h = h
given p r k n v (Answers ∷ rest) h = h
given p r k n v (_ ∷ rest) h = refl

-- ---- steps

-- after an outcome so much is taken still, and nothing is said of an end
abbrev After : Program → Rights → ℕ → ℕ → Outcome → Type 0
After p r k n (Goes made after) = HasUse p r k n after.spot
After p r k n (Stops made e) = Unit {0}

either : (P : Outcome → Type 0) (b : Bool) (x y : Outcome) → P x → P y → P (if b then x else y)
either P true x y h j = h
either P false x y h j = j

value : (p : Program) (r : Rights) (k n : ℕ) → {A : Type 0} (x : Result A Fault) (go : A → Outcome) → ((a : A) → After p r k n (go a)) → After p r k n (if_value x go)
value p r k n (Ok a) go h = h a
value p r k n (Err e) go h = tt

access_granted : (p : Program) (r : Rights) (k n : ℕ) (s : State) (v : Value) (write : Bool) (place : Place) (done : Outcome) → After p r k n done → After p r k n (granted p r s v write place done)
access_granted p r k n s v write place done h = either (After p r k n) (may p r (actor p r s) place write) done (Stops [] (Denied (actor p r s) (object_in v) (offset_in v) write)) h (tt {0})

stored : (p : Program) (r : Rights) (k n : ℕ) (s : State) (to : Value) (bytes : ℕ) (cells : List Cell) (next : Spot) → HasUse p r k n next → After p r k n (stores p r s to bytes cells next)
stored p r k n s to bytes cells next h = value p r k n (writable s.memory to bytes) _
    (λ place. access_granted p r k n s to true place (Goes [] (record s { memory = written s.memory to cells; spot = next })) h)

results : (p : Program) (r : Rights) (k n : ℕ) (s : State) (rest : List Frame) (x : Result Value Fault) → use_of p r k rest ≡ n → After p r k n (gives_result s rest x)
results p r k n s rest (Ok v) h = given p r k n v rest h
results p r k n s rest (Err e) h = tt

tells : (p : Program) (r : Rights) (k n : ℕ) (s : State) (rest : List Frame) (d g : ℕ) (v : Value) → use_of p r k rest ≡ n → After p r k n (told s rest d g v)
tells p r k n s rest d g (Number w) h = given p r k n Void rest h
tells p r k n s rest d g _ h = tt

spawned : (p : Program) (r : Rights) (k n : ℕ) (s : State) (rest : List Frame) (f : ℕ) (v : Value) → use_of p r k rest ≡ n → After p r k n (spawn s rest f v)
spawned p r k n s rest f v h = either (After p r k n) (nat_lt (length s.threads) 16)
    (Goes [] (record s { threads = s.threads ++ new_thread f v ∷ []; spot = give (Number (length s.threads)) rest })) (Stops [] ThreadsFull) (given p r k n (Number (length s.threads)) rest h) (tt {0})

decided : (p : Program) (r : Rights) (k n : ℕ) (op : Binop) (b : Bool) (e : TExprTree) (rest : List Frame) → use_of p r k rest ≡ n → HasUse p r k n (decide op b e rest)
decided p r k n Land true e rest h = starts p r k n e (Truth ∷ rest) h
decided p r k n Land false e rest h = given p r k n (Number 0) rest h
decided p r k n Lor true e rest h = given p r k n (Number 1) rest h
decided p r k n Lor false e rest h = starts p r k n e (Truth ∷ rest) h
decided p r k n op b e rest h = refl

branches : (p : Program) (r : Rights) (k n : ℕ) (b : Bool) (s : TStmtTree) (other : MaybeTStmt) (rest : List Frame) → use_of p r k rest ≡ n → HasUse p r k n (branch b s other rest)
branches p r k n true s other rest h = begins p r k n s rest (follow rest) h (follows p r k n rest h)
branches p r k n false s other rest h = begins_maybe p r k n other rest (follow rest) h (follows p r k n rest h)

tests : (p : Program) (r : Rights) (k n : ℕ) (b : Bool) (loop : Loop) (rest : List Frame) → use_of p r k rest ≡ n → HasUse p r k n (tested b loop rest)
tests p r k n true loop rest h = bodies p r k n loop (loop_body loop) rest h
tests p r k n false loop rest h = follows p r k n rest h

if_more : (p : Program) (r : Rights) (k n : ℕ) (b : Bool) (ty : TyTree) (to v : Value) (done : ℕ) (rest : List Frame) → use_of p r k rest ≡ n → HasUse p r k n (if b then Does (ReadByte ty to v done) rest else follow rest)
if_more p r k n true ty to v done rest h = h
if_more p r k n false ty to v done rest h = follows p r k n rest h

no_some : (u : StackUse) → Some u ≡ None → ⊥
no_some u e = cc

-- calls, returns and switches change what is taken
abbrev Changes : Act → Type 0
Changes (Enter f way values) = Unit {0}
Changes (Leave v) = Unit {0}
Changes FallOff = Unit {0}
Changes (Switch v) = Unit {0}
Changes _ = ⊥

performed : (p : Program) (r : Rights) (k n answer : ℕ) (s : State) (act : Act) (rest : List Frame) → (Changes act → ⊥) → use_of p r k rest ≡ n → After p r k n (perform p r answer s (Does act rest))
performed p r k n answer s (Push v) rest other h = given p r k n v rest h
performed p r k n answer s (SizeOf ty) rest other h = given p r k n _ rest h
performed p r k n answer s (GlobalAddress i) rest other h = given p r k n _ rest h
performed p r k n answer s (LiteralAddress i) rest other h = given p r k n _ rest h
performed p r k n answer s (LocalAddress i) rest other h = given p r k n _ rest h
performed p r k n answer s (Load ty v) rest other h =
    value p r k n (loaded s.memory ty v) _ (λ x. access_granted p r k n s v false x.1 (gives s rest x.0) (given p r k n x.0 rest h))
performed p r k n answer s (Apply op ty v) rest other h = results p r k n s rest (unary_result op ty v) h
performed p r k n answer s (Convert from to v) rest other h = results p r k n s rest (conversion s.memory from to v) h
performed p r k n answer s (Step struct member v) rest other h = results p r k n s rest (moved s.memory v (member_of p struct member)) h
performed p r k n answer s (Combine op first second v w) rest other h = results p r k n s rest (binary_result p.structs s.memory op first second v w) h
performed p r k n answer s (Decide op b v) rest other h = decided p r k n op (is_true v) b rest h
performed p r k n answer s (Judge v) rest other h = given p r k n _ rest h
performed p r k n answer s (Enter f way values) rest other h = absurd (other tt)
performed p r k n answer s (Ask device register) rest other h = given p r k n (Number answer) rest h
performed p r k n answer s (Tell device register v) rest other h = tells p r k n s rest device register v h
performed p r k n answer s (Spawn f v) rest other h = spawned p r k n s rest f v h
performed p r k n answer s (Switch v) rest other h = absurd (other tt)
performed p r k n answer s Self rest other h = given p r k n _ rest h
performed p r k n answer s (Store ty to v) rest other h = stored p r k n s to (width ty) (cells_of (width ty) v) (follow rest) (follows p r k n rest h)
performed p r k n answer s (ReadByte ty to v done) rest other h =
    value p r k n (byte_read s.memory (further v done)) _ (λ x. access_granted p r k n s (further v done) false x.1 (at s (Does (WriteByte ty to v done x.0) rest)) h)
performed p r k n answer s (WriteByte ty to v done cell) rest other h = stored p r k n s (further to done) 1 (cell ∷ []) (next_byte p rest ty to v (done + 1)) (if_more p r k n _ ty to v (done + 1) rest h)
performed p r k n answer s (Branch v s1 s2) rest other h = branches p r k n (is_true v) s1 s2 rest h
performed p r k n answer s (Test v loop) rest other h = tests p r k n (is_true v) loop rest h
performed p r k n answer s (JumpBack loop) rest other h = loops p r k n loop rest h
performed p r k n answer s Break rest other h = loops_left p r k n rest h
performed p r k n answer s Continue rest other h = rounds p r k n rest h
performed p r k n answer s (Leave v) rest other h = absurd (other tt)
performed p r k n answer s FallOff rest other h = absurd (other tt)
performed p r k n answer s Stuck rest other h = tt

-- ---- calls and returns

nearest : (p : Program) (r : Rights) (k : ℕ) (rest : List Frame) → use_of p r k rest ≡ use_of p r k (unwind rest)
nearest p r k [] = refl
nearest p r k (Caller call crosses ∷ rest) = refl
nearest p r k (_ ∷ rest) = nearest p r k rest

-- the nearest caller takes no more
pub below : (p : Program) (r : Rights) (k n taken_by left : ℕ) (rest under : List Frame) (call : Call) (crosses : Bool) → use_of p r k rest ≡ n → unwind rest ≡ Caller call crosses ∷ under → taken_by ≡ taken p r k call crosses → n ≡ taken_by + left → use_of p r k under ≡ left
below p r k n taken_by left rest under call crosses h e t d =
    let all : taken p r k call crosses + use_of p r k under ≡ n = sym (ap (use_of p r k) e) ∙ sym (nearest p r k rest) ∙ h in
    omega arith

goes_below : (p : Program) (r : Rights) (s : State) (v : Value) (k n : ℕ) (rest under : List Frame) (call : Call) (crosses : Bool) → unwind rest ≡ Caller call crosses ∷ under → use_of p r k under ≡ n → After p r k n (returned p s v (unwind rest))
goes_below p r s v k n rest under call crosses e h = subst (λ (fs : List Frame). After p r k n (returned p s v fs)) (sym e) (given p r k n v under h)

after : (p : Program) (r : Rights) (s : State) (act : Act) (rest : List Frame) (u : StackUse) → IsKnownAfter p r s.call act rest (Some u) → After p r u.stack u.bytes (perform p r 0 s (Does act rest))
after p r s (Enter f way values) rest u h =
    let fs = waiting_for p r way f s.call rest in
    either (After p r u.stack u.bytes) (has_room p r f fs) (Goes [] (entered p s f values fs)) (Stops [] (StackFull s.current (stack_of p r f))) (begun p r u.stack u.bytes (function_at p f).body fs h) (tt {0})
after p r s (Leave v) rest u h = goes_below p r (left p s) v u.stack u.bytes rest h.2 h.0 h.1 h.3 h.4
after p r s FallOff rest u h = goes_below p r (left p s) (value_at_end (function_at p s.call.function).gives) u.stack u.bytes rest h.2 h.0 h.1 h.3 h.4
after p r s (Switch v) rest u h = absurd (no_some u h)
after p r s act rest u h = performed p r u.stack u.bytes 0 s act rest (λ x. x) h

-- what is known after a step
pub after_step : (p : Program) (r : Rights) (s t : State) (act : Act) (rest : List Frame) (o : Option StackUse) → IsKnownAfter p r s.call act rest o → perform p r 0 s (Does act rest) ≡ Goes [] t → IsKnownAt p r o t.spot
after_step p r s t act rest None h e = tt
after_step p r s t act rest (Some u) h e = subst (After p r u.stack u.bytes) e (after p r s act rest u h)
