-- What costs nothing leaves the callers that wait.
use Rattle.std.proofs.Common.{◌≡◌, ℕ, ◌+◌, ◌&&◌, Bool, true, false, nat_lt, List, [], ◌∷◌, ◌++◌, Some, None, if◌then◌else◌, refl, sym, subst, ◌∙◌}
use Rattle.fx_c_ast.specs.declared.operator.Binop.{Binop}
use Rattle.fx_c_ast.specs.declared.operator.Binop.TheVariants.{Add, Land, Lor}
use Rattle.fx_c_ast.specs.declared.operator.Unop.TheVariants.{Addr}
use Rattle.fx_c_ast.specs.CheckedTrees.{TyTree, IntTy, PtrTy, TExprTree, ENumber, ELiteral, EGlobal, ELocal, EUn, EBin, ECast, EConvert, ESize, EIndex, EMember, EArrow, ECall, EGate, EGetc, EPutc, EDevLoad, EDevStore, ESpawn, ESwitch, EMe, NoTExprs, MoreTExprs, TStmtTree, SEmpty, SBlock, SLocal, SEval, SAssign, SIf, SWhile, SFor, SBreak, SContinue, SReturn, TStmtTrees, NoTStmts, MoreTStmts, MaybeTStmt, NoTStmt, OneTStmt}
use Rattle.fx_c_mean_blocks.specs.declared.value.Value.{Value}
use Rattle.fx_c_mean_blocks.specs.declared.value.Value.TheVariants.{Number}
use Rattle.fx_c_mean_model.specs.Programs.{Program, size_in}
use Rattle.fx_c_mean_model.specs.States.{Loop, While, For, Way, Plainly, ByGate, First, Frame, Spot, Does, Enter, Stuck, Truth, Loads, Converts, Applies, Steps, Second, Combines, Decides, Arguments, Tells, Spawns, Switches, Target, Into, Discards, Forks, Tests, Answers, Then, Enters, Body, Third, Caller, JumpBack, ReadByte, type_of, is_lvalue, is_scalar, same_type, pointed, wanted, converting, reach, start, begin, begin_maybe, begin_all, after_body, begin_body, begin_loop, follow, loop_body, after_loop, next_round, unwind, assign, give}
use Rattle.fx_c_mean_model.specs.Steps.{next_byte, decide, branch, tested}

-- A mark where a call that waits for its arguments is to be a thread's first, which no run has.
abbrev pub marked : Way → List Frame → List Frame
marked First cs = Truth ∷ cs
marked _ cs = cs

-- the callers that wait, with the marks
abbrev pub callers : List Frame → List Frame
callers [] = []
callers (Caller call crosses ∷ rest) = Caller call crosses ∷ callers rest
callers (Arguments f way before more ∷ rest) = marked way (callers rest)
callers (_ ∷ rest) = callers rest

-- there is no mark
abbrev pub Clean : List Frame → Type 0
Clean [] = Unit {0}
Clean (Caller call crosses ∷ cs) = Clean cs
Clean (_ ∷ cs) = ⊥

-- a spot with these callers
abbrev pub IsAt : List Frame → Spot → Type 0
IsAt cs (Does Stuck rest) = Unit {0}
IsAt cs (Does (Enter f way values) rest) = marked way (callers rest) ≡ cs
IsAt cs (Does act rest) = callers rest ≡ cs

-- ---- expressions

if_loaded : (b : Bool) (ty : TyTree) (rest : List Frame) → callers (if b then Loads ty ∷ rest else rest) ≡ callers rest
if_loaded true ty rest = refl
if_loaded false ty rest = refl

want : (e : TExprTree) (rest : List Frame) → callers (wanted e rest) ≡ callers rest
want e rest = if_loaded (is_lvalue e && is_scalar (type_of e)) (type_of e) rest

if_same : (b : Bool) (from to : TyTree) (rest : List Frame) → callers (if b then rest else Converts from to ∷ rest) ≡ callers rest
if_same true from to rest = refl
if_same false from to rest = refl

convert : (from to : TyTree) (rest : List Frame) → callers (converting from to rest) ≡ callers rest
convert from to rest = if_same (same_type from to) from to rest

reaches : (cs : List Frame) (e : TExprTree) (rest : List Frame) → callers rest ≡ cs → IsAt cs (reach e rest)
reaches cs (ENumber ty w) rest h = h
reaches cs (ELiteral ty i) rest h = h
reaches cs (EGlobal ty i) rest h = h
reaches cs (ELocal ty i) rest h = h
reaches cs (EUn ty Addr e) rest h = reaches cs e (Applies Addr ty ∷ rest) h
reaches cs (EUn ty op e) rest h = reaches cs e (wanted e (Applies op (type_of e) ∷ rest)) (want e (Applies op (type_of e) ∷ rest) ∙ h)
reaches cs (EBin ty Land a b) rest h = reaches cs a (wanted a (Decides Land b ∷ rest)) (want a (Decides Land b ∷ rest) ∙ h)
reaches cs (EBin ty Lor a b) rest h = reaches cs a (wanted a (Decides Lor b ∷ rest)) (want a (Decides Lor b ∷ rest) ∙ h)
reaches cs (EBin ty op a b) rest h = reaches cs a (wanted a (Second op (type_of a) b ∷ rest)) (want a (Second op (type_of a) b ∷ rest) ∙ h)
reaches cs (ECast ty e) rest h = reaches cs e (wanted e (converting (type_of e) ty rest)) (want e (converting (type_of e) ty rest) ∙ convert (type_of e) ty rest ∙ h)
reaches cs (EConvert ty e) rest h = reaches cs e (wanted e (converting (type_of e) ty rest)) (want e (converting (type_of e) ty rest) ∙ convert (type_of e) ty rest ∙ h)
reaches cs (ESize ty t) rest h = h
reaches cs (EIndex ty a b) rest h = reaches cs a (wanted a (Second Add (type_of a) b ∷ rest)) (want a (Second Add (type_of a) b ∷ rest) ∙ h)
reaches cs (EMember ty e i) rest h = reaches cs e (Steps (type_of e) i ∷ rest) h
reaches cs (EArrow ty e i) rest h = reaches cs e (wanted e (Steps (pointed (type_of e)) i ∷ rest)) (want e (Steps (pointed (type_of e)) i ∷ rest) ∙ h)
reaches cs (ECall ty f NoTExprs) rest h = h
reaches cs (ECall ty f (MoreTExprs e more)) rest h = reaches cs e (wanted e (Arguments f Plainly [] more ∷ rest)) (want e (Arguments f Plainly [] more ∷ rest) ∙ h)
reaches cs (EGate ty f NoTExprs) rest h = h
reaches cs (EGate ty f (MoreTExprs e more)) rest h = reaches cs e (wanted e (Arguments f ByGate [] more ∷ rest)) (want e (Arguments f ByGate [] more ∷ rest) ∙ h)
reaches cs (EGetc ty) rest h = h
reaches cs (EPutc ty e) rest h = reaches cs e (wanted e (Tells 0 0 ∷ rest)) (want e (Tells 0 0 ∷ rest) ∙ h)
reaches cs (EDevLoad ty d g) rest h = h
reaches cs (EDevStore ty d g e) rest h = reaches cs e (wanted e (Tells d g ∷ rest)) (want e (Tells d g ∷ rest) ∙ h)
reaches cs (ESpawn ty f e) rest h = reaches cs e (wanted e (Spawns f ∷ rest)) (want e (Spawns f ∷ rest) ∙ h)
reaches cs (ESwitch ty e) rest h = reaches cs e (wanted e (Switches ∷ rest)) (want e (Switches ∷ rest) ∙ h)
reaches cs (EMe ty) rest h = h

pub starts : (cs : List Frame) (e : TExprTree) (rest : List Frame) → callers rest ≡ cs → IsAt cs (start e rest)
starts cs e rest h = reaches cs e (wanted e rest) (want e rest ∙ h)

-- ---- statements

mutual
  begins : (cs : List Frame) (s : TStmtTree) (rest : List Frame) (done : Spot) → callers rest ≡ cs → IsAt cs done → IsAt cs (begin s rest done)
  begins cs SEmpty rest done h d = d
  begins cs (SBlock all) rest done h d = begins_all cs all rest done h d
  begins cs (SLocal i None) rest done h d = d
  begins cs (SLocal i (Some e)) rest done h d = h
  begins cs (SEval e) rest done h d = starts cs e (Discards ∷ rest) h
  begins cs (SAssign to e) rest done h d = reaches cs to (Target (type_of to) e ∷ rest) h
  begins cs (SIf test s other) rest done h d = starts cs test (Forks s other ∷ rest) h
  begins cs (SWhile test s) rest done h d = starts cs test (Tests (While test s) ∷ rest) h
  begins cs (SFor first (Some test) next s) rest done h d =
      begins_maybe cs first (Enters (For (Some test) next s) ∷ rest) _ h (starts cs test (Tests (For (Some test) next s) ∷ rest) h)
  begins cs (SFor first None next s) rest done h d =
      begins_maybe cs first (Enters (For None next s) ∷ rest) _ h
      (begins cs s (Body (For None next s) ∷ rest) _ h (begins_maybe cs next (Third (For None next s) ∷ rest) _ h h))
  begins cs SBreak rest done h d = h
  begins cs SContinue rest done h d = h
  begins cs (SReturn None) rest done h d = h
  begins cs (SReturn (Some e)) rest done h d = starts cs e (Answers ∷ rest) h

  begins_maybe : (cs : List Frame) (s : MaybeTStmt) (rest : List Frame) (done : Spot) → callers rest ≡ cs → IsAt cs done → IsAt cs (begin_maybe s rest done)
  begins_maybe cs NoTStmt rest done h d = d
  begins_maybe cs (OneTStmt s) rest done h d = begins cs s rest done h d

  begins_all : (cs : List Frame) (all : TStmtTrees) (rest : List Frame) (done : Spot) → callers rest ≡ cs → IsAt cs done → IsAt cs (begin_all all rest done)
  begins_all cs NoTStmts rest done h d = d
  begins_all cs (MoreTStmts s more) rest done h d = begins cs s (Then more ∷ rest) _ h (begins_all cs more rest done h d)

bodies_done : (cs : List Frame) (loop : Loop) (rest : List Frame) → callers rest ≡ cs → IsAt cs (after_body loop rest)
bodies_done cs (While test s) rest h = h
bodies_done cs (For test next s) rest h = begins_maybe cs next (Third (For test next s) ∷ rest) _ h h

pub bodies : (cs : List Frame) (loop : Loop) (s : TStmtTree) (rest : List Frame) → callers rest ≡ cs → IsAt cs (begin_body loop s rest)
bodies cs loop s rest h = begins cs s (Body loop ∷ rest) (after_body loop rest) h (bodies_done cs loop rest h)

pub loops : (cs : List Frame) (loop : Loop) (rest : List Frame) → callers rest ≡ cs → IsAt cs (begin_loop loop rest)
loops cs (While test s) rest h = starts cs test (Tests (While test s) ∷ rest) h
loops cs (For (Some test) next s) rest h = starts cs test (Tests (For (Some test) next s) ∷ rest) h
loops cs (For None next s) rest h = bodies cs (For None next s) s rest h

pub follows : (cs : List Frame) (rest : List Frame) → callers rest ≡ cs → IsAt cs (follow rest)
follows cs [] h = h
follows cs (Then more ∷ rest) h = begins_all cs more rest (follow rest) h (follows cs rest h)
follows cs (Enters loop ∷ rest) h = loops cs loop rest h
follows cs (Body loop ∷ rest) h = bodies_done cs loop rest h
follows cs (Third loop ∷ rest) h = h
follows cs (Caller call crosses ∷ rest) h = h
follows cs (_ ∷ rest) h = tt

-- a body begins
pub begun : (cs : List Frame) (all : TStmtTrees) (rest : List Frame) → callers rest ≡ cs → IsAt cs (begin_all all rest (follow rest))
begun cs all rest h = begins_all cs all rest (follow rest) h (follows cs rest h)

pub loops_left : (cs : List Frame) (rest : List Frame) → callers rest ≡ cs → Clean cs → IsAt cs (after_loop rest)
loops_left cs [] h c = tt
loops_left cs (Body loop ∷ rest) h c = follows cs rest h
loops_left cs (Caller call crosses ∷ rest) h c = tt
loops_left cs (Arguments f First before more ∷ rest) h c = absurd (subst Clean (sym h) c)
loops_left cs (Arguments f Plainly before more ∷ rest) h c = loops_left cs rest h c
loops_left cs (Arguments f ByGate before more ∷ rest) h c = loops_left cs rest h c
loops_left cs (_ ∷ rest) h c = loops_left cs rest h c

pub rounds : (cs : List Frame) (rest : List Frame) → callers rest ≡ cs → Clean cs → IsAt cs (next_round rest)
rounds cs [] h c = tt
rounds cs (Body (While test s) ∷ rest) h c = loops cs (While test s) rest h
rounds cs (Body (For test next s) ∷ rest) h c = bodies_done cs (For test next s) rest h
rounds cs (Caller call crosses ∷ rest) h c = tt
rounds cs (Arguments f First before more ∷ rest) h c = absurd (subst Clean (sym h) c)
rounds cs (Arguments f Plainly before more ∷ rest) h c = rounds cs rest h c
rounds cs (Arguments f ByGate before more ∷ rest) h c = rounds cs rest h c
rounds cs (_ ∷ rest) h c = rounds cs rest h c

-- ---- values

assigns : (cs : List Frame) (ty : TyTree) (to v : Value) (rest : List Frame) → callers rest ≡ cs → IsAt cs (assign ty to v rest)
assigns cs (IntTy i) to v rest h = h
assigns cs (PtrTy t) to v rest h = h
assigns cs _ to v rest h = h

pub given : (cs : List Frame) (v : Value) (rest : List Frame) → callers rest ≡ cs → IsAt cs (give v rest)
given cs v [] h = tt
given cs v (Loads ty ∷ rest) h = h
given cs v (Applies op ty ∷ rest) h = h
given cs v (Converts from to ∷ rest) h = h
given cs v (Steps struct member ∷ rest) h = h
given cs v (Second op first b ∷ rest) h = starts cs b (Combines op first (type_of b) v ∷ rest) h
given cs w (Combines op first second v ∷ rest) h = h
given cs v (Decides op b ∷ rest) h = h
given cs v (Truth ∷ rest) h = h
given cs v (Arguments f way before NoTExprs ∷ rest) h = h
given cs v (Arguments f way before (MoreTExprs e more) ∷ rest) h = starts cs e (Arguments f way (before ++ v ∷ []) more ∷ rest) h
given cs v (Tells device register ∷ rest) h = h
given cs v (Spawns f ∷ rest) h = h
given cs v (Switches ∷ rest) h = h
given cs v (Target ty e ∷ rest) h = starts cs e (Into ty v ∷ rest) h
given cs v (Into ty to ∷ rest) h = assigns cs ty to v rest h
given cs v (Discards ∷ rest) h = follows cs rest h
given cs v (Forks s other ∷ rest) h = h
given cs v (Tests loop ∷ rest) h = h
given cs v (Answers ∷ rest) h = h
given cs v (_ ∷ rest) h = tt

pub decided : (cs : List Frame) (op : Binop) (b : Bool) (e : TExprTree) (rest : List Frame) → callers rest ≡ cs → IsAt cs (decide op b e rest)
decided cs Land true e rest h = starts cs e (Truth ∷ rest) h
decided cs Land false e rest h = given cs (Number 0) rest h
decided cs Lor true e rest h = given cs (Number 1) rest h
decided cs Lor false e rest h = starts cs e (Truth ∷ rest) h
decided cs op b e rest h = tt

pub branches : (cs : List Frame) (b : Bool) (s : TStmtTree) (other : MaybeTStmt) (rest : List Frame) → callers rest ≡ cs → IsAt cs (branch b s other rest)
branches cs true s other rest h = begins cs s rest (follow rest) h (follows cs rest h)
branches cs false s other rest h = begins_maybe cs other rest (follow rest) h (follows cs rest h)

pub tests : (cs : List Frame) (b : Bool) (loop : Loop) (rest : List Frame) → callers rest ≡ cs → IsAt cs (tested b loop rest)
tests cs true loop rest h = bodies cs loop (loop_body loop) rest h
tests cs false loop rest h = follows cs rest h

if_more : (cs : List Frame) (b : Bool) (ty : TyTree) (to v : Value) (done : ℕ) (rest : List Frame) → callers rest ≡ cs → IsAt cs (if b then Does (ReadByte ty to v done) rest else follow rest)
if_more cs true ty to v done rest h = h
if_more cs false ty to v done rest h = follows cs rest h

pub copied : (cs : List Frame) (p : Program) (ty : TyTree) (to v : Value) (done : ℕ) (rest : List Frame) → callers rest ≡ cs → IsAt cs (next_byte p rest ty to v done)
copied cs p ty to v done rest h = if_more cs (nat_lt done (size_in p ty)) ty to v done rest h

-- the callers above the nearest one are none
pub unwinds : (rest : List Frame) → Clean (callers rest) → callers (unwind rest) ≡ callers rest
unwinds [] c = refl
unwinds (Caller call crosses ∷ rest) c = refl
unwinds (Arguments f First before more ∷ rest) c = absurd c
unwinds (Arguments f Plainly before more ∷ rest) c = unwinds rest c
unwinds (Arguments f ByGate before more ∷ rest) c = unwinds rest c
unwinds (_ ∷ rest) c = unwinds rest c
