-- What costs nothing looks at no mark of a caller.
use Rattle.std.proofs.Common.{◌≡◌, ℕ, ◌+◌, ◌&&◌, Bool, true, false, nat_lt, List, [], ◌∷◌, ◌++◌, map, Some, None, if◌then◌else◌, refl, ap, ◌∙◌}
use Rattle.fx_c_ast.specs.declared.operator.Binop.{Binop}
use Rattle.fx_c_ast.specs.declared.operator.Binop.TheVariants.{Add, Land, Lor}
use Rattle.fx_c_ast.specs.declared.operator.Unop.TheVariants.{Addr}
use Rattle.fx_c_ast.specs.CheckedTrees.{TyTree, IntTy, PtrTy, TExprTree, ENumber, ELiteral, EGlobal, ELocal, EUn, EBin, ECast, EConvert, ESize, EIndex, EMember, EArrow, ECall, EGate, EGetc, EPutc, EDevLoad, EDevStore, ESpawn, ESwitch, EMe, NoTExprs, MoreTExprs, TStmtTree, SEmpty, SBlock, SLocal, SEval, SAssign, SIf, SWhile, SFor, SBreak, SContinue, SReturn, TStmtTrees, NoTStmts, MoreTStmts, MaybeTStmt, NoTStmt, OneTStmt}
use Rattle.fx_c_mean_blocks.specs.declared.value.Value.{Value}
use Rattle.fx_c_mean_blocks.specs.declared.value.Value.TheVariants.{Number}
use Rattle.fx_c_mean_model.specs.Programs.{Program, size_in}
use Rattle.fx_c_mean_model.specs.States.{Loop, While, For, Plainly, ByGate, Frame, Spot, Does, Truth, Loads, Converts, Applies, Steps, Second, Combines, Decides, Arguments, Tells, Spawns, Switches, Target, Into, Discards, Forks, Tests, Answers, Then, Enters, Body, Third, Caller, JumpBack, ReadByte, type_of, is_lvalue, is_scalar, same_type, pointed, wanted, converting, reach, start, begin, begin_maybe, begin_all, after_body, begin_body, begin_loop, follow, loop_body, after_loop, next_round, unwind, assign, give}
use Rattle.fx_c_mean_model.specs.Steps.{next_byte, decide, branch, tested}
use Rattle.fx_c_mean_rights_law.specs.Marks.{marked_frame, marked_spot}

module _ (mark : Bool → Bool) where
  abbrev pub all : List Frame → List Frame
  all rest = map (marked_frame mark) rest

  abbrev pub spot : Spot → Spot
  spot x = marked_spot mark x

  -- ---- expressions

  if_loaded : (b : Bool) (ty : TyTree) (rest : List Frame) → all (if b then Loads ty ∷ rest else rest) ≡ (if b then Loads ty ∷ all rest else all rest)
  if_loaded true ty rest = refl
  if_loaded false ty rest = refl

  want : (e : TExprTree) (rest : List Frame) → all (wanted e rest) ≡ wanted e (all rest)
  want e rest = if_loaded (is_lvalue e && is_scalar (type_of e)) (type_of e) rest

  if_same : (b : Bool) (from to : TyTree) (rest : List Frame) → all (if b then rest else Converts from to ∷ rest) ≡ (if b then all rest else Converts from to ∷ all rest)
  if_same true from to rest = refl
  if_same false from to rest = refl

  convert : (from to : TyTree) (rest : List Frame) → all (converting from to rest) ≡ converting from to (all rest)
  convert from to rest = if_same (same_type from to) from to rest

  reaches : (e : TExprTree) (rest : List Frame) → spot (reach e rest) ≡ reach e (all rest)
  reaches (ENumber ty w) rest = refl
  reaches (ELiteral ty i) rest = refl
  reaches (EGlobal ty i) rest = refl
  reaches (ELocal ty i) rest = refl
  reaches (EUn ty Addr e) rest = reaches e (Applies Addr ty ∷ rest)
  reaches (EUn ty op e) rest = reaches e (wanted e (Applies op (type_of e) ∷ rest)) ∙ ap (reach e) (want e (Applies op (type_of e) ∷ rest))
  reaches (EBin ty Land a b) rest = reaches a (wanted a (Decides Land b ∷ rest)) ∙ ap (reach a) (want a (Decides Land b ∷ rest))
  reaches (EBin ty Lor a b) rest = reaches a (wanted a (Decides Lor b ∷ rest)) ∙ ap (reach a) (want a (Decides Lor b ∷ rest))
  reaches (EBin ty op a b) rest = reaches a (wanted a (Second op (type_of a) b ∷ rest)) ∙ ap (reach a) (want a (Second op (type_of a) b ∷ rest))
  reaches (ECast ty e) rest = reaches e (wanted e (converting (type_of e) ty rest)) ∙ ap (reach e) (want e (converting (type_of e) ty rest) ∙ ap (wanted e) (convert (type_of e) ty rest))
  reaches (EConvert ty e) rest = reaches e (wanted e (converting (type_of e) ty rest)) ∙ ap (reach e) (want e (converting (type_of e) ty rest) ∙ ap (wanted e) (convert (type_of e) ty rest))
  reaches (ESize ty t) rest = refl
  reaches (EIndex ty a b) rest = reaches a (wanted a (Second Add (type_of a) b ∷ rest)) ∙ ap (reach a) (want a (Second Add (type_of a) b ∷ rest))
  reaches (EMember ty e i) rest = reaches e (Steps (type_of e) i ∷ rest)
  reaches (EArrow ty e i) rest = reaches e (wanted e (Steps (pointed (type_of e)) i ∷ rest)) ∙ ap (reach e) (want e (Steps (pointed (type_of e)) i ∷ rest))
  reaches (ECall ty f NoTExprs) rest = refl
  reaches (ECall ty f (MoreTExprs e more)) rest = reaches e (wanted e (Arguments f Plainly [] more ∷ rest)) ∙ ap (reach e) (want e (Arguments f Plainly [] more ∷ rest))
  reaches (EGate ty f NoTExprs) rest = refl
  reaches (EGate ty f (MoreTExprs e more)) rest = reaches e (wanted e (Arguments f ByGate [] more ∷ rest)) ∙ ap (reach e) (want e (Arguments f ByGate [] more ∷ rest))
  reaches (EGetc ty) rest = refl
  reaches (EPutc ty e) rest = reaches e (wanted e (Tells 0 0 ∷ rest)) ∙ ap (reach e) (want e (Tells 0 0 ∷ rest))
  reaches (EDevLoad ty d g) rest = refl
  reaches (EDevStore ty d g e) rest = reaches e (wanted e (Tells d g ∷ rest)) ∙ ap (reach e) (want e (Tells d g ∷ rest))
  reaches (ESpawn ty f e) rest = reaches e (wanted e (Spawns f ∷ rest)) ∙ ap (reach e) (want e (Spawns f ∷ rest))
  reaches (ESwitch ty e) rest = reaches e (wanted e (Switches ∷ rest)) ∙ ap (reach e) (want e (Switches ∷ rest))
  reaches (EMe ty) rest = refl

  starts : (e : TExprTree) (rest : List Frame) → spot (start e rest) ≡ start e (all rest)
  starts e rest = reaches e (wanted e rest) ∙ ap (reach e) (want e rest)

  -- ---- statements

  mutual
    begins : (s : TStmtTree) (rest : List Frame) (done : Spot) → spot (begin s rest done) ≡ begin s (all rest) (spot done)
    begins SEmpty rest done = refl
    begins (SBlock ss) rest done = begins_all ss rest done
    begins (SLocal i None) rest done = refl
    begins (SLocal i (Some e)) rest done = refl
    begins (SEval e) rest done = starts e (Discards ∷ rest)
    begins (SAssign to e) rest done = reaches to (Target (type_of to) e ∷ rest)
    begins (SIf test s other) rest done = starts test (Forks s other ∷ rest)
    begins (SWhile test s) rest done = starts test (Tests (While test s) ∷ rest)
    begins (SFor first (Some test) next s) rest done =
        begins_maybe first (Enters (For (Some test) next s) ∷ rest) (start test (Tests (For (Some test) next s) ∷ rest))
        ∙ ap (begin_maybe first (Enters (For (Some test) next s) ∷ all rest)) (starts test (Tests (For (Some test) next s) ∷ rest))
    begins (SFor first None next s) rest done =
        let last = Does (JumpBack (For None next s)) rest in
        let third = begin_maybe next (Third (For None next s) ∷ rest) last in
        begins_maybe first (Enters (For None next s) ∷ rest) (begin s (Body (For None next s) ∷ rest) third)
        ∙ ap (begin_maybe first (Enters (For None next s) ∷ all rest)) (begins s (Body (For None next s) ∷ rest) third ∙ ap (begin s (Body (For None next s) ∷ all rest)) (begins_maybe next (Third (For None next s) ∷ rest) last))
    begins SBreak rest done = refl
    begins SContinue rest done = refl
    begins (SReturn None) rest done = refl
    begins (SReturn (Some e)) rest done = starts e (Answers ∷ rest)

    begins_maybe : (s : MaybeTStmt) (rest : List Frame) (done : Spot) → spot (begin_maybe s rest done) ≡ begin_maybe s (all rest) (spot done)
    begins_maybe NoTStmt rest done = refl
    begins_maybe (OneTStmt s) rest done = begins s rest done

    begins_all : (ss : TStmtTrees) (rest : List Frame) (done : Spot) → spot (begin_all ss rest done) ≡ begin_all ss (all rest) (spot done)
    begins_all NoTStmts rest done = refl
    begins_all (MoreTStmts s more) rest done = begins s (Then more ∷ rest) (begin_all more rest done) ∙ ap (begin s (Then more ∷ all rest)) (begins_all more rest done)

  bodies_done : (loop : Loop) (rest : List Frame) → spot (after_body loop rest) ≡ after_body loop (all rest)
  bodies_done (While test s) rest = refl
  bodies_done (For test next s) rest = begins_maybe next (Third (For test next s) ∷ rest) (Does (JumpBack (For test next s)) rest)

  bodies : (loop : Loop) (s : TStmtTree) (rest : List Frame) → spot (begin_body loop s rest) ≡ begin_body loop s (all rest)
  bodies loop s rest = begins s (Body loop ∷ rest) (after_body loop rest) ∙ ap (begin s (Body loop ∷ all rest)) (bodies_done loop rest)

  pub loops : (loop : Loop) (rest : List Frame) → spot (begin_loop loop rest) ≡ begin_loop loop (all rest)
  loops (While test s) rest = starts test (Tests (While test s) ∷ rest)
  loops (For (Some test) next s) rest = starts test (Tests (For (Some test) next s) ∷ rest)
  loops (For None next s) rest = bodies (For None next s) s rest

  pub follows : (rest : List Frame) → spot (follow rest) ≡ follow (all rest)
  follows [] = refl
  follows (Then more ∷ rest) = begins_all more rest (follow rest) ∙ ap (begin_all more (all rest)) (follows rest)
  follows (Enters loop ∷ rest) = loops loop rest
  follows (Body loop ∷ rest) = bodies_done loop rest
  follows (Third loop ∷ rest) = refl
  follows (Caller call crosses ∷ rest) = refl
  follows (_ ∷ rest) = refl

  -- a body begins
  pub begun : (ss : TStmtTrees) (rest : List Frame) → spot (begin_all ss rest (follow rest)) ≡ begin_all ss (all rest) (follow (all rest))
  begun ss rest = begins_all ss rest (follow rest) ∙ ap (begin_all ss (all rest)) (follows rest)

  pub left : (rest : List Frame) → spot (after_loop rest) ≡ after_loop (all rest)
  left [] = refl
  left (Body loop ∷ rest) = follows rest
  left (Caller call crosses ∷ rest) = refl
  left (_ ∷ rest) = left rest

  pub rounds : (rest : List Frame) → spot (next_round rest) ≡ next_round (all rest)
  rounds [] = refl
  rounds (Body (While test s) ∷ rest) = loops (While test s) rest
  rounds (Body (For test next s) ∷ rest) = bodies_done (For test next s) rest
  rounds (Caller call crosses ∷ rest) = refl
  rounds (_ ∷ rest) = rounds rest

  pub unwinds : (rest : List Frame) → all (unwind rest) ≡ unwind (all rest)
  unwinds [] = refl
  unwinds (Caller call crosses ∷ rest) = refl
  unwinds (_ ∷ rest) = unwinds rest

  -- ---- values

  assigns : (ty : TyTree) (to v : Value) (rest : List Frame) → spot (assign ty to v rest) ≡ assign ty to v (all rest)
  assigns (IntTy i) to v rest = refl
  assigns (PtrTy t) to v rest = refl
  assigns _ to v rest = refl

  pub given : (v : Value) (rest : List Frame) → spot (give v rest) ≡ give v (all rest)
  given v [] = refl
  given v (Loads ty ∷ rest) = refl
  given v (Applies op ty ∷ rest) = refl
  given v (Converts from to ∷ rest) = refl
  given v (Steps struct member ∷ rest) = refl
  given v (Second op first b ∷ rest) = starts b (Combines op first (type_of b) v ∷ rest)
  given w (Combines op first second v ∷ rest) = refl
  given v (Decides op b ∷ rest) = refl
  given v (Truth ∷ rest) = refl
  given v (Arguments f way before NoTExprs ∷ rest) = refl
  given v (Arguments f way before (MoreTExprs e more) ∷ rest) = starts e (Arguments f way (before ++ v ∷ []) more ∷ rest)
  given v (Tells device register ∷ rest) = refl
  given v (Spawns f ∷ rest) = refl
  given v (Switches ∷ rest) = refl
  given v (Target ty e ∷ rest) = starts e (Into ty v ∷ rest)
  given v (Into ty to ∷ rest) = assigns ty to v rest
  given v (Discards ∷ rest) = follows rest
  given v (Forks s other ∷ rest) = refl
  given v (Tests loop ∷ rest) = refl
  given v (Answers ∷ rest) = refl
  given v (_ ∷ rest) = refl

  pub decided : (op : Binop) (b : Bool) (e : TExprTree) (rest : List Frame) → spot (decide op b e rest) ≡ decide op b e (all rest)
  decided Land true e rest = starts e (Truth ∷ rest)
  decided Land false e rest = given (Number 0) rest
  decided Lor true e rest = given (Number 1) rest
  decided Lor false e rest = starts e (Truth ∷ rest)
  decided op b e rest = refl

  pub branches : (b : Bool) (s : TStmtTree) (other : MaybeTStmt) (rest : List Frame) → spot (branch b s other rest) ≡ branch b s other (all rest)
  branches true s other rest = begins s rest (follow rest) ∙ ap (begin s (all rest)) (follows rest)
  branches false s other rest = begins_maybe other rest (follow rest) ∙ ap (begin_maybe other (all rest)) (follows rest)

  pub tests : (b : Bool) (loop : Loop) (rest : List Frame) → spot (tested b loop rest) ≡ tested b loop (all rest)
  tests true loop rest = bodies loop (loop_body loop) rest
  tests false loop rest = follows rest

  if_more : (b : Bool) (ty : TyTree) (to v : Value) (done : ℕ) (rest : List Frame) → spot (if b then Does (ReadByte ty to v done) rest else follow rest) ≡ (if b then Does (ReadByte ty to v done) (all rest) else follow (all rest))
  if_more true ty to v done rest = refl
  if_more false ty to v done rest = follows rest

  pub copied : (p : Program) (ty : TyTree) (to v : Value) (done : ℕ) (rest : List Frame) → spot (next_byte p rest ty to v done) ≡ next_byte p (all rest) ty to v done
  copied p ty to v done rest = if_more (nat_lt done (size_in p ty)) ty to v done rest
