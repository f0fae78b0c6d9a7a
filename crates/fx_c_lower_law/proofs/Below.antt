-- What the source does at once leaves the callers' frames.
use Rattle.std.proofs.Common.{Bool, true, false, List, [], ◌∷◌, Some, None, if◌then◌else◌}
use Rattle.fx_c_ast.specs.declared.operator.Unop.TheVariants.{Addr}
use Rattle.fx_c_ast.specs.declared.operator.Binop.TheVariants.{Land, Lor}
use Rattle.fx_c_ast.specs.CheckedTrees.{TyTree, IntTy, PtrTy, TExprTree, ENumber, ELiteral, EGlobal, ELocal, EUn, EBin, ECast, EConvert, ESize, EIndex, EMember, EArrow, ECall, EGate, EGetc, EPutc, EDevLoad, EDevStore, ESpawn, ESwitch, EMe, NoTExprs, MoreTExprs, TStmtTree, SEmpty, SBlock, SLocal, SEval, SAssign, SIf, SWhile, SFor, SBreak, SContinue, SReturn, TStmtTrees, NoTStmts, MoreTStmts, MaybeTStmt, NoTStmt, OneTStmt}
use Rattle.fx_c_mean_blocks.specs.declared.value.Value.{Value}
use Rattle.fx_c_mean_blocks.specs.declared.block.Place.{Place}
use Rattle.fx_c_mean_model.specs.Programs.{Program}
use Rattle.fx_c_mean_model.specs.States.{Loop, While, For, Frame, Loads, Applies, Converts, Steps, Second, Combines, Decides, Truth, Arguments, Tells, Spawns, Switches, Target, Into, Discards, Forks, Tests, Answers, Then, Enters, Body, Third, Caller, Spot, type_of, same_type, wanted, reach, start, give, begin, begin_maybe, begin_all, begin_loop, begin_body, after_body, follow, after_loop, next_round, unwind, loop_body}
use Rattle.fx_c_lin.specs.Ops.{Step}
use Rattle.fx_c_lin.specs.Machine.{Saved}
use Rattle.fx_c_lower_model.specs.Steps.{is_loaded}
use Rattle.fx_c_lower_law.proofs.Relation as relation

module _ (p : Program) (all : List (List Step)) (places : List Place) (cs : List Saved) where
  abbrev Leaves : List Frame → Type 0
  Leaves rest = relation.Leaves p all places rest cs

  abbrev Below : Spot → Type 0
  Below spot = relation.BelowAt p all places spot cs

  either : (b : Bool) (x y : List Frame) → Leaves x → Leaves y → Leaves (if b then x else y)
  either true x y h k = h
  either false x y h k = k

  -- with a frame before them or without
  loaded : (e : TExprTree) (rest : List Frame) → Leaves rest → Leaves (wanted e rest)
  loaded e rest h = either (is_loaded e) (Loads (type_of e) ∷ rest) rest h h

  cast : (s t : TyTree) (rest : List Frame) → Leaves rest → Leaves (if same_type s t then rest else Converts s t ∷ rest)
  cast s t rest h = either (same_type s t) rest (Converts s t ∷ rest) h h

  pub below_reach : (e : TExprTree) (rest : List Frame) → Leaves rest → Below (reach e rest)
  below_reach (ENumber ty w) rest h = h
  below_reach (ELiteral ty n) rest h = h
  below_reach (EGlobal ty n) rest h = h
  below_reach (ELocal ty n) rest h = h
  below_reach (EUn ty Addr e) rest h = below_reach e (Applies Addr ty ∷ rest) h
  below_reach (EUn ty o e) rest h = below_reach e (wanted e (Applies o (type_of e) ∷ rest)) (loaded e _ h)
  below_reach (EBin ty Land a b) rest h = below_reach a (wanted a (Decides Land b ∷ rest)) (loaded a _ h)
  below_reach (EBin ty Lor a b) rest h = below_reach a (wanted a (Decides Lor b ∷ rest)) (loaded a _ h)
  below_reach (EBin ty o a b) rest h = below_reach a (wanted a (Second o (type_of a) b ∷ rest)) (loaded a _ h)
  below_reach (ECast ty e) rest h = below_reach e _ (loaded e _ (cast (type_of e) ty rest h))
  below_reach (EConvert ty e) rest h = below_reach e _ (loaded e _ (cast (type_of e) ty rest h))
  below_reach (ESize ty t) rest h = h
  below_reach (EIndex ty a b) rest h = below_reach a _ (loaded a _ h)
  below_reach (EMember ty e n) rest h = below_reach e _ h
  below_reach (EArrow ty e n) rest h = below_reach e _ (loaded e _ h)
  below_reach (ECall ty f NoTExprs) rest h = h
  below_reach (ECall ty f (MoreTExprs e more)) rest h = below_reach e _ (loaded e _ h)
  below_reach (EGate ty f NoTExprs) rest h = h
  below_reach (EGate ty f (MoreTExprs e more)) rest h = below_reach e _ (loaded e _ h)
  below_reach (EGetc ty) rest h = h
  below_reach (EPutc ty e) rest h = below_reach e _ (loaded e _ h)
  below_reach (EDevLoad ty d r) rest h = h
  below_reach (EDevStore ty d r e) rest h = below_reach e _ (loaded e _ h)
  below_reach (ESpawn ty f e) rest h = below_reach e _ (loaded e _ h)
  below_reach (ESwitch ty e) rest h = below_reach e _ (loaded e _ h)
  below_reach (EMe ty) rest h = h

  pub below_start : (e : TExprTree) (rest : List Frame) → Leaves rest → Below (start e rest)
  below_start e rest h = below_reach e (wanted e rest) (loaded e rest h)

  mutual
    pub below_begin : (s : TStmtTree) (rest : List Frame) (done : Spot) → Leaves rest → Below done → Below (begin s rest done)
    below_begin SEmpty rest done h k = k
    below_begin (SBlock all2) rest done h k = below_all all2 rest done h k
    below_begin (SLocal n None) rest done h k = k
    below_begin (SLocal n (Some e)) rest done h k = h
    below_begin (SEval e) rest done h k = below_start e _ h
    below_begin (SAssign to e) rest done h k = below_reach to _ h
    below_begin (SIf test s other) rest done h k = below_start test _ h
    below_begin (SWhile test s) rest done h k = below_start test _ h
    below_begin (SFor first (Some test) next s) rest done h k = below_maybe first _ _ h (below_start test _ h)
    below_begin (SFor first None next s) rest done h k = below_maybe first _ _ h (below_begin s _ _ h (below_maybe next _ _ h h))
    below_begin SBreak rest done h k = h
    below_begin SContinue rest done h k = h
    below_begin (SReturn None) rest done h k = h
    below_begin (SReturn (Some e)) rest done h k = below_start e _ h

    pub below_maybe : (s : MaybeTStmt) (rest : List Frame) (done : Spot) → Leaves rest → Below done → Below (begin_maybe s rest done)
    below_maybe NoTStmt rest done h k = k
    below_maybe (OneTStmt s) rest done h k = below_begin s rest done h k

    pub below_all : (all2 : TStmtTrees) (rest : List Frame) (done : Spot) → Leaves rest → Below done → Below (begin_all all2 rest done)
    below_all NoTStmts rest done h k = k
    below_all (MoreTStmts s more) rest done h k = below_begin s _ _ h (below_all more rest done h k)

  pub below_after_body : (loop : Loop) (rest : List Frame) → Leaves rest → Below (after_body loop rest)
  below_after_body (While test s) rest h = h
  below_after_body (For test next s) rest h = below_maybe next _ _ h h

  pub below_loop : (loop : Loop) (rest : List Frame) → Leaves rest → Below (begin_loop loop rest)
  below_loop (While test s) rest h = below_start test _ h
  below_loop (For (Some test) next s) rest h = below_start test _ h
  below_loop (For None next s) rest h = below_begin s _ _ h (below_after_body (For None next s) rest h)

  pub below_body : (loop : Loop) (rest : List Frame) → Leaves rest → Below (begin_body loop (loop_body loop) rest)
  below_body (While test s) rest h = below_begin s _ _ h (below_after_body (While test s) rest h)
  below_body (For test next s) rest h = below_begin s _ _ h (below_after_body (For test next s) rest h)

  pub below_follow : (rest : List Frame) → Leaves rest → Below (follow rest)
  below_follow [] h = h
  below_follow (Then more ∷ rest) h = below_all more rest (follow rest) h (below_follow rest h)
  below_follow (Enters loop ∷ rest) h = below_loop loop rest h
  below_follow (Body loop ∷ rest) h = below_after_body loop rest h
  below_follow (Third loop ∷ rest) h = h
  below_follow (Caller call crosses ∷ rest) h = h
  below_follow (x ∷ rest) h = tt

  pub below_after : (rest : List Frame) → Leaves rest → Below (after_loop rest)
  below_after [] h = tt
  below_after (Body loop ∷ rest) h = below_follow rest h
  below_after (Caller call crosses ∷ rest) h = tt
  below_after (x ∷ rest) h = below_after rest h

  pub below_round : (rest : List Frame) → Leaves rest → Below (next_round rest)
  below_round [] h = tt
  below_round (Body (While test s) ∷ rest) h = below_loop (While test s) rest h
  below_round (Body (For test next s) ∷ rest) h = below_after_body (For test next s) rest h
  below_round (Caller call crosses ∷ rest) h = tt
  below_round (x ∷ rest) h = below_round rest h

  pub below_give : (rest : List Frame) (v : Value) → Leaves rest → Below (give v rest)
  below_give [] v h = tt
  below_give (Loads ty ∷ rest) v h = h
  below_give (Applies o ty ∷ rest) v h = h
  below_give (Converts s t ∷ rest) v h = h
  below_give (Steps struct member ∷ rest) v h = h
  below_give (Second o first b ∷ rest) v h = below_start b _ h
  below_give (Combines o first second w ∷ rest) v h = h
  below_give (Decides o b ∷ rest) v h = h
  below_give (Truth ∷ rest) v h = h
  below_give (Arguments g way before NoTExprs ∷ rest) v h = h
  below_give (Arguments g way before (MoreTExprs e more) ∷ rest) v h = below_start e _ h
  below_give (Tells device register ∷ rest) v h = h
  below_give (Spawns g ∷ rest) v h = h
  below_give (Switches ∷ rest) v h = h
  below_give (Target ty e ∷ rest) v h = below_start e _ h
  below_give (Into (IntTy i) to ∷ rest) v h = h
  below_give (Into (PtrTy t) to ∷ rest) v h = h
  below_give (Into ty to ∷ rest) v h = h
  below_give (Discards ∷ rest) v h = below_follow rest h
  below_give (Forks s other ∷ rest) v h = h
  below_give (Tests loop ∷ rest) v h = h
  below_give (Answers ∷ rest) v h = h
  below_give (x ∷ rest) v h = tt

  pub leaves_unwound : (rest : List Frame) → Leaves rest → Leaves (unwind rest)
  leaves_unwound [] h = h
  leaves_unwound (Caller call crosses ∷ rest) h = h
  leaves_unwound (x ∷ rest) h = leaves_unwound rest h
