-- What follows at each node of what holds there.
use Rattle.std.specs.Prelude.{Option, Some, None}
use Rattle.fx_c_ast.specs.CheckedTrees.{TExprTree, ENumber, ELiteral, EGlobal, ELocal, EUn, EBin, ECast, EConvert, ESize, EIndex, EMember, EArrow, ECall, EGate, EGetc, EPutc, EDevLoad, EDevStore, ESpawn, ESwitch, EMe, TExprTrees, NoTExprs, MoreTExprs, TStmtTree, SEmpty, SBlock, SLocal, SEval, SAssign, SIf, SWhile, SFor, SBreak, SContinue, SReturn, TStmtTrees, NoTStmts, MoreTStmts, MaybeTStmt, NoTStmt, OneTStmt}
use Rattle.fx_c_types_model.specs.Each.{Each, EachOfAll, EachOfValue, EachIn, EachInMaybe, EachInAll}

module _ (P Q : TExprTree → Type 0) (follows : (e : TExprTree) → P e → Q e) where
  mutual
    pub each : (e : TExprTree) → Each P e → Each Q e
    each (ENumber ty value) h = follows (ENumber ty value) h
    each (ELiteral ty n) h = follows (ELiteral ty n) h
    each (EGlobal ty n) h = follows (EGlobal ty n) h
    each (ELocal ty n) h = follows (ELocal ty n) h
    each (EUn ty op e) h = (follows (EUn ty op e) h.0, each e h.1)
    each (EBin ty op a b) h = (follows (EBin ty op a b) h.0, each a h.1, each b h.2)
    each (ECast ty e) h = (follows (ECast ty e) h.0, each e h.1)
    each (EConvert ty e) h = (follows (EConvert ty e) h.0, each e h.1)
    each (ESize ty of) h = follows (ESize ty of) h
    each (EIndex ty a b) h = (follows (EIndex ty a b) h.0, each a h.1, each b h.2)
    each (EMember ty e n) h = (follows (EMember ty e n) h.0, each e h.1)
    each (EArrow ty e n) h = (follows (EArrow ty e n) h.0, each e h.1)
    each (ECall ty f all) h = (follows (ECall ty f all) h.0, each_of_all all h.1)
    each (EGate ty f all) h = (follows (EGate ty f all) h.0, each_of_all all h.1)
    each (EGetc ty) h = follows (EGetc ty) h
    each (EPutc ty e) h = (follows (EPutc ty e) h.0, each e h.1)
    each (EDevLoad ty device register) h = follows (EDevLoad ty device register) h
    each (EDevStore ty device register e) h = (follows (EDevStore ty device register e) h.0, each e h.1)
    each (ESpawn ty f e) h = (follows (ESpawn ty f e) h.0, each e h.1)
    each (ESwitch ty e) h = (follows (ESwitch ty e) h.0, each e h.1)
    each (EMe ty) h = follows (EMe ty) h

    each_of_all : (all : TExprTrees) → EachOfAll P all → EachOfAll Q all
    each_of_all NoTExprs h = tt
    each_of_all (MoreTExprs e rest) h = (each e h.0, each_of_all rest h.1)

  each_of_value : (e : Option TExprTree) → EachOfValue P e → EachOfValue Q e
  each_of_value None h = tt
  each_of_value (Some e) h = each e h

  mutual
    each_in : (s : TStmtTree) → EachIn P s → EachIn Q s
    each_in SEmpty h = tt
    each_in (SBlock all) h = each_in_all all h
    each_in (SLocal n init) h = each_of_value init h
    each_in (SEval e) h = each e h
    each_in (SAssign to e) h = (each to h.0, each e h.1)
    each_in (SIf test s other) h = (each test h.0, each_in s h.1, each_in_maybe other h.2)
    each_in (SWhile test s) h = (each test h.0, each_in s h.1)
    each_in (SFor first test next s) h = (each_in_maybe first h.0, each_of_value test h.1, each_in_maybe next h.2, each_in s h.3)
    each_in SBreak h = tt
    each_in SContinue h = tt
    each_in (SReturn e) h = each_of_value e h

    each_in_maybe : (s : MaybeTStmt) → EachInMaybe P s → EachInMaybe Q s
    each_in_maybe NoTStmt h = tt
    each_in_maybe (OneTStmt s) h = each_in s h

    pub each_in_all : (all : TStmtTrees) → EachInAll P all → EachInAll Q all
    each_in_all NoTStmts h = tt
    each_in_all (MoreTStmts s rest) h = (each_in s h.0, each_in_all rest h.1)
