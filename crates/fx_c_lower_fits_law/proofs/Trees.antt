-- Trees whose types are right fit the law of lowering.
use Rattle.std.proofs.Common.{◌≡◌, ℕ, ◌⊎◌, inl, inr, List, [], ◌∷◌, length, Option, Some, None, refl, sym, ◌∙◌, subst, arith}
use Rattle.std.specs.Prelude.{slice_get}
use Rattle.fx_c_ast.specs.declared.operator.Binop.{Binop}
use Rattle.fx_c_ast.specs.declared.operator.Binop.TheVariants.{Add, Sub, Shl, Shr, Lt, Gt, Le, Ge, Eq, Ne, Land, Lor}
use Rattle.fx_c_ast.specs.CheckedTrees.{TyTree, IntTy, PtrTy, TExprTree, ENumber, ELiteral, EGlobal, ELocal, EUn, EBin, ECast, EConvert, ESize, EIndex, EMember, EArrow, ECall, EGate, EGetc, EPutc, EDevLoad, EDevStore, ESpawn, ESwitch, EMe, TExprTrees, NoTExprs, MoreTExprs, TStmtTree, SEmpty, SBlock, SLocal, SEval, SAssign, SIf, SWhile, SFor, SBreak, SContinue, SReturn, TStmtTrees, NoTStmts, MoreTStmts, MaybeTStmt, NoTStmt, OneTStmt}
use Rattle.fx_c_types_rules.specs.Locals.{LocalTree}
use Rattle.fx_c_types_rules.specs.Values as rules
use Rattle.fx_c_types_heads.specs.Heads.{FunctionHead}
use Rattle.fx_c_mean_model.specs.Programs.{Program, function_at}
use Rattle.fx_c_mean_model.specs.States.{type_of}
use Rattle.fx_c_types_model.specs.Tables.{Tables, local_type}
use Rattle.fx_c_types_model.specs.Nodes.{IsInteger, IsScalar, IsArithmetic, IsShift, IsComparison, IsMove, IsDistance, FitsBinary, ArePassed, Calls, Enters}
use Rattle.fx_c_types_model.specs.Trees.{IsTyped, AreTyped, IsMaybeTest, IsStart, IsReturned, IsRight, MaybeRight, AreRight}
use Rattle.fx_c_types_model.specs.Each.{Each, EachOfAll, EachOfValue, EachIn, EachInMaybe, EachInAll}
use Rattle.fx_c_lower_law.specs.Fits.{count, FitsPair, FitsLocal, Fits, FitsAll, FitsMaybe, FitsStart, FitsStmt, FitsOther, FitsStmts}
use Rattle.fx_c_lower_fits_law.specs.Moves.{IsMovedBy, MovesFit}

same_type : (e : TExprTree) → rules.type_of e ≡ type_of e
same_type (ENumber ty w) = refl
same_type (ELiteral ty n) = refl
same_type (EGlobal ty n) = refl
same_type (ELocal ty n) = refl
same_type (EUn ty o e) = refl
same_type (EBin ty o a b) = refl
same_type (ECast ty e) = refl
same_type (EConvert ty e) = refl
same_type (ESize ty t) = refl
same_type (EIndex ty a b) = refl
same_type (EMember ty e n) = refl
same_type (EArrow ty e n) = refl
same_type (ECall ty f all) = refl
same_type (EGate ty f all) = refl
same_type (EGetc ty) = refl
same_type (EPutc ty e) = refl
same_type (EDevLoad ty d r) = refl
same_type (EDevStore ty d r e) = refl
same_type (ESpawn ty f e) = refl
same_type (ESwitch ty e) = refl
same_type (EMe ty) = refl

-- ---- two operands

integers_fit : (o : Binop) (s t : TyTree) → IsInteger s → IsInteger t → FitsPair o s t
integers_fit o (IntTy i) (IntTy j) h k = tt
integers_fit o (IntTy i) t h k = absurd k
integers_fit o s t h k = absurd h

arithmetic_fits : (o : Binop) (ty s t : TyTree) → IsArithmetic ty s t → FitsPair o s t
arithmetic_fits o ty s t h = integers_fit o s t (subst IsInteger (sym h.1) h.0) (subst IsInteger (sym h.2) h.0)

shift_fits : (o : Binop) (ty s t : TyTree) → IsShift ty s t → FitsPair o s t
shift_fits o ty s t h = integers_fit o s t (subst IsInteger (sym h.1) h.0) h.2

same_fits : (o : Binop) (s : TyTree) → IsScalar s → FitsPair o s s
same_fits o (IntTy i) h = tt
same_fits o (PtrTy t) h = tt
same_fits o s h = absurd h

comparison_fits : (o : Binop) (ty s t : TyTree) → IsComparison ty s t → FitsPair o s t
comparison_fits o ty s t h = subst (λ x. FitsPair o s x) h.1 (same_fits o s h.2)

moved_fits : (k : ℕ) (ty s t : TyTree) → IsMove k ty s t → IsMovedBy s t → FitsPair Add s t × FitsPair Sub s t
moved_fits k ty (PtrTy s) (IntTy i) h m = (m, m)
moved_fits k ty (PtrTy s) t h m = absurd h.2
moved_fits k ty s t h m = absurd h.0

moved_by_fits : (k : ℕ) (ty s t : TyTree) → IsMove k ty t s → IsMovedBy s t → FitsPair Add s t
moved_by_fits k ty (IntTy i) (PtrTy t) h m = m
moved_by_fits k ty (IntTy i) t h m = absurd h.0
moved_by_fits k ty s t h m = absurd h.2

distance_fits : (k : ℕ) (ty s t : TyTree) → IsDistance k ty s t → FitsPair Sub s t
distance_fits k ty (PtrTy s) t h = subst (λ x. FitsPair Sub (PtrTy s) x) h.1 tt
distance_fits k ty s t h = absurd h.0

pair_fits : (o : Binop) (k : ℕ) (ty s t : TyTree) → FitsBinary k o ty s t → IsMovedBy s t → o ≡ Land ⊎ (o ≡ Lor ⊎ FitsPair o s t)
pair_fits Land k ty s t h m = inl refl
pair_fits Lor k ty s t h m = inr (inl refl)
pair_fits Add k ty s t (inl h) m = inr (inr (arithmetic_fits Add ty s t h))
pair_fits Add k ty s t (inr (inl h)) m = inr (inr (moved_fits k ty s t h m).0)
pair_fits Add k ty s t (inr (inr h)) m = inr (inr (moved_by_fits k ty s t h m))
pair_fits Sub k ty s t (inl h) m = inr (inr (arithmetic_fits Sub ty s t h))
pair_fits Sub k ty s t (inr (inl h)) m = inr (inr (moved_fits k ty s t h m).1)
pair_fits Sub k ty s t (inr (inr h)) m = inr (inr (distance_fits k ty s t h))
pair_fits Shl k ty s t h m = inr (inr (shift_fits Shl ty s t h))
pair_fits Shr k ty s t h m = inr (inr (shift_fits Shr ty s t h))
pair_fits Lt k ty s t h m = inr (inr (comparison_fits Lt ty s t h))
pair_fits Gt k ty s t h m = inr (inr (comparison_fits Gt ty s t h))
pair_fits Le k ty s t h m = inr (inr (comparison_fits Le ty s t h))
pair_fits Ge k ty s t h m = inr (inr (comparison_fits Ge ty s t h))
pair_fits Eq k ty s t h m = inr (inr (comparison_fits Eq ty s t h))
pair_fits Ne k ty s t h m = inr (inr (comparison_fits Ne ty s t h))
pair_fits o k ty s t h m = inr (inr (arithmetic_fits o ty s t h))

index_fits : (ty s t : TyTree) → s ≡ PtrTy ty → IsInteger t → IsMovedBy s t → FitsPair Add s t
index_fits ty (PtrTy s) (IntTy i) e h m = m
index_fits ty (PtrTy s) t e h m = absurd h
index_fits ty s t e h m = absurd cc

-- ---- calls

passed : (ps : List LocalTree) (all : TExprTrees) → ArePassed ps all → count all ≡ length ps
passed [] NoTExprs h = refl
passed (x ∷ ps) (MoreTExprs e more) h = omega (arith, passed ps more h.2)
passed [] (MoreTExprs e more) h = absurd h
passed (x ∷ ps) NoTExprs h = absurd h

module _ (g : Tables) (p : Program) (i : ℕ) (locals : (ty : TyTree) (n : ℕ) → local_type g.locals n ≡ Some ty → FitsLocal p i ty n) (arity : (n : ℕ) (f : FunctionHead) → slice_get g.functions n ≡ Some f → (function_at p n).params ≡ length f.params) where
  calls : (x : Option FunctionHead) (n library : ℕ) (ty : TyTree) (all : TExprTrees) → slice_get g.functions n ≡ x → Calls library x ty all → count all ≡ (function_at p n).params
  calls None n library ty all e h = absurd h
  calls (Some f) n library ty all e h = passed f.params all h.2 ∙ sym (arity n f e)

  enters : (x : Option FunctionHead) (n : ℕ) (ty : TyTree) (all : TExprTrees) → slice_get g.functions n ≡ x → Enters x ty all → count all ≡ (function_at p n).params
  enters None n ty all e h = absurd h
  enters (Some f) n ty all e h = passed f.params all h.2 ∙ sym (arity n f e)

  binary : (ty : TyTree) (o : Binop) (a b : TExprTree) → FitsBinary (length g.structs) o ty (rules.type_of a) (rules.type_of b) → IsMovedBy (type_of a) (type_of b) → Fits p i a → Fits p i b → Fits p i (EBin ty o a b)
  binary ty Land a b h m x y = (x, y)
  binary ty Lor a b h m x y = (x, y)
  binary ty o a b h m x y = (of (pair_fits o (length g.structs) ty (type_of a) (type_of b) (subst (λ t. FitsBinary (length g.structs) o ty (type_of a) t) (same_type b) (subst (λ s. FitsBinary (length g.structs) o ty s (rules.type_of b)) (same_type a) h)) m), x, y) where
    of : o ≡ Land ⊎ (o ≡ Lor ⊎ FitsPair o (type_of a) (type_of b)) → FitsPair o (type_of a) (type_of b)
    of (inl e) = absurd cc
    of (inr (inl e)) = absurd cc
    of (inr (inr f)) = f

  mutual
    fits : (e : TExprTree) → IsTyped g e → Each MovesFit e → Fits p i e
    fits (ELocal ty n) h m = locals ty n h.1
    fits (EUn ty o e) h m = fits e h.2 m.1
    fits (EBin ty o a b) h m = binary ty o a b h.1 m.0 (fits a h.2 m.1) (fits b h.3 m.2)
    fits (ECast ty e) h m = fits e h.2 m.1
    fits (EConvert ty e) h m = fits e h.2 m.1
    fits (EIndex ty a b) h m = (index_fits ty (type_of a) (type_of b) (sym (same_type a) ∙ h.1) (subst IsInteger (same_type b) h.3) m.0, fits a h.4 m.1, fits b h.5 m.2)
    fits (EMember ty e n) h m = fits e h.3 m.1
    fits (EArrow ty e n) h m = fits e h.3 m.1
    fits (ECall ty f all) h m = (calls (slice_get g.functions f) f g.library ty all refl h.1, fit_all all h.2 m.1)
    fits (EGate ty f all) h m = (enters (slice_get g.functions f) f ty all refl h.1, fit_all all h.2 m.1)
    fits (EPutc ty e) h m = fits e h.3 m.1
    fits (EDevStore ty d r e) h m = fits e h.3 m.1
    fits (ESpawn ty f e) h m = fits e h.4 m.1
    fits (ESwitch ty e) h m = fits e h.3 m.1
    fits e h m = tt

    fit_all : (all : TExprTrees) → AreTyped g all → EachOfAll MovesFit all → FitsAll p i all
    fit_all NoTExprs h m = tt
    fit_all (MoreTExprs e more) h m = (fits e h.0 m.0, fit_all more h.1 m.1)

  fit_maybe : (x : Option TExprTree) → IsMaybeTest g x → EachOfValue MovesFit x → FitsMaybe p i x
  fit_maybe None h m = tt
  fit_maybe (Some e) h m = fits e h.1 m

  fit_start : (x : Option TyTree) (n : ℕ) (init : Option TExprTree) → local_type g.locals n ≡ x → IsStart g x init → EachOfValue MovesFit init → FitsStart p i n init
  fit_start x n None e h m = tt
  fit_start None n (Some e2) e h m = absurd h
  fit_start (Some ty) n (Some e2) e h m = (subst (λ t. FitsLocal p i t n) (sym h.1 ∙ same_type e2) (locals ty n e), fits e2 h.2 m)

  fit_return : (x : Option TExprTree) → IsReturned g x → EachOfValue MovesFit x → FitsMaybe p i x
  fit_return None h m = tt
  fit_return (Some e) h m = fits e h.2 m

  mutual
    fit_stmt : (s : TStmtTree) → IsRight g s → EachIn MovesFit s → FitsStmt p i s
    fit_stmt SEmpty h m = tt
    fit_stmt (SBlock all) h m = fit_stmts all h m
    fit_stmt (SLocal n init) h m = fit_start (local_type g.locals n) n init refl h m
    fit_stmt (SEval e) h m = fits e h m
    fit_stmt (SAssign to e) h m = (fits to h.3 m.0, fits e h.4 m.1)
    fit_stmt (SIf test s other) h m = (fits test h.0.1 m.0, fit_stmt s h.1 m.1, fit_other other h.2 m.2)
    fit_stmt (SWhile test s) h m = (fits test h.0.1 m.0, fit_stmt s h.1 m.1)
    fit_stmt (SFor first test next s) h m = (fit_other first h.0 m.0, fit_maybe test h.1 m.1, fit_other next h.2 m.2, fit_stmt s h.3 m.3)
    fit_stmt SBreak h m = tt
    fit_stmt SContinue h m = tt
    fit_stmt (SReturn e) h m = fit_return e h m

    fit_other : (s : MaybeTStmt) → MaybeRight g s → EachInMaybe MovesFit s → FitsOther p i s
    fit_other NoTStmt h m = tt
    fit_other (OneTStmt s) h m = fit_stmt s h m

    pub fit_stmts : (all : TStmtTrees) → AreRight g all → EachInAll MovesFit all → FitsStmts p i all
    fit_stmts NoTStmts h m = tt
    fit_stmts (MoreTStmts s more) h m = (fit_stmt s h.0 m.0, fit_stmts more h.1 m.1)
