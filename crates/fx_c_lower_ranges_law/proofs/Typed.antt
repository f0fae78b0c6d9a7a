-- In programs that may be lowered the numbers at the nodes are in range.
use Rattle.std.proofs.Common.{◌≡◌, ◌⊎◌, inl, inr, ℕ, ◌<◌, length, Option, Some, None, refl, sym, ◌∙◌, subst}
use Rattle.std.specs.Prelude.{slice_get}
use Rattle.fx_c_ast.specs.declared.operator.Binop.{Binop}
use Rattle.fx_c_ast.specs.declared.operator.Binop.TheVariants.{Add, Sub, Shl, Shr, Lt, Gt, Le, Ge, Eq, Ne, Land, Lor}
use Rattle.fx_c_ast.specs.declared.checked.TFunction.{TFunction}
use Rattle.fx_c_ast.specs.declared.checked.TProgram.{TProgram}
use Rattle.fx_c_ast.specs.CheckedTrees.{TyTree, IntTy, StructTy, PtrTy, TExprTree, ENumber, ELiteral, EGlobal, ELocal, EUn, EBin, ECast, EConvert, ESize, EIndex, EMember, EArrow, ECall, EGate, EGetc, EPutc, EDevLoad, EDevStore, ESpawn, ESwitch, EMe, TExprTrees, NoTExprs, MoreTExprs, TStmtTree, SEmpty, SBlock, SLocal, SEval, SAssign, SIf, SWhile, SFor, SBreak, SContinue, SReturn, TStmtTrees, NoTStmts, MoreTStmts, MaybeTStmt, NoTStmt, OneTStmt, struct_types}
use Rattle.fx_c_types_rules.specs.Values as rules
use Rattle.fx_c_types_heads.specs.Heads.{FunctionHead}
use Rattle.fx_c_mean_model.specs.Programs.{Program, Function, program_of, size_in}
use Rattle.fx_c_mean_model.specs.States.{type_of}
use Rattle.fx_c_types_model.specs.Tables.{tables, local_type, global_type, literal_type}
use Rattle.fx_c_types_model.specs.Nodes.{IsInteger, IsAssigned, FitsBinary, Calls, Enters, Starts}
use Rattle.fx_c_types_model.specs.Trees.{IsType, IsTyped, AreTyped, IsMaybeTest, IsStart, IsReturned, IsRight, MaybeRight, AreRight}
use Rattle.fx_c_types_model.specs.Each.{Each, EachOfAll, EachOfValue, EachIn, EachInMaybe, EachInAll}
use Rattle.fx_c_types_model.specs.Fits.{DeviceFits, Behind, HasElementSize, ElementFits}
use Rattle.fx_c_types_model.specs.Lowerable.{StructsHaveBytes}
use Rattle.fx_c_lower_ranges_law.specs.Ranges.{IsSize}
use Rattle.fx_c_lower_ranges_law.proofs.Nodes.{LocalIn, PairIn, NodeIn, CopyIn, StartIn, StmtIn, OtherIn, StmtsIn}

same_type : (e : TExprTree) → rules.type_of e ≡ type_of e
same_type (ENumber ty w) = refl
same_type (ELiteral ty n) = refl
same_type (EGlobal ty n) = refl
same_type (ELocal ty n) = refl
same_type (EUn ty o e) = refl
same_type (EBin ty o a b) = refl
same_type (ECast ty e) = refl
same_type (EConvert ty e) = refl
same_type (ESize ty t) = refl
same_type (EIndex ty a b) = refl
same_type (EMember ty e n) = refl
same_type (EArrow ty e n) = refl
same_type (ECall ty f all) = refl
same_type (EGate ty f all) = refl
same_type (EGetc ty) = refl
same_type (EPutc ty e) = refl
same_type (EDevLoad ty d r) = refl
same_type (EDevStore ty d r e) = refl
same_type (ESpawn ty f e) = refl
same_type (ESwitch ty e) = refl
same_type (EMe ty) = refl

-- ---- two operands

pointer_integer : (t : TyTree) (i : _) → PtrTy t ≡ IntTy i → ⊥
pointer_integer t i e = cc

integer_pointer : (t : TyTree) (i : _) → IntTy i ≡ PtrTy t → ⊥
integer_pointer t i e = cc

module _ (p : Program) (k : ℕ) where
  add_in : (s t : TyTree) → Behind (HasElementSize p.structs) s → Behind (HasElementSize p.structs) t → PairIn p Add s t
  add_in (PtrTy s) (IntTy i) h m = (h.1, h.2)
  add_in (IntTy i) (PtrTy t) h m = (m.1, m.2)
  add_in s t h m = tt

  no_integer_below : (ty : TyTree) (i : _) (t : TyTree) → FitsBinary k Sub ty (IntTy i) (PtrTy t) → ⊥
  no_integer_below ty i t (inl h) = integer_pointer t i (h.1 ∙ sym h.2)
  no_integer_below ty i t (inr (inl h)) = h.0
  no_integer_below ty i t (inr (inr h)) = h.0

  sub_in : (ty s t : TyTree) → FitsBinary k Sub ty s t → Behind (HasElementSize p.structs) s → PairIn p Sub s t
  sub_in ty (PtrTy s) (IntTy i) h m = (m.1, m.2)
  sub_in ty (PtrTy s) (PtrTy t) h m = (m.1, m.2)
  sub_in ty (IntTy i) (PtrTy t) h m = absurd (no_integer_below ty i t h)
  sub_in ty s t h m = tt

  -- operands of one type, or of which none is a pointer
  other_in : (o : Binop) (s t : TyTree) → ((u v : TyTree) → PairIn p o (PtrTy u) (PtrTy v)) → (s ≡ t) ⊎ (IsInteger s × IsInteger t) → PairIn p o s t
  other_in o (PtrTy s) (IntTy i) both (inl e) = absurd (pointer_integer s i e)
  other_in o (PtrTy s) (IntTy i) both (inr h) = absurd h.0
  other_in o (IntTy i) (PtrTy t) both (inl e) = absurd (integer_pointer t i e)
  other_in o (IntTy i) (PtrTy t) both (inr h) = absurd h.1
  other_in o (PtrTy s) (PtrTy t) both h = both s t
  other_in Add s t both h = tt
  other_in o s t both h = tt

  binary_in : (o : Binop) (ty : TyTree) (a b : TExprTree) → FitsBinary k o ty (type_of a) (type_of b) → ElementFits p.structs (EBin ty o a b) → (rules.type_of a ≡ type_of a) → (rules.type_of b ≡ type_of b) → PairIn p o (type_of a) (type_of b)
  binary_in Add ty a b h m e f = add_in (type_of a) (type_of b) (subst (Behind (HasElementSize p.structs)) e m.0) (subst (Behind (HasElementSize p.structs)) f m.1)
  binary_in Sub ty a b h m e f = sub_in ty (type_of a) (type_of b) h (subst (Behind (HasElementSize p.structs)) e m)
  binary_in Shl ty a b h m e f = other_in Shl (type_of a) (type_of b) (λ u v. tt) (inr (subst IsInteger (sym h.1) h.0, h.2))
  binary_in Shr ty a b h m e f = other_in Shr (type_of a) (type_of b) (λ u v. tt) (inr (subst IsInteger (sym h.1) h.0, h.2))
  binary_in Lt ty a b h m e f = other_in Lt (type_of a) (type_of b) (λ u v. tt) (inl h.1)
  binary_in Gt ty a b h m e f = other_in Gt (type_of a) (type_of b) (λ u v. tt) (inl h.1)
  binary_in Le ty a b h m e f = other_in Le (type_of a) (type_of b) (λ u v. tt) (inl h.1)
  binary_in Ge ty a b h m e f = other_in Ge (type_of a) (type_of b) (λ u v. tt) (inl h.1)
  binary_in Eq ty a b h m e f = other_in Eq (type_of a) (type_of b) (λ u v. tt) (inl h.1)
  binary_in Ne ty a b h m e f = other_in Ne (type_of a) (type_of b) (λ u v. tt) (inl h.1)
  binary_in Land ty a b h m e f = other_in Land (type_of a) (type_of b) (λ u v. tt) (inr (h.1, h.2))
  binary_in Lor ty a b h m e f = other_in Lor (type_of a) (type_of b) (λ u v. tt) (inr (h.1, h.2))
  binary_in o ty a b h m e f = other_in o (type_of a) (type_of b) (λ u v. tt) (inl (h.1 ∙ sym h.2))

  index_in : (ty s t : TyTree) → s ≡ PtrTy ty → IsInteger t → HasElementSize p.structs ty → PairIn p Add s t
  index_in ty (PtrTy s) (IntTy i) e h m = subst (λ v. IsSize (size_in p v)) (same e) (m.1, m.2) where
    same : PtrTy s ≡ PtrTy ty → ty ≡ s
    same z = cc
  index_in ty (PtrTy s) t e h m = absurd h
  index_in ty s t e h m = absurd cc

-- ---- trees

module _ (p : TProgram) (x : TFunction) (f : Function)
    (locals : (ty : TyTree) (n : ℕ) → local_type (tables p x).locals n ≡ Some ty → LocalIn f ty n)
    (globals : (ty : TyTree) (n : ℕ) → global_type (tables p x).globals n ≡ Some ty → n < length (program_of p).globals)
    (literals : (ty : TyTree) (n : ℕ) → literal_type (tables p x).literals n ≡ Some ty → n < length (program_of p).literals)
    (functions : (n : ℕ) (h : FunctionHead) → slice_get (tables p x).functions n ≡ Some h → n < length (program_of p).functions)
    (bytes : StructsHaveBytes (struct_types p.structs)) where
  abbrev Devices : TExprTree → Type 0
  Devices = DeviceFits

  abbrev Sizes : TExprTree → Type 0
  Sizes = ElementFits (struct_types p.structs)

  calls : (y : Option FunctionHead) (n library : ℕ) (ty : TyTree) (all : TExprTrees) → slice_get (tables p x).functions n ≡ y → Calls library y ty all → n < length (program_of p).functions
  calls None n library ty all e h = absurd h
  calls (Some y) n library ty all e h = functions n y e

  enters : (y : Option FunctionHead) (n : ℕ) (ty : TyTree) (all : TExprTrees) → slice_get (tables p x).functions n ≡ y → Enters y ty all → n < length (program_of p).functions
  enters None n ty all e h = absurd h
  enters (Some y) n ty all e h = functions n y e

  begins : (y : Option FunctionHead) (n library : ℕ) → slice_get (tables p x).functions n ≡ y → Starts library y → n < length (program_of p).functions
  begins None n library e h = absurd h
  begins (Some y) n library e h = functions n y e

  named : (e : TExprTree) → IsTyped (tables p x) e → IsType (tables p x) (type_of e)
  named (ENumber ty w) h = h.0
  named (ELiteral ty n) h = h.0
  named (EGlobal ty n) h = h.0
  named (ELocal ty n) h = h.0
  named (EUn ty o e) h = h.0
  named (EBin ty o a b) h = h.0
  named (ECast ty e) h = h.0
  named (EConvert ty e) h = h.0
  named (ESize ty t) h = h.0
  named (EIndex ty a b) h = h.0
  named (EMember ty e n) h = h.0
  named (EArrow ty e n) h = h.0
  named (ECall ty n all) h = h.0
  named (EGate ty n all) h = h.0
  named (EGetc ty) h = h.0
  named (EPutc ty e) h = h.0
  named (EDevLoad ty d r) h = h.0
  named (EDevStore ty d r e) h = h.0
  named (ESpawn ty n e) h = h.0
  named (ESwitch ty e) h = h.0
  named (EMe ty) h = h.0

  copies : (ty : TyTree) → IsAssigned ty → IsType (tables p x) ty → CopyIn (program_of p) ty
  copies (IntTy i) h n = tt
  copies (PtrTy t) h n = tt
  copies (StructTy s) h n = bytes s n
  copies ty h n = absurd h

  mutual
    node : (e : TExprTree) → IsTyped (tables p x) e → Each Devices e → Each Sizes e → Each (NodeIn (program_of p) f) e
    node (ELiteral ty n) h d s = literals ty n h.1
    node (EGlobal ty n) h d s = globals ty n h.1
    node (ELocal ty n) h d s = locals ty n h.1
    node (EUn ty o e) h d s = (tt, node e h.2 d.1 s.1)
    node (EBin ty o a b) h d s = (
      binary_in (program_of p) (length (tables p x).structs) o ty a b
          (subst (λ t. FitsBinary (length (tables p x).structs) o ty (type_of a) t) (same_type b) (subst (λ t. FitsBinary (length (tables p x).structs) o ty t (rules.type_of b)) (same_type a) h.1))
          s.0 (same_type a) (same_type b),
      node a h.2 d.1 s.1,
      node b h.3 d.2 s.2,
    )
    node (ECast ty e) h d s = (tt, node e h.2 d.1 s.1)
    node (EConvert ty e) h d s = (tt, node e h.2 d.1 s.1)
    node (EIndex ty a b) h d s = (index_in (program_of p) (length (tables p x).structs) ty (type_of a) (type_of b) (sym (same_type a) ∙ h.1) (subst IsInteger (same_type b) h.3) s.0, node a h.4 d.1 s.1, node b h.5 d.2 s.2)
    node (EMember ty e n) h d s = (tt, node e h.3 d.1 s.1)
    node (EArrow ty e n) h d s = (tt, node e h.3 d.1 s.1)
    node (ECall ty n all) h d s = (calls (slice_get (tables p x).functions n) n (tables p x).library ty all refl h.1, nodes all h.2 d.1 s.1)
    node (EGate ty n all) h d s = (enters (slice_get (tables p x).functions n) n ty all refl h.1, nodes all h.2 d.1 s.1)
    node (EPutc ty e) h d s = (tt, node e h.3 d.1 s.1)
    node (EDevLoad ty n r) h d s = d
    node (EDevStore ty n r e) h d s = (d.0, node e h.3 d.1 s.1)
    node (ESpawn ty n e) h d s = (begins (slice_get (tables p x).functions n) n (tables p x).library refl h.2, node e h.4 d.1 s.1)
    node (ESwitch ty e) h d s = (tt, node e h.3 d.1 s.1)
    node e h d s = tt

    nodes : (all : TExprTrees) → AreTyped (tables p x) all → EachOfAll Devices all → EachOfAll Sizes all → EachOfAll (NodeIn (program_of p) f) all
    nodes NoTExprs h d s = tt
    nodes (MoreTExprs e more) h d s = (node e h.0 d.0 s.0, nodes more h.1 d.1 s.1)

  maybe : (t : Option TExprTree) → IsMaybeTest (tables p x) t → EachOfValue Devices t → EachOfValue Sizes t → EachOfValue (NodeIn (program_of p) f) t
  maybe None h d s = tt
  maybe (Some e) h d s = node e h.1 d s

  starts : (y : Option TyTree) (n : ℕ) (init : Option TExprTree) → local_type (tables p x).locals n ≡ y → IsStart (tables p x) y init → EachOfValue Devices init → EachOfValue Sizes init → StartIn (program_of p) f n init
  starts y n None e h d s = tt
  starts None n (Some a) e h d s = absurd h
  starts (Some ty) n (Some a) e h d s =
      let same : ty ≡ type_of a = sym h.1 ∙ same_type a in
      (subst (λ t. LocalIn f t n) same (locals ty n e), copies (type_of a) (subst IsAssigned same h.0) (named a h.2), node a h.2 d s)

  given : (t : Option TExprTree) → IsReturned (tables p x) t → EachOfValue Devices t → EachOfValue Sizes t → EachOfValue (NodeIn (program_of p) f) t
  given None h d s = tt
  given (Some e) h d s = node e h.2 d s

  mutual
    statement : (s : TStmtTree) → IsRight (tables p x) s → EachIn Devices s → EachIn Sizes s → StmtIn (program_of p) f s
    statement SEmpty h d z = tt
    statement (SBlock all) h d z = statements all h d z
    statement (SLocal n init) h d z = starts (local_type (tables p x).locals n) n init refl h d z
    statement (SEval e) h d z = node e h d z
    statement (SAssign to e) h d z = (copies (type_of to) (subst IsAssigned (same_type to) h.0) (named to h.3), node to h.3 d.0 z.0, node e h.4 d.1 z.1)
    statement (SIf test s other) h d z = (node test h.0.1 d.0 z.0, statement s h.1 d.1 z.1, others other h.2 d.2 z.2)
    statement (SWhile test s) h d z = (node test h.0.1 d.0 z.0, statement s h.1 d.1 z.1)
    statement (SFor first test next s) h d z = (others first h.0 d.0 z.0, maybe test h.1 d.1 z.1, others next h.2 d.2 z.2, statement s h.3 d.3 z.3)
    statement SBreak h d z = tt
    statement SContinue h d z = tt
    statement (SReturn e) h d z = given e h d z

    others : (s : MaybeTStmt) → MaybeRight (tables p x) s → EachInMaybe Devices s → EachInMaybe Sizes s → OtherIn (program_of p) f s
    others NoTStmt h d z = tt
    others (OneTStmt s) h d z = statement s h d z

    pub statements : (all : TStmtTrees) → AreRight (tables p x) all → EachInAll Devices all → EachInAll Sizes all → StmtsIn (program_of p) f all
    statements NoTStmts h d z = tt
    statements (MoreTStmts s more) h d z = (statement s h.0 d.0 z.0, statements more h.1 d.1 z.1)
