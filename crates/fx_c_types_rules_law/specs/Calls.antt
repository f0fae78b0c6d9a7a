-- Names in reach, and what is called (C11 6.2.1, 6.5.2.2).
use Rattle.std.specs.Prelude.{◌≡◌, ℕ, true, List, [], ◌∷◌, Some, None, slice_get}
use Rattle.fx_c_ast.specs.declared.operator.IntType.TheVariants.{Long}
use Rattle.fx_c_ast.specs.CheckedTrees.{IntTy, TExprTree, TExprTrees, NoTExprs, MoreTExprs, ECall, EGate, ESpawn}
use Rattle.fx_c_types_heads.specs.Names.{found}
use Rattle.fx_c_types_rules.specs.Values.{type_of}
use Rattle.fx_c_types_rules.specs.Locals.{LocalTree}
use Rattle.fx_c_types_heads.specs.Heads.{HeadsTree, FunctionHead}
use Rattle.fx_c_types_rules_law.specs.Types.{IsScalar}
use Rattle.fx_c_types_rules_law.specs.Values.{Converts, IsAssignable}

-- no block declares the name; the outermost block stands first
pub data IsUndeclared : List ℕ → List (List (List ℕ × ℕ)) → Type 0 where
  no_block : {name : List ℕ} → IsUndeclared name []
  not_in_block : {name : List ℕ} {block : List (List ℕ × ℕ)} {inner : List (List (List ℕ × ℕ))} → found name block ≡ None → IsUndeclared name inner → IsUndeclared name (block ∷ inner)

-- the local that a name designates: that of the innermost block which declares it (6.2.1, 4)
pub data Designates : List ℕ → List (List (List ℕ × ℕ)) → ℕ → Type 0 where
  declared_here : {name : List ℕ} {block : List (List ℕ × ℕ)} {inner : List (List (List ℕ × ℕ))} {n : ℕ} → found name block ≡ Some n → IsUndeclared name inner → Designates name (block ∷ inner) n
  declared_inside : {name : List ℕ} {block : List (List ℕ × ℕ)} {inner : List (List (List ℕ × ℕ))} {n : ℕ} → Designates name inner n → Designates name (block ∷ inner) n

-- a function that no local hides, with its number and its head
pub data IsFunction : HeadsTree → List (List (List ℕ × ℕ)) → List ℕ → ℕ → FunctionHead → Type 0 where
  function_named : {h : HeadsTree} {blocks : List (List (List ℕ × ℕ))} {name : List ℕ} {n : ℕ}
      {f : FunctionHead}
      → IsUndeclared name blocks → found name h.function_names ≡ Some n
      → slice_get h.functions n ≡ Some f → IsFunction h blocks name n f

-- an argument for each parameter, a scalar, and converted to its type as if by assignment (6.5.2.2, 2 and 7)
pub data ArePassed : List LocalTree → TExprTrees → TExprTrees → Type 0 where
  no_argument : ArePassed [] NoTExprs NoTExprs
  one_argument : {p : LocalTree} {ps : List LocalTree} {e v : TExprTree} {es vs : TExprTrees}
      → IsScalar (type_of e) → IsAssignable p.ty e → Converts p.ty e v → ArePassed ps es vs
      → ArePassed (p ∷ ps) (MoreTExprs e es) (MoreTExprs v vs)

-- a call of a function of the same library (6.5.2.2, 5; that it stays in its library is this project's own)
pub data CallGives : ℕ → ℕ → FunctionHead → TExprTrees → TExprTree → Type 0 where
  plain_call : {library n : ℕ} {f : FunctionHead} {es vs : TExprTrees} → f.library ≡ library → ArePassed f.params es vs → CallGives library n f es (ECall f.answer n vs)

-- a gate call of an entry function (this project's own)
pub data GateGives : ℕ → FunctionHead → TExprTrees → TExprTree → Type 0 where
  gate_call : {n : ℕ} {f : FunctionHead} {es vs : TExprTrees} → f.entry ≡ true → ArePassed f.params es vs → GateGives n f es (EGate f.answer n vs)

-- parameters that are one long
pub data AreOneLong : List LocalTree → Type 0 where
  one_long : {p : LocalTree} → p.ty ≡ IntTy Long → AreOneLong (p ∷ [])

-- the start of a thread in a function of the same library that takes and gives a long (this project's own)
pub data SpawnGives : ℕ → ℕ → FunctionHead → TExprTree → TExprTree → Type 0 where
  thread_start : {library n : ℕ} {f : FunctionHead} {e v : TExprTree} → f.library ≡ library
      → f.answer ≡ IntTy Long → AreOneLong f.params → IsScalar (type_of e)
      → IsAssignable (IntTy Long) e → Converts (IntTy Long) e v
      → SpawnGives library n f e (ESpawn (IntTy Long) n v)
