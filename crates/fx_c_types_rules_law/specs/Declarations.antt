-- The heads of declarations: what each adds to those before it (C11 6.7, 6.9).
--
-- `DeclaresHead h library d g`: behind the heads h, the declaration d of a library is kept to the rules, and g are the
-- heads with it. A struct, global or function has the next number of its kind.
use Rattle.std.specs.Prelude.{◌≡◌, ℕ, ◌+◌, ◌≤◌, Bool, false, List, [], ◌∷◌, length, Some, None}
use Rattle.fx_c_ast.specs.declared.operator.IntType.{IntType}
use Rattle.fx_c_ast.specs.declared.operator.IntType.TheVariants.{Char}
use Rattle.fx_c_ast.specs.declared.parsed.Grant.{Grant}
use Rattle.fx_c_ast.specs.declared.parsed.Init.{Init}
use Rattle.fx_c_ast.specs.declared.parsed.Init.TheVariants.{Zero, Number, Text}
use Rattle.fx_c_ast.specs.ParsedTrees.{TypeTree, ParamTree, DeclTree, StructTree, GlobalTree, FunctionTree, StmtTrees}
use Rattle.fx_c_ast.specs.CheckedTrees.{TyTree, VoidTy, IntTy, ArrayTy}
use Rattle.fx_c_ast.specs.Layout.{members_layout}
use Rattle.fx_c_types_heads.specs.Names.{found}
use Rattle.fx_c_types_rules.specs.Structs.{MemberTree, place_32}
use Rattle.fx_c_types_rules.specs.Locals.{LocalTree}
use Rattle.fx_c_types_heads.specs.Sizes.{known}
use Rattle.fx_c_types_heads.specs.Heads.{HeadsTree, repeats, types_of, names_of, param_names, with_struct, with_global, with_function}
use Rattle.fx_c_types_rules_law.specs.Types.{IsScalar, IsComplete, HasElements, Means, IsObjectType}

-- members of types that are complete there, in order; a member needs a size by then (6.7.2.1, 3)
pub data AreMembers : List (List ℕ × ℕ) → ℕ → List (TypeTree × List ℕ) → List MemberTree → Type 0 where
  no_members : {tags : List (List ℕ × ℕ)} {declared : ℕ} → AreMembers tags declared [] []
  one_member : {tags : List (List ℕ × ℕ)} {declared : ℕ} {m : TypeTree × List ℕ}
      {rest : List (TypeTree × List ℕ)} {ty : TyTree} {ms : List MemberTree}
      → Means tags m.0 ty → IsComplete declared ty → HasElements ty
      → AreMembers tags declared rest ms
      → AreMembers tags declared (m ∷ rest) (record { ty = ty; name = m.1 } ∷ ms)

-- a name that no global and no function has: they share one space of names (6.2.3)
pub data IsFree : HeadsTree → List ℕ → Type 0 where
  free : {h : HeadsTree} {name : List ℕ} → found name h.global_names ≡ None → found name h.function_names ≡ None → IsFree h name

-- a number for an integer, a string with its zero byte for an array of char that holds it (6.7.9, 11 and 14)
pub data IsInitial : TyTree → Init → Type 0 where
  no_initial : {ty : TyTree} → IsInitial ty Zero
  number_initial : {i : IntType} {n : ℕ} → IsInitial (IntTy i) (Number n)
  string_initial : {count : ℕ} {bytes : List ℕ} → length bytes + 1 ≤ count → IsInitial (ArrayTy (IntTy Char) count) (Text bytes)

-- a function gives a scalar or nothing (6.7.6.3, 1; that it gives no struct is this project's own)
pub data IsResult : TyTree → Type 0 where
  scalar_result : {ty : TyTree} → IsScalar ty → IsResult ty
  void_result : IsResult VoidTy

-- parameters, which are scalars (that none is a struct is this project's own)
pub data AreParams : List (List ℕ × ℕ) → List ParamTree → List LocalTree → Type 0 where
  no_params : {tags : List (List ℕ × ℕ)} → AreParams tags [] []
  one_param : {tags : List (List ℕ × ℕ)} {p : ParamTree} {rest : List ParamTree} {ty : TyTree}
      {ps : List LocalTree}
      → Means tags p.ty ty → IsScalar ty → AreParams tags rest ps
      → AreParams tags (p ∷ rest) (record { shared = p.shared; ty = ty } ∷ ps)

pub data DeclaresHead : HeadsTree → ℕ → DeclTree → HeadsTree → Type 0 where
  -- the tag's first declaration, with members of different names, and of at most 67,108,864 bytes (6.7.2.1, 6.7.2.3, 1;
  -- the bytes are this project's own)
  struct_head : {h : HeadsTree} {library : ℕ} {name : List ℕ} {members : List (TypeTree × List ℕ)} {ms : List MemberTree}
      → found name h.tags ≡ Some (place_32 (length h.structs)) → repeats [] (names_of members) ≡ false
      → AreMembers h.tags (place_32 (length h.structs)) members ms → (members_layout (known h.layouts) (types_of ms)).size ≤ 67108864
      → DeclaresHead h library (StructTree name members) (with_struct h (members_layout (known h.layouts) (types_of ms)) name ms)
  -- 6.7, 3 and 7; 6.7.9; 6.9.2
  global_head : {h : HeadsTree} {library : ℕ} {grant readers : Grant} {t : TypeTree} {ty : TyTree} {name : List ℕ} {init : Init}
      → IsFree h name → IsObjectType h.tags h.layouts (place_32 (length h.structs)) t ty → IsInitial ty init
      → DeclaresHead h library (GlobalTree grant readers t name init) (with_global h (record { library = library; grant = grant; readers = readers; ty = ty; name = name; init = init }))
  -- 6.7.6.3, 6.9.1 (at most six parameters: this project's own)
  function_head : {h : HeadsTree} {library : ℕ} {entry : Bool} {t : TypeTree} {ty : TyTree} {name : List ℕ} {params : List ParamTree} {ps : List LocalTree} {body : StmtTrees}
      → IsFree h name → repeats [] (param_names params) ≡ false → Means h.tags t ty → IsResult ty → AreParams h.tags params ps → length params ≤ 6
      → DeclaresHead h library (FunctionTree entry t name params body) (with_function h (record { library = library; entry = entry; answer = ty; name = name; params = ps }))
