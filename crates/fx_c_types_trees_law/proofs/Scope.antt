-- What is in reach in a body, and the tables of its function.
use Rattle.std.proofs.Common.{◌≡◌, ℕ, zero, suc, ◌+◌, ◌<◌, ◌≤◌, ◌^◌, true, false, nat_lt, is_some, if◌then◌else◌, List, [], ◌∷◌, ◌++◌, length, slice_get, slice_index_or, Option, Some, None, Ok, refl, sym, ap, ◌∙◌, arith, subst}
use Rattle.std.specs.Prelude.{bytes_eq}
use Rattle.std.proofs.lemmas.Bool.{and_parts}
use Rattle.std.proofs.lemmas.List.{length-append}
use Rattle.fx_c_ast.specs.declared.operator.IntType.TheVariants.{Char}
use Rattle.fx_c_ast.specs.ParsedTrees.{TypeTree, VoidType, IntegerType, StructType, PointerType, ArrayType}
use Rattle.fx_c_ast.specs.CheckedTrees.{TyTree, IntTy, StructTy, PtrTy, ArrayTy, TExprTree, ELiteral, EGlobal}
use Rattle.fx_c_types_heads.specs.Names.{found}
use Rattle.fx_c_types_rules.specs.declared.fault.TypeKind.TheVariants.{TooLarge, UnknownType, NotPointer}
use Rattle.fx_c_types_rules.specs.Checks.{Checked, demand}
use Rattle.fx_c_types_rules.specs.Types.{pointee}
use Rattle.fx_c_types_rules.specs.Values.{type_of}
use Rattle.fx_c_types_rules.specs.Structs as plain
use Rattle.fx_c_types_rules.specs.Structs.{place_32, member_at, members_of, struct_members, member_node, member_in, member, arrow_node, target_of, arrow_target, arrow_to, arrow}
use Rattle.fx_c_types_rules.specs.Locals.{LocalTree}
use Rattle.fx_c_types_heads.specs.Written.{number_or, ty_of, is_named, is_object as is_object_type}
use Rattle.fx_c_types_heads.specs.Sizes.{known, is_small}
use Rattle.fx_c_types_heads.specs.Heads.{HeadsTree, GlobalHead, FunctionHead, types_of, object_type}
use Rattle.fx_c_types_bodies.specs.Bodies.{BodyTree, or_found, in_blocks, local_named, place_16, type_or_void, local_node, global_or_void, global_node, variable_node, variable}
use Rattle.fx_c_types_model.specs.Tables.{Tables, IsNamed, type_of_global, type_of_local, type_of_text, local_type, literal_type, member_type}
use Rattle.fx_c_types_model.specs.Nodes.{IsPointer, IsAnswer}
use Rattle.fx_c_types_model.specs.Trees.{IsTyped}
use Rattle.fx_c_types_law.proofs.Heads.{all_types}
use Rattle.fx_c_types_law.proofs.Ends.{Ends, demand_ends}
use Rattle.fx_c_types_trees_law.proofs.Shapes.{IsAggregate}
use Rattle.fx_c_types_trees_law.proofs.Nodes.{whole_is_object}
use Rattle.fx_c_types_trees_law.proofs.Lists.{Before, there, some_at, last_at, AreBelow, AllBelow}

abbrev pub tables_in : HeadsTree → ℕ → TyTree → List (List ℕ) → List LocalTree → Tables
tables_in h library answer literals locals = record { structs = all_types h.structs; globals = h.globals; literals = literals; functions = h.functions; locals = locals; library = library; answer = answer }

abbrev pub AreNamed : ℕ → List LocalTree → Type 0
AreNamed bound [] = Unit {0}
AreNamed bound (l ∷ ls) = IsNamed bound l.ty × AreNamed bound ls

pub named_at : (bound : ℕ) (ls : List LocalTree) (n : ℕ) (l : LocalTree) → AreNamed bound ls → slice_get ls n ≡ Some l → IsNamed bound l.ty
named_at bound [] n l h is = cc
named_at bound (x ∷ ls) zero l h is = let same : x ≡ l = cc in subst (λ (x : LocalTree). IsNamed bound x.ty) same h.0
named_at bound (x ∷ ls) (suc n) l h is = named_at bound ls n l h.1 is

pub named_push : (bound : ℕ) (ls : List LocalTree) (l : LocalTree) → AreNamed bound ls → IsNamed bound l.ty → AreNamed bound (ls ++ l ∷ [])
named_push bound [] l h k = (k, tt)
named_push bound (x ∷ ls) l h k = (h.0, named_push bound ls l h.1 k)

-- the names of a table have numbers below a bound
abbrev pub LeadBelow : ℕ → List (List ℕ × ℕ) → Type 0
LeadBelow bound names = (name : List ℕ) (n : ℕ) → found name names ≡ Some n → n < bound

pub below_lead : (bound : ℕ) (names : List (List ℕ × ℕ)) → AreBelow bound names → LeadBelow bound names
below_lead bound [] h name n is = cc
below_lead bound (e ∷ names) h name n is =
    (elim (bytes_eq name e.0) as (λ c. (if c then Some e.1 else found name names) ≡ Some n → n < bound)
    [ true ↦ (λ same. let equal : e.1 ≡ n = cc in omega (arith, h.0)) | false ↦ (λ same. below_lead bound names h.1 name n same) ]) is

-- what the heads of a program lead to
pub record IsTied (h : HeadsTree) : Type 0 where
  pub tags : LeadBelow (length (all_types h.structs)) h.tags
  pub names : LeadBelow (length h.globals) h.global_names
  pub globals : (n : ℕ) (v : GlobalHead) → slice_get h.globals n ≡ Some v → IsNamed (length (all_types h.structs)) v.ty
  pub members : (k n : ℕ) (t : TyTree) → slice_get (slice_index_or (all_types h.structs) k []) n ≡ Some t → IsNamed (length (all_types h.structs)) t
  pub answers : (n : ℕ) (f : FunctionHead) → slice_get h.functions n ≡ Some f → IsNamed (length (all_types h.structs)) f.answer × IsAnswer f.answer
  pub params : (n : ℕ) (f : FunctionHead) → slice_get h.functions n ≡ Some f → AreNamed (length (all_types h.structs)) f.params

-- what is there after a node is there at the function's end, whose numbers fit
pub record Within (h : HeadsTree) (literals : List (List ℕ)) (locals : List LocalTree) (b : BodyTree) : Type 0 where
  pub texts : Before b.literals literals
  pub slots : Before b.locals locals
  pub named : AreNamed (length (all_types h.structs)) locals
  pub strings : length literals ≤ 2 ^ 32
  pub frame : length locals ≤ 65536
  pub few : (k : ℕ) → length (slice_index_or (all_types h.structs) k []) ≤ 2 ^ 32

pub small_32 : (n : ℕ) → n < 2 ^ 32 → place_32 n ≡ n
small_32 n less = omega arith

pub small_16 : (n : ℕ) → n < 65536 → place_16 n ≡ n
small_16 n less = omega arith

-- ---- variables

block_finds : (bound : ℕ) (name : List ℕ) (outer : Option ℕ) (blocks : List (List (List ℕ × ℕ))) → ((n : ℕ) → outer ≡ Some n → n < bound) → AllBelow bound blocks → (n : ℕ) → in_blocks outer name blocks ≡ Some n → n < bound
block_finds bound name outer [] known below n is = known n is
block_finds bound name outer (b ∷ bs) known below n is = block_finds bound name (or_found outer (found name b)) bs (here (found name b) refl) below.1 n is
  where
    here : (r : Option ℕ) → found name b ≡ r → (m : ℕ) → or_found outer r ≡ Some m → m < bound
    here None same m eq = known m eq
    here (Some k) same m eq = let equal : k ≡ m = cc in omega (arith, below_lead bound b below.0 name k same)

module _ (h : HeadsTree) (library : ℕ) (answer : TyTree) (literals : List (List ℕ)) (locals : List LocalTree) (tied : IsTied h) where
  local_typed : (b : BodyTree) (n : ℕ) → n < length b.locals → Within h literals locals b → IsTyped (tables_in h library answer literals locals) (local_node b n)
  local_typed b n less within =
      let x = some_at b.locals n less in
      let at : slice_get locals n ≡ Some x.0 = within.slots n x.0 x.1 in
      let place : place_16 n ≡ n = small_16 n (omega (arith, there locals n x.0 at, within.frame)) in
      let type : type_or_void (slice_get b.locals n) ≡ x.0.ty = ap type_or_void x.1 in (
        subst (IsNamed (length (all_types h.structs))) (sym type) (named_at (length (all_types h.structs)) locals n x.0 within.named at),
        ap (local_type locals) place ∙ ap type_of_local at ∙ ap (λ t. Some t) (sym type),
      )

  global_typed : (n : ℕ) → n < length h.globals → IsTyped (tables_in h library answer literals locals) (EGlobal (global_or_void (slice_get h.globals n)) n)
  global_typed n less =
      let x = some_at h.globals n less in
      let type : global_or_void (slice_get h.globals n) ≡ x.0.ty = ap global_or_void x.1 in
      (subst (IsNamed (length (all_types h.structs))) (sym type) (tied.globals n x.0 x.1), ap type_of_global x.1 ∙ ap (λ t. Some t) (sym type))

  global_ends : (name : List ℕ) (n : Option ℕ) → found name h.global_names ≡ n → Ends (IsTyped (tables_in h library answer literals locals)) (global_node h n)
  global_ends name None is = tt
  global_ends name (Some n) is = global_typed n (tied.names name n is)

  variable_ends : (b : BodyTree) (name : List ℕ) (n : Option ℕ) → local_named b name ≡ n → AllBelow (length b.locals) b.blocks → Within h literals locals b → Ends (IsTyped (tables_in h library answer literals locals)) (variable_node h b name n)
  variable_ends b name None is below within = global_ends name (found name h.global_names) refl
  variable_ends b name (Some n) is below within =
      local_typed b n (block_finds (length b.locals) name None b.blocks (λ m eq. cc) below n is) within

  pub variable_typed : (b : BodyTree) (name : List ℕ) → AllBelow (length b.locals) b.blocks → Within h literals locals b → Ends (IsTyped (tables_in h library answer literals locals)) (variable h b name)
  variable_typed b name below within = variable_ends b name (local_named b name) refl below within

  -- a string
  pub text_typed : (b : BodyTree) (bytes : List ℕ) → Within h literals locals (record b { literals = b.literals ++ (bytes ++ 0 ∷ []) ∷ [] }) → IsTyped (tables_in h library answer literals locals) (ELiteral (ArrayTy (IntTy Char) (length bytes + 1)) (place_32 (length b.literals)))
  text_typed b bytes within =
      let at : slice_get literals (length b.literals) ≡ Some (bytes ++ 0 ∷ []) = within.texts (length b.literals) (bytes ++ 0 ∷ []) (last_at b.literals (bytes ++ 0 ∷ [])) in
      let place : place_32 (length b.literals) ≡ length b.literals = small_32 (length b.literals) (omega (arith, there literals (length b.literals) (bytes ++ 0 ∷ []) at, within.strings)) in
      (tt, ap (literal_type literals) place ∙ ap type_of_text at ∙ ap (λ n. Some (ArrayTy (IntTy Char) n)) (length-append bytes (0 ∷ [])))

-- ---- types as they are written

pub named_type : (tags : List (List ℕ × ℕ)) (bound : ℕ) → LeadBelow bound tags → (t : TypeTree) → is_named tags t ≡ true → IsNamed bound (ty_of tags t)
named_type tags bound lead VoidType h = tt
named_type tags bound lead (IntegerType i) h = tt
named_type tags bound lead (StructType tag) h = here (found tag tags) refl h
  where
    here : (r : Option ℕ) → found tag tags ≡ r → is_some r ≡ true → number_or 4294967295 r < bound
    here None same h = cc
    here (Some n) same h = lead tag n same
named_type tags bound lead (PointerType t) h = named_type tags bound lead t h
named_type tags bound lead (ArrayType t count) h = named_type tags bound lead t h

pub object_named : (h : HeadsTree) (bound declared : ℕ) (t : TypeTree) → LeadBelow bound h.tags → Ends (λ ty. (ty ≡ ty_of h.tags t) × IsNamed bound ty) (object_type h declared t)
object_named h bound declared t lead =
    let P : TyTree → Type 0 = λ ty. (ty ≡ ty_of h.tags t) × IsNamed bound ty in
    let last : Checked TyTree = Ok (ty_of h.tags t) in
    demand_ends P (is_object_type h.tags declared t) UnknownType (demand (is_small h.layouts (ty_of h.tags t)) TooLarge last) (λ object.
    demand_ends P (is_small h.layouts (ty_of h.tags t)) TooLarge last (λ small.
    (refl, named_type h.tags bound lead t (and_parts _ _ (and_parts _ _ object).0).0)))

-- ---- members

abbrev IsFound : List TyTree → ℕ → Option (ℕ × TyTree) → Type 0
IsFound ts at None = Unit {0}
IsFound ts at (Some m) = (j : ℕ) × (m.0 ≡ at + j) × (slice_get ts j ≡ Some m.1)

found_later : (t : TyTree) (ts : List TyTree) (at : ℕ) (r : Option (ℕ × TyTree)) → IsFound ts (at + 1) r → IsFound (t ∷ ts) at r
found_later t ts at None h = tt
found_later t ts at (Some m) h = (suc h.0, omega (arith, h.1), h.2)

member_found : (ms : List plain.MemberTree) (at : ℕ) (name : List ℕ) → IsFound (types_of ms) at (member_at at name ms)
member_found [] at name = tt
member_found (m ∷ ms) at name =
    elim (bytes_eq m.name name) as (λ c. IsFound (m.ty ∷ types_of ms) at (if c then Some (at, m.ty) else member_at (at + 1) name ms))
    [ true ↦ (zero, omega arith, refl) | false ↦ found_later m.ty (types_of ms) at (member_at (at + 1) name ms) (member_found ms (at + 1) name) ]

members_are : (ss : List plain.StructTree) (k : ℕ) → types_of (members_of (slice_get ss k)) ≡ slice_index_or (all_types ss) k []
members_are [] k = refl
members_are (s ∷ ss) zero = refl
members_are (s ∷ ss) (suc k) = members_are ss k

-- a member of a struct that is complete there
complete_found : (ss : List plain.StructTree) (declared k : ℕ) (name : List ℕ) → IsFound (slice_index_or (all_types ss) k []) 0 (member_at 0 name (struct_members ss declared k))
complete_found ss declared k name =
    elim (nat_lt k declared) as (λ c. IsFound (slice_index_or (all_types ss) k []) 0 (member_at 0 name (if c then members_of (slice_get ss k) else [])))
    [ true ↦ subst (λ ts. IsFound ts 0 (member_at 0 name (members_of (slice_get ss k)))) (members_are ss k) (member_found (members_of (slice_get ss k)) 0 name) | false ↦ tt ]

module _ (h : HeadsTree) (library : ℕ) (answer : TyTree) (literals : List (List ℕ)) (locals : List LocalTree) (tied : IsTied h) (few : (k : ℕ) → length (slice_index_or (all_types h.structs) k []) ≤ 2 ^ 32) where
  -- the place of a member, and its type
  member_place : (k : ℕ) (m : ℕ × TyTree) → IsFound (slice_index_or (all_types h.structs) k []) 0 (Some m) → (member_type (all_types h.structs) (StructTy k) (place_32 m.0) ≡ Some m.1) × IsNamed (length (all_types h.structs)) m.1
  member_place k m is =
      let less : is.0 < length (slice_index_or (all_types h.structs) k []) = there (slice_index_or (all_types h.structs) k []) is.0 m.1 is.2 in
      let same : m.0 ≡ is.0 = omega (arith, is.1) in
      let place : place_32 m.0 ≡ is.0 = ap place_32 same ∙ small_32 is.0 (omega (arith, less, few k)) in
      (ap (slice_get (slice_index_or (all_types h.structs) k [])) place ∙ is.2, tied.members k is.0 m.1 is.2)

  member_ends : (k : ℕ) (e : TExprTree) (r : Option (ℕ × TyTree)) → type_of e ≡ StructTy k → IsTyped (tables_in h library answer literals locals) e → IsFound (slice_index_or (all_types h.structs) k []) 0 r → Ends (IsTyped (tables_in h library answer literals locals)) (member_node e r)
  member_ends k e None is has found = tt
  member_ends k e (Some m) is has found =
      let place = member_place k m found in (
        place.1,
        ap (λ t. member_type (all_types h.structs) t (place_32 m.0)) is ∙ place.0,
        whole_is_object (tables_in h library answer literals locals) e has (subst IsAggregate (sym is) tt),
        has,
      )

  member_from : (declared : ℕ) (name : List ℕ) (e : TExprTree) (t : TyTree) → type_of e ≡ t → IsTyped (tables_in h library answer literals locals) e → Ends (IsTyped (tables_in h library answer literals locals)) (member_in h.structs declared name e t)
  member_from declared name e (StructTy k) is has = member_ends k e (member_at 0 name (struct_members h.structs declared k)) is has (complete_found h.structs declared k name)
  member_from declared name e t is has = tt

  pub member_typed : (declared : ℕ) (name : List ℕ) (e : TExprTree) → IsTyped (tables_in h library answer literals locals) e → Ends (IsTyped (tables_in h library answer literals locals)) (member h.structs declared name e)
  member_typed declared name e has = member_from declared name e (type_of e) refl has

  arrow_ends : (k : ℕ) (e : TExprTree) (r : Option (ℕ × TyTree)) → type_of e ≡ PtrTy (StructTy k) → IsTyped (tables_in h library answer literals locals) e → IsFound (slice_index_or (all_types h.structs) k []) 0 r → Ends (IsTyped (tables_in h library answer literals locals)) (arrow_node e r)
  arrow_ends k e None is has found = tt
  arrow_ends k e (Some m) is has found =
      let place = member_place k m found in (
        place.1,
        subst IsPointer (sym is) tt,
        ap (λ t. member_type (all_types h.structs) (pointee t) (place_32 m.0)) is ∙ place.0,
        has,
      )

  arrow_from : (declared : ℕ) (name : List ℕ) (e : TExprTree) (t : TyTree) → type_of e ≡ t → IsTyped (tables_in h library answer literals locals) e → Ends (IsTyped (tables_in h library answer literals locals)) (arrow_to h.structs declared name e (arrow_target t))
  arrow_from declared name e (PtrTy (StructTy k)) is has =
      demand_ends (IsTyped (tables_in h library answer literals locals)) (nat_lt k declared) NotPointer (arrow_node e (member_at 0 name (struct_members h.structs declared k))) (λ complete.
      arrow_ends k e (member_at 0 name (struct_members h.structs declared k)) is has (complete_found h.structs declared k name))
  arrow_from declared name e t is has = tt

  pub arrow_typed : (declared : ℕ) (name : List ℕ) (e : TExprTree) → IsTyped (tables_in h library answer literals locals) e → Ends (IsTyped (tables_in h library answer literals locals)) (arrow h.structs declared name e)
  arrow_typed declared name e has = arrow_from declared name e (type_of e) refl has
