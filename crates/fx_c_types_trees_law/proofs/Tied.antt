-- What the heads of a program lead to, wherever they keep the rules.
use Rattle.std.proofs.Common.{◌≡◌, ℕ, zero, suc, ◌+◌, ◌≤◌, Bool, true, ◌&&◌, ◌||◌, not, nat_le, List, [], ◌∷◌, ◌++◌, length, slice_get, slice_index_or, Option, Some, None, Ok, Err, refl, sym, ap, arith, subst}
use Rattle.std.proofs.Math.Nat.{min-le_left}
use Rattle.std.proofs.lemmas.Bool.{and_parts}
use Rattle.std.proofs.lemmas.List.{length-append}
use Rattle.fx_c_ast.specs.declared.layout.Layout.{Layout}
use Rattle.fx_c_ast.specs.declared.parsed.Grant.{Grant}
use Rattle.fx_c_ast.specs.declared.parsed.Init.{Init}
use Rattle.fx_c_ast.specs.ParsedTrees.{TypeTree, VoidType, IntegerType, StructType, PointerType, ArrayType, ParamTree, DeclTree, StructTree, GlobalTree, FunctionTree, StmtTrees}
use Rattle.fx_c_ast.specs.CheckedTrees.{TyTree}
use Rattle.fx_c_types_heads.specs.Names.{found}
use Rattle.fx_c_types_rules.specs.declared.fault.TypeKind.TheVariants.{Twice, UnknownType, TooManyParameters, Initialiser}
use Rattle.fx_c_types_rules.specs.Checks.{Checked, ◌>>=◌, demand}
use Rattle.fx_c_types_rules.specs.Values.{is_scalar}
use Rattle.fx_c_types_rules.specs.Structs as plain
use Rattle.fx_c_types_rules.specs.Structs.{place_32}
use Rattle.fx_c_types_rules.specs.Locals.{LocalTree}
use Rattle.fx_c_types_heads.specs.Written.{ty_of, is_named, is_object, written_category}
use Rattle.fx_c_types_heads.specs.Heads.{HeadsTree, GlobalHead, FunctionHead, repeats, is_declared, object_type, members_behind, types_of, names_of, is_next, struct_layout, with_struct, struct_head, is_initial, with_global, global_head, is_nothing, is_param, is_answer, are_params, param_names, params_of, with_function, function_head, head}
use Rattle.fx_c_types.specs.Programs.{PlacedDecl, name_unless, with_tag, tags_of}
use Rattle.fx_c_types_law.proofs.Heads.{all_types, structs_in}
use Rattle.fx_c_types_law.proofs.Programs.{struct_count}
use Rattle.fx_c_types_model.specs.Tables.{IsNamed}
use Rattle.fx_c_types_model.specs.Nodes.{IsScalar, IsAnswer}
use Rattle.fx_c_types_law.proofs.Ends.{Ends, bind_ends, demand_ends}
use Rattle.fx_c_types_trees_law.proofs.Lists.{Before, before_append, last_at, AreBelow, below_more, below_push}
use Rattle.fx_c_types_trees_law.proofs.Scope.{AreNamed, LeadBelow, named_type, object_named}

-- ---- what holds of each element of a list

abbrev pub EachAt : {A : Type 0} → (A → Type 0) → List A → Type 0
EachAt {A} P xs = (n : ℕ) (x : A) → slice_get xs n ≡ Some x → P x

pub index_push : {A : Type 0} (P : ℕ → A → Type 0) (xs : List A) (y : A) → ((n : ℕ) (x : A) → slice_get xs n ≡ Some x → P n x) → P (length xs) y → (n : ℕ) (x : A) → slice_get (xs ++ y ∷ []) n ≡ Some x → P n x
index_push P [] y all last zero x is = let same : y ≡ x = cc in subst (P zero) same last
index_push P [] y all last (suc n) x is = cc
index_push P (z ∷ xs) y all last zero x is = all zero x is
index_push P (z ∷ xs) y all last (suc n) x is = index_push (λ k. P (suc k)) xs y (λ k w h. all (suc k) w h) last n x is

pub each_push : {A : Type 0} (P : A → Type 0) (xs : List A) (y : A) → EachAt P xs → P y → EachAt P (xs ++ y ∷ [])
each_push P xs y all last = index_push (λ k. P) xs y all last

abbrev pub AreTypes : ℕ → List TyTree → Type 0
AreTypes bound ts = EachAt (IsNamed bound) ts

-- the types of each struct's members are named
abbrev pub AreMembers : ℕ → List plain.StructTree → Type 0
AreMembers bound ss = (k : ℕ) → AreTypes bound (slice_index_or (all_types ss) k [])

members_push : (bound : ℕ) (ss : List plain.StructTree) (s : plain.StructTree) → AreMembers bound ss → AreTypes bound (types_of s.members) → AreMembers bound (ss ++ s ∷ [])
members_push bound [] s all last zero n t is = last n t is
members_push bound [] s all last (suc k) n t is = cc
members_push bound (x ∷ ss) s all last zero n t is = all zero n t is
members_push bound (x ∷ ss) s all last (suc k) n t is = members_push bound ss s (λ j. all (suc j)) last k n t is

abbrev pub AreScalars : List LocalTree → Type 0
AreScalars [] = Unit {0}
AreScalars (p ∷ ps) = IsScalar p.ty × AreScalars ps

abbrev pub IsNamedFunction : ℕ → FunctionHead → Type 0
IsNamedFunction bound f = IsNamed bound f.answer × IsAnswer f.answer × AreNamed bound f.params × AreScalars f.params

-- the heads so far, where the program has so many structs
pub record IsTiedTo (bound : ℕ) (h : HeadsTree) : Type 0 where
  pub tags : LeadBelow bound h.tags
  pub names : AreBelow (length h.globals) h.global_names
  pub globals : EachAt (λ (v : GlobalHead). IsNamed bound v.ty) h.globals
  pub members : AreMembers bound h.structs
  pub functions : EachAt (IsNamedFunction bound) h.functions

-- the function that a declaration makes, with a place in the table of functions
abbrev pub IsMade : DeclTree → ℕ → List FunctionHead → Type 0
IsMade (StructTree name members) k fs = Unit {0}
IsMade (GlobalTree grant readers ty name init) k fs = Unit {0}
IsMade (FunctionTree entry answer name params body) k fs = (f : FunctionHead) × (slice_get fs k ≡ Some f) × (length f.params ≡ length params)

-- what one more declaration leaves
abbrev pub IsNext : ℕ → HeadsTree → DeclTree → HeadsTree → Type 0
IsNext bound h d g = IsTiedTo bound g × Before h.functions g.functions × IsMade d (length h.functions) g.functions

-- ---- a struct

types_push : (ms : List plain.MemberTree) (m : plain.MemberTree) → types_of (ms ++ m ∷ []) ≡ types_of ms ++ m.ty ∷ []
types_push [] m = refl
types_push (x ∷ ms) m = ap (λ ts. x.ty ∷ ts) (types_push ms m)

members_named : (bound : ℕ) (h : HeadsTree) (before : List plain.MemberTree) (ms : List (TypeTree × List ℕ)) → LeadBelow bound h.tags → AreTypes bound (types_of before) → Ends (λ all. AreTypes bound (types_of all)) (members_behind h before ms)
members_named bound h before [] lead are = are
members_named bound h before (m ∷ ms) lead are =
    let next : plain.MemberTree = record { ty = ty_of h.tags m.0; name = m.1 } in
    demand_ends (λ all. AreTypes bound (types_of all)) (is_object h.tags (place_32 (length h.structs)) m.0) UnknownType (members_behind h (before ++ next ∷ []) ms) (λ object.
    let named : IsNamed bound next.ty = named_type h.tags bound lead m.0 (and_parts _ _ (and_parts _ _ object).0).0 in
    members_named bound h (before ++ next ∷ []) ms lead (subst (AreTypes bound) (sym (types_push before next)) (each_push (IsNamed bound) (types_of before) next.ty are named)))

struct_tied : (bound : ℕ) (h : HeadsTree) (name : List ℕ) (members : List (TypeTree × List ℕ)) → IsTiedTo bound h → Ends (IsNext bound h (StructTree name members)) (struct_head h name members)
struct_tied bound h name members is =
    let Q : HeadsTree → Type 0 = IsNext bound h (StructTree name members) in
    let build : List plain.MemberTree → Checked HeadsTree = λ ms. struct_layout h.layouts ms >>= (λ layout. Ok (with_struct h layout name ms)) in
    demand_ends Q (is_next (found name h.tags) (place_32 (length h.structs))) Twice (demand (not (repeats [] (names_of members))) Twice (members_behind h [] members >>= build)) (λ next.
    demand_ends Q (not (repeats [] (names_of members))) Twice (members_behind h [] members >>= build) (λ apart.
    bind_ends (λ all. AreTypes bound (types_of all)) Q (members_behind h [] members) build (members_named bound h [] members is.tags (λ n x at. cc)) (λ ms are.
    bind_ends (λ (l : Layout). Unit {0}) Q (struct_layout h.layouts ms) (λ layout. Ok (with_struct h layout name ms)) (any (struct_layout h.layouts ms)) (λ layout _.
    let tied : IsTiedTo bound (with_struct h layout name ms) = record {
      tags = is.tags;
      names = is.names;
      globals = is.globals;
      members = members_push bound h.structs (record { name = name; members = ms }) is.members are;
      functions = is.functions;
    } in
    (tied, λ n x at. at, tt)))))
  where
    any : {A : Type 0} (r : Checked A) → Ends (λ (x : A). Unit {0}) r
    any (Ok x) = tt
    any (Err e) = tt

-- ---- a global

global_tied : (bound : ℕ) (h : HeadsTree) (library : ℕ) (grant readers : Grant) (t : TypeTree) (name : List ℕ) (init : Init) → IsTiedTo bound h → Ends (IsNext bound h (GlobalTree grant readers t name init)) (global_head h library grant readers t name init)
global_tied bound h library grant readers t name init is =
    let Q : HeadsTree → Type 0 = IsNext bound h (GlobalTree grant readers t name init) in
    let struct_bound : ℕ = place_32 (length h.structs) in
    let made : TyTree → GlobalHead = λ ty. record { library = library; grant = grant; readers = readers; ty = ty; name = name; init = init } in
    let build : TyTree → Checked HeadsTree = λ ty. demand (is_initial ty init) Initialiser (Ok (with_global h (made ty))) in
    demand_ends Q (not (is_declared h name)) Twice (object_type h struct_bound t >>= build) (λ free.
    bind_ends (λ ty. (ty ≡ ty_of h.tags t) × IsNamed bound ty) Q (object_type h struct_bound t) build (object_named h bound struct_bound t is.tags) (λ ty has.
    demand_ends Q (is_initial ty init) Initialiser (Ok (with_global h (made ty))) (λ initial.
    let pushed : length (h.globals ++ made ty ∷ []) ≡ length h.globals + 1 = length-append h.globals (made ty ∷ []) in
    let low : place_32 (length h.globals) ≤ length h.globals = min-le_left (length h.globals) 4294967295 in
    let tied : IsTiedTo bound (with_global h (made ty)) = record {
      tags = is.tags;
      names = below_push (length (h.globals ++ made ty ∷ [])) h.global_names (name, place_32 (length h.globals)) (below_more (length h.globals) (length (h.globals ++ made ty ∷ [])) (omega (arith, pushed)) h.global_names is.names) (omega (arith, pushed, low));
      globals = each_push (λ (v : GlobalHead). IsNamed bound v.ty) h.globals (made ty) is.globals has.1;
      members = is.members;
      functions = is.functions;
    } in
    (tied, λ n x at. at, tt))))

-- ---- a function

params_named : (bound : ℕ) (tags : List (List ℕ × ℕ)) (ps : List ParamTree) → LeadBelow bound tags → are_params tags ps ≡ true → AreNamed bound (params_of tags ps)
params_named bound tags [] lead h = tt
params_named bound tags (p ∷ ps) lead h =
    let both = and_parts (is_param tags p.ty) (are_params tags ps) h in
    (named_type tags bound lead p.ty (and_parts (is_named tags p.ty) (is_scalar (written_category p.ty)) both.0).0, params_named bound tags ps lead both.1)

params_scalar : (tags : List (List ℕ × ℕ)) (ps : List ParamTree) → are_params tags ps ≡ true → AreScalars (params_of tags ps)
params_scalar tags [] h = tt
params_scalar tags (p ∷ ps) h =
    let both = and_parts (is_param tags p.ty) (are_params tags ps) h in
    (scalar_is p.ty (and_parts (is_named tags p.ty) (is_scalar (written_category p.ty)) both.0).1, params_scalar tags ps both.1)
  where
    scalar_is : (t : TypeTree) → is_scalar (written_category t) ≡ true → IsScalar (ty_of tags t)
    scalar_is (IntegerType i) h = tt
    scalar_is (PointerType t) h = tt
    scalar_is t h = cc

length_params : (tags : List (List ℕ × ℕ)) (ps : List ParamTree) → length (params_of tags ps) ≡ length ps
length_params tags [] = refl
length_params tags (p ∷ ps) = ap suc (length_params tags ps)

answer_named : (tags : List (List ℕ × ℕ)) (t : TypeTree) → (is_scalar (written_category t) || is_nothing (written_category t)) ≡ true → IsAnswer (ty_of tags t)
answer_named tags VoidType h = tt
answer_named tags (IntegerType i) h = tt
answer_named tags (StructType tag) h = cc
answer_named tags (PointerType t) h = tt
answer_named tags (ArrayType t count) h = cc

function_tied : (bound : ℕ) (h : HeadsTree) (library : ℕ) (entry : Bool) (answer : TypeTree) (name : List ℕ) (params : List ParamTree) (body : StmtTrees) → IsTiedTo bound h → Ends (IsNext bound h (FunctionTree entry answer name params body)) (function_head h library entry answer name params)
function_tied bound h library entry answer name params body is =
    let Q : HeadsTree → Type 0 = IsNext bound h (FunctionTree entry answer name params body) in
    let made : FunctionHead = record { library = library; entry = entry; answer = ty_of h.tags answer; name = name; params = params_of h.tags params } in
    let last : Checked HeadsTree = Ok (with_function h made) in
    let few : Checked HeadsTree = demand (nat_le (length params) 6) TooManyParameters last in
    let types : Checked HeadsTree = demand (is_answer h.tags answer && are_params h.tags params) UnknownType few in
    demand_ends Q (not (is_declared h name)) Twice (demand (not (repeats [] (param_names params))) Twice types) (λ free.
    demand_ends Q (not (repeats [] (param_names params))) Twice types (λ apart.
    demand_ends Q (is_answer h.tags answer && are_params h.tags params) UnknownType few (λ right.
    demand_ends Q (nat_le (length params) 6) TooManyParameters last (λ six.
    let both = and_parts (is_answer h.tags answer) (are_params h.tags params) right in
    let gives = and_parts (is_named h.tags answer) (is_scalar (written_category answer) || is_nothing (written_category answer)) both.0 in
    let tied : IsTiedTo bound (with_function h made) = record {
      tags = is.tags;
      names = is.names;
      globals = is.globals;
      members = is.members;
      functions = each_push (IsNamedFunction bound) h.functions made is.functions (named_type h.tags bound is.tags answer gives.0, answer_named h.tags answer gives.1, params_named bound h.tags params is.tags both.1, params_scalar h.tags params both.1);
    } in
    (tied, before_append h.functions (made ∷ []), (made, last_at h.functions made, length_params h.tags params))))))

pub head_tied : (bound : ℕ) (h : HeadsTree) (library : ℕ) (d : DeclTree) → IsTiedTo bound h → Ends (IsNext bound h d) (head h library d)
head_tied bound h library (StructTree name members) is = struct_tied bound h name members is
head_tied bound h library (GlobalTree grant readers t name init) is = global_tied bound h library grant readers t name init is
head_tied bound h library (FunctionTree entry answer name params body) is = function_tied bound h library entry answer name params body is

-- ---- the tags of a program

abbrev pub Numbers : List (List ℕ × ℕ) → Type 0
Numbers names = AreBelow (length names) names

-- a table with at most so many more names
abbrev pub Longer : List (List ℕ × ℕ) → ℕ → List (List ℕ × ℕ) → Type 0
Longer names more longer = Numbers longer × (length longer ≤ length names + more)

pub name_numbers : (names : List (List ℕ × ℕ)) (name : List ℕ) (r : Option ℕ) → Numbers names → Longer names 1 (name_unless r names name)
name_numbers names name (Some n) is = (is, omega arith)
name_numbers names name None is =
    let e : List ℕ × ℕ = (name, place_32 (length names)) in
    let pushed : length (names ++ e ∷ []) ≡ length names + 1 = length-append names (e ∷ []) in
    let low : place_32 (length names) ≤ length names = min-le_left (length names) 4294967295 in
    (below_push (length (names ++ e ∷ [])) names e (below_more (length names) (length (names ++ e ∷ [])) (omega (arith, pushed)) names is) (omega (arith, pushed, low)), omega (arith, pushed))

tag_numbers : (tags : List (List ℕ × ℕ)) (d : DeclTree) → Numbers tags → Longer tags (structs_in d) (with_tag tags d)
tag_numbers tags (StructTree name members) is = name_numbers tags name (found name tags) is
tag_numbers tags (GlobalTree grant readers ty name init) is = (is, omega arith)
tag_numbers tags (FunctionTree entry answer name params body) is = (is, omega arith)

pub tags_numbers : (tags : List (List ℕ × ℕ)) (ds : List PlacedDecl) → AreBelow (length tags) tags → AreBelow (length (tags_of tags ds)) (tags_of tags ds) × (length (tags_of tags ds) ≤ length tags + struct_count ds)
tags_numbers tags [] is = (is, omega arith)
tags_numbers tags (d ∷ ds) is =
    let here : Longer tags (structs_in d.decl) (with_tag tags d.decl) = tag_numbers tags d.decl is in
    let more = tags_numbers (with_tag tags d.decl) ds here.0 in
    (more.0, omega (arith, here.1, more.1))
