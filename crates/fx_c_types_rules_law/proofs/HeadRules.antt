-- The judgements of heads, and the definitions that decide them.
use Rattle.std.proofs.Common.{◌≡◌, ℕ, ◌+◌, ◌≤◌, ◌&&◌, ◌||◌, Bool, true, false, List, [], ◌∷◌, ◌++◌, length, Option, Some, None, refl, sym, ap, ◌∙◌, subst, Ok}
use Rattle.std.specs.Prelude.{not, is_some}
use Rattle.std.proofs.lemmas.Bool.{eqb-true, eq-eqb, leb-true, le-leb, and_parts, and_from}
use Rattle.fx_c_ast.specs.declared.operator.IntType.TheVariants.{Char}
use Rattle.fx_c_ast.specs.declared.parsed.Grant.{Grant}
use Rattle.fx_c_ast.specs.declared.parsed.Init.{Init}
use Rattle.fx_c_ast.specs.declared.parsed.Init.TheVariants.{Zero, Number, Text}
use Rattle.fx_c_ast.specs.declared.layout.Layout.{Layout}
use Rattle.fx_c_ast.specs.ParsedTrees.{TypeTree, VoidType, IntegerType, PointerType, ParamTree, DeclTree, StructTree, GlobalTree, FunctionTree, StmtTrees}
use Rattle.fx_c_ast.specs.CheckedTrees.{TyTree, IntTy, ArrayTy}
use Rattle.fx_c_ast.specs.Layout.{members_layout}
use Rattle.fx_c_types_heads.specs.Names.{found}
use Rattle.fx_c_types_rules.specs.Types.{category, is_complete}
use Rattle.fx_c_types_rules.specs.Values.{is_scalar}
use Rattle.fx_c_types_rules.specs.Structs.{MemberTree, place_32}
use Rattle.fx_c_types_rules.specs.Locals.{LocalTree}
use Rattle.fx_c_types_heads.specs.Written.{ty_of, is_named, has_elements, is_object, written_category}
use Rattle.fx_c_types_heads.specs.Sizes.{known}
use Rattle.fx_c_types_heads.specs.Heads.{HeadsTree, repeats, is_declared, members_behind, types_of, names_of, is_next, struct_layout, with_struct, struct_head, is_initial, global_head, is_nothing, is_param, is_answer, are_params, param_names, params_of, with_function, function_head, head}
use Rattle.fx_c_types_rules_law.specs.Types.{IsScalar, integer_scalar, pointer_scalar, Means, void_means, integer_means, struct_means, pointer_means, array_means}
use Rattle.fx_c_types_rules_law.proofs.Ends.{Ends, answered, bind_ends, demand_ends, map_ends, bind_ok, demand_ok}
use Rattle.fx_c_types_rules_law.proofs.TypeRules.{scalar_holds, complete_is, elements_is, means_is, means_named, means_type, object_is, object_there, object_holds}
use Rattle.fx_c_types_rules_law.specs.Declarations as judged
use Rattle.fx_c_types_rules_law.specs.Declarations.{AreMembers, no_members, one_member, IsFree, free, IsInitial, no_initial, number_initial, string_initial, IsResult, scalar_result, void_result, AreParams, no_params, one_param, DeclaresHead}

-- ---- names

not_false : (b : Bool) → not b ≡ true → b ≡ false
not_false true h = cc
not_false false h = refl

none_is : (r : Option ℕ) → is_some r ≡ false → r ≡ None
none_is None h = refl
none_is (Some n) h = absurd cc

neither : (a b : Bool) → (a || b) ≡ false → (a ≡ false) × (b ≡ false)
neither true b h = absurd cc
neither false b h = (refl, h)

free_is : (h : HeadsTree) (name : List ℕ) → not (is_declared h name) ≡ true → IsFree h name
free_is h name new =
    let both = neither (is_some (found name h.global_names)) (is_some (found name h.function_names)) (not_false (is_declared h name) new) in
    free (none_is (found name h.global_names) both.0) (none_is (found name h.function_names) both.1)

free_holds : {h : HeadsTree} {name : List ℕ} → IsFree h name → not (is_declared h name) ≡ true
free_holds (free {h} {name} globals functions) =
    ap (λ r. not (is_some r || is_some (found name h.function_names))) globals ∙ ap (λ r. not (is_some r)) functions

next_is : (r : Option ℕ) (n : ℕ) → is_next r n ≡ true → r ≡ Some n
next_is None n h = absurd cc
next_is (Some m) n h = ap Some (eqb-true m n h)

next_holds : (r : Option ℕ) (n : ℕ) → r ≡ Some n → is_next r n ≡ true
next_holds r n h = ap (λ r. is_next r n) h ∙ eq-eqb n n refl

-- ---- a struct

abbrev Behind : List (List ℕ × ℕ) → ℕ → List MemberTree → List (TypeTree × List ℕ) → List MemberTree → Type 0
Behind tags declared before members all = (ms : List MemberTree) × (before ++ ms ≡ all) × AreMembers tags declared members ms

nothing_behind : (ms : List MemberTree) → ms ++ [] ≡ ms
nothing_behind [] = refl
nothing_behind (m ∷ ms) = ap (λ x. m ∷ x) (nothing_behind ms)

one_behind : (before : List MemberTree) (m : MemberTree) (ms : List MemberTree) → (before ++ m ∷ []) ++ ms ≡ before ++ m ∷ ms
one_behind [] m ms = refl
one_behind (x ∷ before) m ms = ap (λ y. x ∷ y) (one_behind before m ms)

members_are : (h : HeadsTree) (before : List MemberTree) (members : List (TypeTree × List ℕ)) → Ends (Behind h.tags (place_32 (length h.structs)) before members) (members_behind h before members)
members_are h before [] = answered ([], nothing_behind before, no_members)
members_are h before (m ∷ ms) =
    demand_ends _ _ _ (λ object.
    let both = and_parts (is_named h.tags m.0 && is_complete (place_32 (length h.structs)) (ty_of h.tags m.0)) (has_elements (ty_of h.tags m.0)) object in
    let more = and_parts (is_named h.tags m.0) (is_complete (place_32 (length h.structs)) (ty_of h.tags m.0)) both.0 in
    map_ends _ (members_are h (before ++ record { ty = ty_of h.tags m.0; name = m.1 } ∷ []) ms) (λ all k. (
      record { ty = ty_of h.tags m.0; name = m.1 } ∷ k.0,
      sym (one_behind before (record { ty = ty_of h.tags m.0; name = m.1 }) k.0) ∙ k.1,
      one_member (means_is h.tags m.0 more.0) (complete_is (place_32 (length h.structs)) (ty_of h.tags m.0) more.1) (elements_is (ty_of h.tags m.0) both.1) k.2,
    )))

members_hold : {members : List (TypeTree × List ℕ)} {ms : List MemberTree} (h : HeadsTree) (before : List MemberTree) (tags : List (List ℕ × ℕ)) (declared : ℕ) → h.tags ≡ tags → place_32 (length h.structs) ≡ declared → AreMembers tags declared members ms → members_behind h before members ≡ Ok (before ++ ms)
members_hold h before tags declared same counted no_members = ap Ok (sym (nothing_behind before))
members_hold h before tags declared same counted (one_member {m} {rest} {ty} {ms} means complete elements more) =
    demand_ok _ _ _ _ (ap (λ x. is_object x (place_32 (length h.structs)) m.0) same ∙ ap (λ x. is_object tags x m.0) counted ∙ object_there tags declared m.0 ty means complete elements)
    (ap (λ x. members_behind h (before ++ record { ty = x; name = m.1 } ∷ []) rest) (ap (λ x. ty_of x m.0) same ∙ means_type means)
    ∙ members_hold h (before ++ record { ty = ty; name = m.1 } ∷ []) tags declared same counted more
    ∙ ap Ok (one_behind before (record { ty = ty; name = m.1 }) ms))

struct_is : (h : HeadsTree) (library : ℕ) (name : List ℕ) (members : List (TypeTree × List ℕ)) → Ends (DeclaresHead h library (StructTree name members)) (struct_head h name members)
struct_is h library name members =
    demand_ends _ _ _ (λ next. demand_ends _ _ _ (λ new. bind_ends _ _ (members_are h [] members) (λ ms is.
    bind_ends _ _ (layout_is h.layouts ms) (λ layout l.
    answered (subst (λ x. DeclaresHead h library (StructTree name members) (with_struct h x name ms)) l.0
    (judged.struct_head (next_is (found name h.tags) (place_32 (length h.structs)) next) (not_false (repeats [] (names_of members)) new)
    (subst (AreMembers h.tags (place_32 (length h.structs)) members) is.1 is.2) l.1))))))
  where
    layout_is : (layouts : List Layout) (ms : List MemberTree) → Ends (λ l. (members_layout (known layouts) (types_of ms) ≡ l) × ((members_layout (known layouts) (types_of ms)).size ≤ 67108864)) (struct_layout layouts ms)
    layout_is layouts ms = demand_ends _ _ _ (λ small. answered (refl, leb-true (members_layout (known layouts) (types_of ms)).size 67108864 small))

false_not : (b : Bool) → b ≡ false → not b ≡ true
false_not b h = ap not h

-- ---- a global

initial_is : (t : TyTree) (init : Init) → is_initial t init ≡ true → IsInitial t init
initial_is t Zero h = no_initial
initial_is (IntTy i) (Number n) h = number_initial
initial_is (ArrayTy (IntTy Char) count) (Text bytes) h = string_initial (leb-true (length bytes + 1) count h)
initial_is t init h = absurd cc

initial_holds : {t : TyTree} {init : Init} → IsInitial t init → is_initial t init ≡ true
initial_holds no_initial = refl
initial_holds number_initial = refl
initial_holds (string_initial {count} {bytes} fits) = le-leb (length bytes + 1) count fits

global_is : (h : HeadsTree) (library : ℕ) (grant readers : Grant) (t : TypeTree) (name : List ℕ) (init : Init) → Ends (DeclaresHead h library (GlobalTree grant readers t name init)) (global_head h library grant readers t name init)
global_is h library grant readers t name init =
    demand_ends _ _ _ (λ new. bind_ends _ _ (object_is h (place_32 (length h.structs)) t) (λ ty is. demand_ends _ _ _ (λ initial.
    answered (judged.global_head (free_is h name new) is (initial_is ty init initial)))))

-- ---- a function

scalar_means : (tags : List (List ℕ × ℕ)) (t : TypeTree) → is_scalar (written_category t) ≡ true → IsScalar (ty_of tags t)
scalar_means tags (IntegerType i) h = integer_scalar
scalar_means tags (PointerType t) h = pointer_scalar
scalar_means tags t h = absurd cc

result_means : (tags : List (List ℕ × ℕ)) (t : TypeTree) → (is_scalar (written_category t) || is_nothing (written_category t)) ≡ true → IsResult (ty_of tags t)
result_means tags VoidType h = void_result
result_means tags (IntegerType i) h = scalar_result integer_scalar
result_means tags (PointerType t) h = scalar_result pointer_scalar
result_means tags t h = absurd cc

means_category : {tags : List (List ℕ × ℕ)} {t : TypeTree} {ty : TyTree} → Means tags t ty → written_category t ≡ category ty
means_category void_means = refl
means_category integer_means = refl
means_category (struct_means is) = refl
means_category (pointer_means m) = refl
means_category (array_means m) = refl

scalar_written : {tags : List (List ℕ × ℕ)} {t : TypeTree} {ty : TyTree} → Means tags t ty → IsScalar ty → is_scalar (written_category t) ≡ true
scalar_written m scalar = ap is_scalar (means_category m) ∙ scalar_holds scalar

result_holds : {ty : TyTree} → IsResult ty → (is_scalar (category ty) || is_nothing (category ty)) ≡ true
result_holds (scalar_result integer_scalar) = refl
result_holds (scalar_result pointer_scalar) = refl
result_holds void_result = refl

result_written : {tags : List (List ℕ × ℕ)} {t : TypeTree} {ty : TyTree} → Means tags t ty → IsResult ty → (is_scalar (written_category t) || is_nothing (written_category t)) ≡ true
result_written m result = ap (λ c. is_scalar c || is_nothing c) (means_category m) ∙ result_holds result

params_are : (tags : List (List ℕ × ℕ)) (ps : List ParamTree) → are_params tags ps ≡ true → AreParams tags ps (params_of tags ps)
params_are tags [] h = no_params
params_are tags (p ∷ ps) h =
    let both = and_parts (is_param tags p.ty) (are_params tags ps) h in
    let one = and_parts (is_named tags p.ty) (is_scalar (written_category p.ty)) both.0 in
    one_param (means_is tags p.ty one.0) (scalar_means tags p.ty one.1) (params_are tags ps both.1)

params_hold : {tags : List (List ℕ × ℕ)} {ps : List ParamTree} {ls : List LocalTree} → AreParams tags ps ls → are_params tags ps ≡ true
params_hold no_params = refl
params_hold (one_param {tags} {p} {rest} m scalar more) =
    and_from (is_param tags p.ty) (are_params tags rest) (and_from (is_named tags p.ty) (is_scalar (written_category p.ty)) (means_named m) (scalar_written m scalar)) (params_hold more)

params_same : {tags : List (List ℕ × ℕ)} {ps : List ParamTree} {ls : List LocalTree} → AreParams tags ps ls → params_of tags ps ≡ ls
params_same no_params = refl
params_same (one_param {tags} {p} {rest} {ty} {ps} m scalar more) =
    ap (λ x. record { shared = p.shared; ty = x } ∷ params_of tags rest) (means_type m) ∙ ap (λ ls. record { shared = p.shared; ty = ty } ∷ ls) (params_same more)

function_is : (h : HeadsTree) (library : ℕ) (entry : Bool) (t : TypeTree) (name : List ℕ) (params : List ParamTree) (body : StmtTrees) → Ends (DeclaresHead h library (FunctionTree entry t name params body)) (function_head h library entry t name params)
function_is h library entry t name params body =
    demand_ends _ _ _ (λ new. demand_ends _ _ _ (λ distinct. demand_ends _ _ _ (λ types. demand_ends _ _ _ (λ few.
    let both = and_parts (is_answer h.tags t) (are_params h.tags params) types in
    let result = and_parts (is_named h.tags t) (is_scalar (written_category t) || is_nothing (written_category t)) both.0 in
    answered (judged.function_head (free_is h name new) (not_false (repeats [] (param_names params)) distinct) (means_is h.tags t result.0) (result_means h.tags t result.1) (params_are h.tags params both.1) (leb-true (length params) 6 few))))))

-- ---- all three

pub head_is : (h : HeadsTree) (library : ℕ) (d : DeclTree) → Ends (DeclaresHead h library d) (head h library d)
head_is h library (StructTree name members) = struct_is h library name members
head_is h library (GlobalTree grant readers t name init) = global_is h library grant readers t name init
head_is h library (FunctionTree entry t name params body) = function_is h library entry t name params body

pub head_holds : {h g : HeadsTree} {library : ℕ} {d : DeclTree} → DeclaresHead h library d g → head h library d ≡ Ok g
head_holds (judged.struct_head {h} {library} {name} {members} {ms} next new is small) =
    demand_ok _ _ _ _ (next_holds (found name h.tags) (place_32 (length h.structs)) next)
    (demand_ok _ _ _ _ (false_not (repeats [] (names_of members)) new)
    (bind_ok _ _ _ _ (members_hold h [] h.tags (place_32 (length h.structs)) refl refl is)
    (bind_ok _ _ _ _ (demand_ok _ _ _ _ (le-leb (members_layout (known h.layouts) (types_of ms)).size 67108864 small) refl) refl)))
head_holds (judged.global_head {h} {library} {grant} {readers} {t} {ty} {name} {init} new is initial) =
    demand_ok _ _ _ _ (free_holds new) (bind_ok _ _ _ _ (object_holds h (place_32 (length h.structs)) t ty is) (demand_ok _ _ _ _ (initial_holds initial) refl))
head_holds (judged.function_head {h} {library} {entry} {t} {ty} {name} {params} {ps} {body} new distinct m result are few) =
    demand_ok _ _ _ _ (free_holds new)
    (demand_ok _ _ _ _ (false_not (repeats [] (param_names params)) distinct)
    (demand_ok _ _ _ _ (and_from (is_answer h.tags t) (are_params h.tags params) (and_from (is_named h.tags t) (is_scalar (written_category t) || is_nothing (written_category t)) (means_named m) (result_written m result)) (params_hold are))
    (demand_ok _ _ _ _ (le-leb (length params) 6 few)
    (ap (λ x. Ok (with_function h (record { library = library; entry = entry; answer = x; name = name; params = params_of h.tags params }))) (means_type m)
    ∙ ap (λ x. Ok (with_function h (record { library = library; entry = entry; answer = ty; name = name; params = x }))) (params_same are)))))
