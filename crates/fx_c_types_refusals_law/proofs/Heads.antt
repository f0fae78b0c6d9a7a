-- A head is refused for the first rule that it breaks.
use Rattle.std.proofs.Common.{◌≡◌, ℕ, Bool, true, false, ◌&&◌, not, nat_le, if◌then◌else◌, List, [], ◌∷◌, ◌++◌, length, Option, Some, None, Ok, refl, sym, ap, ◌∙◌, subst, append_assoc}
use Rattle.std.proofs.lemmas.List.{append-nil}
use Rattle.fx_c_ast.specs.declared.layout.Layout.{Layout}
use Rattle.fx_c_ast.specs.declared.parsed.Grant.{Grant}
use Rattle.fx_c_ast.specs.declared.parsed.Init.{Init}
use Rattle.fx_c_ast.specs.ParsedTrees.{TypeTree, ParamTree, DeclTree, StructTree, GlobalTree, FunctionTree}
use Rattle.fx_c_ast.specs.CheckedTrees.{TyTree}
use Rattle.fx_c_ast.specs.Layout.{members_layout}
use Rattle.fx_c_types_rules.specs.declared.fault.TypeKind.{TypeKind}
use Rattle.fx_c_types_rules.specs.declared.fault.TypeKind.TheVariants.{Twice, UnknownType, TooLarge, TooManyParameters, Initialiser}
use Rattle.fx_c_types_rules.specs.Checks.{Checked, ◌>>=◌, demand}
use Rattle.fx_c_types_rules.specs.Structs.{MemberTree, place_32}
use Rattle.fx_c_types_heads.specs.Names.{found}
use Rattle.fx_c_types_heads.specs.Written.{ty_of, is_object}
use Rattle.fx_c_types_heads.specs.Sizes.{known, is_small}
use Rattle.fx_c_types_heads.specs.Heads.{HeadsTree, GlobalHead, FunctionHead, repeats, is_declared, members_behind, types_of, names_of, is_next, struct_layout, with_struct, struct_head, is_initial, with_global, global_head, is_answer, are_params, param_names, params_of, with_function, function_head, head}
use Rattle.fx_c_types_refusals_law.specs.Kinds.{kinds, first_broken, IsRefusedFor}
use Rattle.fx_c_types_refusals_law.proofs.Demands.{demanded, forbidden, demanded_both, forbidden_both, demanded_before}
use Rattle.fx_c_types_refusals_law.specs.Heads.{members_of, are_objects, breaks_struct, breaks_global, breaks_function, breaks_head}

-- ---- a struct

both_demanded : {A : Type 0} (a b : Bool) (kind : TypeKind) (r : Checked A) → demand a kind (demand b kind r) ≡ demand (a && b) kind r
both_demanded true b kind r = refl
both_demanded false b kind r = refl

members_are : (h : HeadsTree) (before : List MemberTree) (ms : List (TypeTree × List ℕ)) → members_behind h before ms ≡ demand (are_objects h.tags (place_32 (length h.structs)) ms) UnknownType (Ok (before ++ members_of h.tags ms))
members_are h before [] = ap Ok (sym (append-nil before))
members_are h before (m ∷ ms) =
    let bound : ℕ = place_32 (length h.structs) in
    let next : MemberTree = record { ty = ty_of h.tags m.0; name = m.1 } in
    ap (λ r. demand (is_object h.tags bound m.0) UnknownType r) (members_are h (before ++ next ∷ []) ms)
    ∙ both_demanded (is_object h.tags bound m.0) (are_objects h.tags bound ms) UnknownType (Ok ((before ++ next ∷ []) ++ members_of h.tags ms))
    ∙ ap (λ l. demand (is_object h.tags bound m.0 && are_objects h.tags bound ms) UnknownType (Ok l)) (append_assoc before (next ∷ []) (members_of h.tags ms))

struct_refused : (h : HeadsTree) (name : List ℕ) (members : List (TypeTree × List ℕ)) → IsRefusedFor (struct_head h name members) (first_broken (breaks_struct h name members) kinds)
struct_refused h name members =
    let ms : List MemberTree = members_of h.tags members in
    let bound : ℕ = place_32 (length h.structs) in
    let objects : Bool = are_objects h.tags bound members in
    let small : Bool = nat_le (members_layout (known h.layouts) (types_of ms)).size 67108864 in
    let end : List MemberTree → Layout → Checked HeadsTree = λ ms layout. Ok (with_struct h layout name ms) in
    let build : List MemberTree → Checked HeadsTree = λ ms. struct_layout h.layouts ms >>= end ms in
    let last : Option TypeKind = if not small then Some TooLarge else None in
    let rest : Option TypeKind = if not objects then Some UnknownType else last in
    let whole : IsRefusedFor (demand objects UnknownType (Ok ms) >>= build) rest =
    demanded_before objects UnknownType (Ok ms) build last
    (demanded_before small TooLarge (Ok (members_layout (known h.layouts) (types_of ms))) (end ms) None refl) in
    demanded_both (is_next (found name h.tags) bound) (repeats [] (names_of members)) Twice (members_behind h [] members >>= build) rest
    (subst (λ r. IsRefusedFor (r >>= build) rest) (sym (members_are h [] members)) whole)

-- ---- a global

global_refused : (h : HeadsTree) (library : ℕ) (grant readers : Grant) (t : TypeTree) (name : List ℕ) (init : Init) → IsRefusedFor (global_head h library grant readers t name init) (first_broken (breaks_global h t name init) kinds)
global_refused h library grant readers t name init =
    let object : Bool = is_object h.tags (place_32 (length h.structs)) t in
    let small : Bool = is_small h.layouts (ty_of h.tags t) in
    let made : TyTree → GlobalHead = λ ty. record { library = library; grant = grant; readers = readers; ty = ty; name = name; init = init } in
    let build : TyTree → Checked HeadsTree = λ ty. demand (is_initial ty init) Initialiser (Ok (with_global h (made ty))) in
    let last : Option TypeKind = if not (is_initial (ty_of h.tags t) init) then Some Initialiser else None in
    let sized : Option TypeKind = if not small then Some TooLarge else last in
    let rest : Option TypeKind = if not object then Some UnknownType else sized in
    let type : Checked TyTree = demand small TooLarge (Ok (ty_of h.tags t)) in
    forbidden (is_declared h name) Twice (demand object UnknownType type >>= build) rest
    (demanded_before object UnknownType type build sized
    (demanded_before small TooLarge (Ok (ty_of h.tags t)) build last
    (demanded (is_initial (ty_of h.tags t) init) Initialiser (Ok (with_global h (made (ty_of h.tags t)))) None refl)))

-- ---- a function

function_refused : (h : HeadsTree) (library : ℕ) (entry : Bool) (answer : TypeTree) (name : List ℕ) (params : List ParamTree) → IsRefusedFor (function_head h library entry answer name params) (first_broken (breaks_function h answer name params) kinds)
function_refused h library entry answer name params =
    let made : FunctionHead = record { library = library; entry = entry; answer = ty_of h.tags answer; name = name; params = params_of h.tags params } in
    let types : Bool = is_answer h.tags answer && are_params h.tags params in
    let few : Bool = nat_le (length params) 6 in
    let last : Option TypeKind = if not few then Some TooManyParameters else None in
    let rest : Option TypeKind = if not types then Some UnknownType else last in
    let end : Checked HeadsTree = demand few TooManyParameters (Ok (with_function h made)) in
    forbidden_both (is_declared h name) (repeats [] (param_names params)) Twice (demand types UnknownType end) rest
    (demanded types UnknownType end last (demanded few TooManyParameters (Ok (with_function h made)) None refl))

pub head_refused : (h : HeadsTree) (library : ℕ) (d : DeclTree) → IsRefusedFor (head h library d) (first_broken (breaks_head h d) kinds)
head_refused h library (StructTree name members) = struct_refused h name members
head_refused h library (GlobalTree grant readers t name init) = global_refused h library grant readers t name init
head_refused h library (FunctionTree entry answer name params body) = function_refused h library entry answer name params
