-- What the heads of a program have, wherever they keep the rules.
use Rattle.std.proofs.Common.{◌≡◌, ℕ, suc, ◌+◌, ◌≤◌, Bool, true, false, ◌&&◌, not, nat_le, List, [], ◌∷◌, ◌++◌, length, Ok, lit≤, refl, sym, ap, ◌∙◌, arith}
use Rattle.std.specs.Prelude.{All}
use Rattle.std.proofs.Math.Nat.{min-le_left}
use Rattle.std.proofs.lemmas.Bool.{leb-true}
use Rattle.std.proofs.lemmas.List.{length-append}
use Rattle.std.proofs.lemmas.List.Elements.{All-nil, All-cons, All-push, All-weaker}
use Rattle.fx_c_ast.specs.declared.layout.Layout.{Layout}
use Rattle.fx_c_ast.specs.declared.parsed.Grant.{Grant}
use Rattle.fx_c_ast.specs.declared.parsed.Init.{Init}
use Rattle.fx_c_ast.specs.ParsedTrees.{TypeTree, VoidType, IntegerType, StructType, PointerType, ArrayType, ParamTree, DeclTree, StructTree, GlobalTree, FunctionTree}
use Rattle.fx_c_ast.specs.CheckedTrees.{TyTree}
use Rattle.fx_c_ast.specs.Layout.{members_layout, IsSized, AreSized}
use Rattle.fx_c_ast.proofs.Layouts.{greatest_from, more_bound}
use Rattle.fx_c_types_rules.specs.declared.fault.TypeKind.TheVariants.{Twice, UnknownType, TooLarge, TooManyParameters, Initialiser}
use Rattle.fx_c_types_rules.specs.Checks.{Checked, ◌>>=◌, demand}
use Rattle.fx_c_types_rules.specs.Types.{is_complete}
use Rattle.fx_c_types_rules.specs.Values.{is_scalar}
use Rattle.fx_c_types_rules.specs.Structs as plain
use Rattle.fx_c_types_rules.specs.Structs.{place_32}
use Rattle.fx_c_types_rules.specs.Locals.{LocalTree}
use Rattle.fx_c_types_heads.specs.Written.{ty_of, is_named, is_object, has_elements, written_category}
use Rattle.fx_c_types_heads.specs.Sizes.{known, is_small}
use Rattle.fx_c_types_heads.specs.Heads.{HeadsTree, GlobalHead, FunctionHead, no_heads, repeats, is_declared, object_type, members_behind, types_of, names_of, is_next, struct_layout, with_struct, struct_head, is_initial, with_global, global_head, is_param, is_answer, are_params, param_names, params_of, with_function, function_head, head}
use Rattle.fx_c_types_heads.specs.Names.{found}
use Rattle.fx_c_types_law.proofs.Known.{AreSmall, Describes, has_size, sized_same, struct_small, known_before, aligned_more, describes_more}
use Rattle.fx_c_types_law.proofs.Ends.{Ends, bind_ends, demand_ends}

-- the members' types of each struct
abbrev pub all_types : List plain.StructTree → List (List TyTree)
all_types [] = []
all_types (s ∷ ss) = types_of s.members ∷ all_types ss

pub length-all_types : (ss : List plain.StructTree) → length (all_types ss) ≡ length ss
length-all_types [] = refl
length-all_types (s ∷ ss) = ap suc (length-all_types ss)

push_types : (ss : List plain.StructTree) (s : plain.StructTree) → all_types (ss ++ s ∷ []) ≡ all_types ss ++ types_of s.members ∷ []
push_types [] s = refl
push_types (x ∷ ss) s = ap (λ ts. types_of x.members ∷ ts) (push_types ss s)

-- a parameter or a local that has a size by a table of layouts, where so many structs are there
abbrev pub IsSizedLocal : List Layout → ℕ → LocalTree → Type 0
IsSizedLocal layouts bound l = IsSized (known layouts) bound l.ty

-- a global that has a size and an initial value that fits it
abbrev pub IsSizedGlobal : List Layout → ℕ → GlobalHead → Type 0
IsSizedGlobal layouts bound g = IsSized (known layouts) bound g.ty × (is_initial g.ty g.init ≡ true)

abbrev pub HasScalars : List Layout → FunctionHead → Type 0
HasScalars layouts f = All (IsSizedLocal layouts 0) f.params × (length f.params ≤ 6)

pub record IsSound (h : HeadsTree) : Type 0 where
  pub same : length h.layouts ≡ length h.structs
  pub aligned : (n : ℕ) → 1 ≤ (known h.layouts n).align
  pub describes : Describes (known h.layouts) (all_types h.structs)
  pub globals : All (IsSizedGlobal h.layouts (length h.structs)) h.globals
  pub functions : All (HasScalars h.layouts) h.functions

pub none_sound : (tags : List (List ℕ × ℕ)) → IsSound (no_heads tags)
none_sound tags = record {
  same = refl;
  aligned = λ n. lit≤ tt;
  describes = record { laid = λ n less. absurd (omega arith); held = λ n less. absurd (omega arith) };
  globals = All-nil (IsSizedGlobal [] 0);
  functions = All-nil (HasScalars []);
}

and_left : (a b : Bool) → (a && b) ≡ true → a ≡ true
and_left true b h = refl
and_left false b h = h

and_right : (a b : Bool) → (a && b) ≡ true → b ≡ true
and_right true b h = h
and_right false b h = cc

object_complete : (tags : List (List ℕ × ℕ)) (declared : ℕ) (t : TypeTree) → is_object tags declared t ≡ true → is_complete declared (ty_of tags t) ≡ true
object_complete tags declared t h =
    and_right (is_named tags t) (is_complete declared (ty_of tags t)) (and_left (is_named tags t && is_complete declared (ty_of tags t)) (has_elements (ty_of tags t)) h)

object_elements : (tags : List (List ℕ × ℕ)) (declared : ℕ) (t : TypeTree) → is_object tags declared t ≡ true → has_elements (ty_of tags t) ≡ true
object_elements tags declared t h = and_right (is_named tags t && is_complete declared (ty_of tags t)) (has_elements (ty_of tags t)) h

-- the type of an object has a size
pub object_ends : (h : HeadsTree) (declared : ℕ) (t : TypeTree) → Ends (λ ty. (ty ≡ ty_of h.tags t) × IsSized (known h.layouts) declared (ty_of h.tags t)) (object_type h declared t)
object_ends h declared t =
    let P : TyTree → Type 0 = λ ty. (ty ≡ ty_of h.tags t) × IsSized (known h.layouts) declared (ty_of h.tags t) in
    let fine : Checked TyTree = Ok (ty_of h.tags t) in
    demand_ends P (is_object h.tags declared t) UnknownType (demand (is_small h.layouts (ty_of h.tags t)) TooLarge fine) (λ object.
    demand_ends P (is_small h.layouts (ty_of h.tags t)) TooLarge fine (λ small.
    (refl, has_size (known h.layouts) declared (ty_of h.tags t) (object_complete h.tags declared t object) (object_elements h.tags declared t object) (leb-true _ _ small))))

-- ---- structs

abbrev pub AreObjects : ℕ → List TyTree → Type 0
AreObjects bound [] = Unit {0}
AreObjects bound (t ∷ ts) = (is_complete bound t ≡ true) × (has_elements t ≡ true) × AreObjects bound ts

push_objects : (bound : ℕ) (ms : List plain.MemberTree) (m : plain.MemberTree) → AreObjects bound (types_of ms) → is_complete bound m.ty ≡ true → has_elements m.ty ≡ true → AreObjects bound (types_of (ms ++ m ∷ []))
push_objects bound [] m are complete elements = (complete, elements, tt)
push_objects bound (x ∷ ms) m are complete elements = (are.0, are.1, push_objects bound ms m are.2 complete elements)

members_ends : (h : HeadsTree) (before : List plain.MemberTree) (ms : List (TypeTree × List ℕ)) → AreObjects (place_32 (length h.structs)) (types_of before) → Ends (λ all. AreObjects (place_32 (length h.structs)) (types_of all)) (members_behind h before ms)
members_ends h before [] are = are
members_ends h before (m ∷ ms) are =
    let bound : ℕ = place_32 (length h.structs) in
    let next : plain.MemberTree = record { ty = ty_of h.tags m.0; name = m.1 } in
    demand_ends (λ all. AreObjects bound (types_of all)) (is_object h.tags bound m.0) UnknownType (members_behind h (before ++ next ∷ []) ms) (λ object.
    members_ends h (before ++ next ∷ []) ms (push_objects bound before next are (object_complete h.tags bound m.0 object) (object_elements h.tags bound m.0 object)))

members_sized : (f : ℕ → Layout) (bound count : ℕ) (ts : List TyTree) → bound ≤ count → AreObjects bound ts → AreSmall f ts → AreSized f count ts
members_sized f bound count [] le are small = tt
members_sized f bound count (t ∷ ts) le are small =
    (more_bound f bound count t le (has_size f bound t are.0 are.1 small.0), members_sized f bound count ts le are.2 small.1)

-- the layout of a struct that is small enough
abbrev IsLayout : List Layout → List plain.MemberTree → Layout → Type 0
IsLayout layouts ms l = (l ≡ members_layout (known layouts) (types_of ms)) × ((members_layout (known layouts) (types_of ms)).size ≤ 67108864)

layout_ends : (layouts : List Layout) (ms : List plain.MemberTree) → Ends (IsLayout layouts ms) (struct_layout layouts ms)
layout_ends layouts ms =
    let whole : Layout = members_layout (known layouts) (types_of ms) in
    demand_ends (IsLayout layouts ms) (nat_le whole.size 67108864) TooLarge (Ok whole) (λ small. (refl, leb-true _ _ small))

-- tables that differ behind the structs so far give globals and parameters the same sizes
more_global : (h : HeadsTree) (l : Layout) → IsSound h → (g : GlobalHead) → IsSizedGlobal h.layouts (length h.structs) g → IsSizedGlobal (h.layouts ++ l ∷ []) (length h.structs + 1) g
more_global h l is g sized = (
  more_bound (known (h.layouts ++ l ∷ [])) (length h.structs) (length h.structs + 1) g.ty (omega arith)
      (sized_same (known h.layouts) (known (h.layouts ++ l ∷ [])) (length h.structs) (λ m less. sym (known_before h.layouts l m (omega (arith, is.same)))) g.ty sized.0),
  sized.1,
)

more_scalars : (h : HeadsTree) (l : Layout) (f : FunctionHead) → HasScalars h.layouts f → HasScalars (h.layouts ++ l ∷ []) f
more_scalars h l f are = (
  All-weaker (IsSizedLocal h.layouts 0) (IsSizedLocal (h.layouts ++ l ∷ []) 0)
      (λ p sized. sized_same (known h.layouts) (known (h.layouts ++ l ∷ [])) 0 (λ m less. absurd (omega arith)) p.ty sized) f.params are.0,
  are.1,
)

with_struct_sound : (h : HeadsTree) (l : Layout) (name : List ℕ) (ms : List plain.MemberTree) → IsSound h → AreObjects (place_32 (length h.structs)) (types_of ms) → IsLayout h.layouts ms l → IsSound (with_struct h l name ms)
with_struct_sound h l name ms is objects layout =
    let f : ℕ → Layout = known h.layouts in
    let ts : List TyTree = types_of ms in
    let held : AreSized f (length (all_types h.structs)) ts =
    rw (length-all_types h.structs) (members_sized f (place_32 (length h.structs)) (length h.structs) ts (min-le_left (length h.structs) 4294967295) objects (struct_small f is.aligned ts layout.1)) in
    let more : length (h.structs ++ record { name = name; members = ms } ∷ []) ≡ length h.structs + 1 = simp length-append in
    record {
      same = simp length-append (ap (λ n. n + 1) is.same);
      aligned = aligned_more h.layouts l is.aligned (rw layout.0 (greatest_from f 1 ts));
      describes = rw (push_types h.structs (record { name = name; members = ms }))
          (describes_more h.layouts l (all_types h.structs) ts (is.same ∙ sym (length-all_types h.structs)) is.describes layout.0 held);
      globals = rw more (All-weaker (IsSizedGlobal h.layouts (length h.structs)) (IsSizedGlobal (h.layouts ++ l ∷ []) (length h.structs + 1)) (more_global h l is) h.globals is.globals);
      functions = All-weaker (HasScalars h.layouts) (HasScalars (h.layouts ++ l ∷ [])) (more_scalars h l) h.functions is.functions;
    }

-- ---- one declaration

-- how many structs it declares
abbrev pub structs_in : DeclTree → ℕ
structs_in (StructTree name members) = 1
structs_in (GlobalTree grant readers ty name init) = 0
structs_in (FunctionTree entry answer name params body) = 0

-- how many functions it declares
abbrev pub functions_in : DeclTree → ℕ
functions_in (StructTree name members) = 0
functions_in (GlobalTree grant readers ty name init) = 0
functions_in (FunctionTree entry answer name params body) = 1

-- what a declaration's head leaves
pub record Follows (h : HeadsTree) (d : DeclTree) (g : HeadsTree) : Type 0 where
  pub sound : IsSound g
  pub structs : length g.structs ≡ length h.structs + structs_in d
  pub globals : length g.globals ≤ length h.globals + 1
  pub functions : length g.functions ≡ length h.functions + functions_in d

struct_ends : (h : HeadsTree) (name : List ℕ) (members : List (TypeTree × List ℕ)) → IsSound h → Ends (Follows h (StructTree name members)) (struct_head h name members)
struct_ends h name members is =
    let Q : HeadsTree → Type 0 = Follows h (StructTree name members) in
    let build : List plain.MemberTree → Checked HeadsTree = λ ms. struct_layout h.layouts ms >>= (λ layout. Ok (with_struct h layout name ms)) in
    demand_ends Q (is_next (found name h.tags) (place_32 (length h.structs))) Twice (demand (not (repeats [] (names_of members))) Twice (members_behind h [] members >>= build)) (λ next.
    demand_ends Q (not (repeats [] (names_of members))) Twice (members_behind h [] members >>= build) (λ apart.
    bind_ends (λ all. AreObjects (place_32 (length h.structs)) (types_of all)) Q (members_behind h [] members) build (members_ends h [] members tt) (λ ms objects.
    bind_ends (IsLayout h.layouts ms) Q (struct_layout h.layouts ms) (λ layout. Ok (with_struct h layout name ms)) (layout_ends h.layouts ms) (λ layout has. record {
      sound = with_struct_sound h layout name ms is objects has;
      structs = simp length-append;
      globals = omega arith;
      functions = omega arith;
    }))))

with_global_sound : (h : HeadsTree) (g : GlobalHead) → IsSound h → IsSizedGlobal h.layouts (length h.structs) g → IsSound (with_global h g)
with_global_sound h g is sized = record {
  same = is.same;
  aligned = is.aligned;
  describes = is.describes;
  globals = All-push (IsSizedGlobal h.layouts (length h.structs)) h.globals g is.globals sized;
  functions = is.functions;
}

global_ends : (h : HeadsTree) (library : ℕ) (grant readers : Grant) (t : TypeTree) (name : List ℕ) (init : Init) → IsSound h → Ends (Follows h (GlobalTree grant readers t name init)) (global_head h library grant readers t name init)
global_ends h library grant readers t name init is =
    let Q : HeadsTree → Type 0 = Follows h (GlobalTree grant readers t name init) in
    let bound : ℕ = place_32 (length h.structs) in
    let made : TyTree → GlobalHead = λ ty. record { library = library; grant = grant; readers = readers; ty = ty; name = name; init = init } in
    let build : TyTree → Checked HeadsTree = λ ty. demand (is_initial ty init) Initialiser (Ok (with_global h (made ty))) in
    demand_ends Q (not (is_declared h name)) Twice (object_type h bound t >>= build) (λ free.
    bind_ends (λ ty. (ty ≡ ty_of h.tags t) × IsSized (known h.layouts) bound (ty_of h.tags t)) Q (object_type h bound t) build (object_ends h bound t) (λ ty has.
    demand_ends Q (is_initial ty init) Initialiser (Ok (with_global h (made ty))) (λ initial. record {
      sound = with_global_sound h (made ty) is (more_bound (known h.layouts) bound (length h.structs) ty (min-le_left (length h.structs) 4294967295) (rw has.0 has.1), initial);
      structs = omega arith;
      globals = simp length-append (omega arith);
      functions = omega arith;
    })))

scalar_sized : (tags : List (List ℕ × ℕ)) (layouts : List Layout) (t : TypeTree) → is_scalar (written_category t) ≡ true → IsSized (known layouts) 0 (ty_of tags t)
scalar_sized tags layouts VoidType h = cc
scalar_sized tags layouts (IntegerType i) h = tt
scalar_sized tags layouts (StructType tag) h = cc
scalar_sized tags layouts (PointerType t) h = tt
scalar_sized tags layouts (ArrayType t count) h = cc

params_sized : (tags : List (List ℕ × ℕ)) (layouts : List Layout) (ps : List ParamTree) → are_params tags ps ≡ true → All (IsSizedLocal layouts 0) (params_of tags ps)
params_sized tags layouts [] h = All-nil (IsSizedLocal layouts 0)
params_sized tags layouts (p ∷ ps) h =
    All-cons (IsSizedLocal layouts 0) (record { shared = p.shared; ty = ty_of tags p.ty }) (params_of tags ps)
    (scalar_sized tags layouts p.ty (and_right (is_named tags p.ty) (is_scalar (written_category p.ty)) (and_left (is_param tags p.ty) (are_params tags ps) h)))
    (params_sized tags layouts ps (and_right (is_param tags p.ty) (are_params tags ps) h))

length-params : (tags : List (List ℕ × ℕ)) (ps : List ParamTree) → length (params_of tags ps) ≡ length ps
length-params tags [] = refl
length-params tags (p ∷ ps) = ap suc (length-params tags ps)

with_function_sound : (h : HeadsTree) (f : FunctionHead) → IsSound h → HasScalars h.layouts f → IsSound (with_function h f)
with_function_sound h f is sized = record {
  same = is.same;
  aligned = is.aligned;
  describes = is.describes;
  globals = is.globals;
  functions = All-push (HasScalars h.layouts) h.functions f is.functions sized;
}

function_ends : (h : HeadsTree) (library : ℕ) (entry : Bool) (answer : TypeTree) (name : List ℕ) (params : List ParamTree) (body : _) → IsSound h → Ends (Follows h (FunctionTree entry answer name params body)) (function_head h library entry answer name params)
function_ends h library entry answer name params body is =
    let Q : HeadsTree → Type 0 = Follows h (FunctionTree entry answer name params body) in
    let made : FunctionHead = record { library = library; entry = entry; answer = ty_of h.tags answer; name = name; params = params_of h.tags params } in
    let last : Checked HeadsTree = Ok (with_function h made) in
    let few : Checked HeadsTree = demand (nat_le (length params) 6) TooManyParameters last in
    let types : Checked HeadsTree = demand (is_answer h.tags answer && are_params h.tags params) UnknownType few in
    demand_ends Q (not (is_declared h name)) Twice (demand (not (repeats [] (param_names params))) Twice types) (λ free.
    demand_ends Q (not (repeats [] (param_names params))) Twice types (λ apart.
    demand_ends Q (is_answer h.tags answer && are_params h.tags params) UnknownType few (λ typed.
    demand_ends Q (nat_le (length params) 6) TooManyParameters last (λ six. record {
      sound = with_function_sound h made is (params_sized h.tags h.layouts params (and_right (is_answer h.tags answer) (are_params h.tags params) typed), rw (length-params h.tags params) (leb-true (length params) 6 six));
      structs = omega arith;
      globals = omega arith;
      functions = simp length-append;
    }))))

pub head_ends : (h : HeadsTree) (library : ℕ) (d : DeclTree) → IsSound h → Ends (Follows h d) (head h library d)
head_ends h library (StructTree name members) is = struct_ends h name members is
head_ends h library (GlobalTree grant readers t name init) is = global_ends h library grant readers t name init is
head_ends h library (FunctionTree entry answer name params body) is = function_ends h library entry answer name params body is
