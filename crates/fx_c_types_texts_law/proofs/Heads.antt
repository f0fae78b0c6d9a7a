-- The types in the heads of a program whose declarations are written.
use Rattle.std.proofs.Common.{◌≡◌, ℕ, zero, suc, ◌+◌, ◌<◌, ◌≤◌, Bool, true, ◌&&◌, not, nat_le, List, [], ◌∷◌, ◌++◌, length, get_or, Ok, lit≤, sym, ◌∙◌, arith, subst}
use Rattle.std.specs.Prelude.{All}
use Rattle.std.proofs.lemmas.Bool.{and_parts, leb-true}
use Rattle.std.proofs.lemmas.List.Elements.{All-head, All-tail}
use Rattle.fx_c_ast.specs.declared.layout.Layout.{Layout}
use Rattle.fx_c_ast.specs.declared.parsed.Grant.{Grant}
use Rattle.fx_c_ast.specs.declared.parsed.Init.{Init}
use Rattle.fx_c_ast.specs.ParsedTrees.{TypeTree, ParamTree, DeclTree, StructTree, GlobalTree, FunctionTree}
use Rattle.fx_c_ast.specs.CheckedTrees.{TyTree}
use Rattle.fx_c_ast.specs.Layout.{members_layout, known_layouts, IsSized, AreSized}
use Rattle.fx_c_ast.proofs.Layouts.{more_bound}
use Rattle.fx_c_types_heads.specs.Names.{found}
use Rattle.fx_c_types_rules.specs.declared.fault.TypeKind.TheVariants.{Twice, UnknownType, TooLarge, TooManyParameters, Initialiser}
use Rattle.fx_c_types_rules.specs.Checks.{Checked, ◌>>=◌, demand}
use Rattle.fx_c_types_rules.specs.Types.{is_complete}
use Rattle.fx_c_types_rules.specs.Structs as plain
use Rattle.fx_c_types_rules.specs.Structs.{place_32}
use Rattle.fx_c_types_rules.specs.Locals.{LocalTree}
use Rattle.fx_c_types_heads.specs.Written.{ty_of, is_named, is_object, has_elements}
use Rattle.fx_c_types_heads.specs.Sizes.{known, is_small}
use Rattle.fx_c_types_heads.specs.Heads.{HeadsTree, GlobalHead, FunctionHead, no_heads, repeats, is_declared, object_type, members_behind, types_of, names_of, is_next, struct_layout, with_struct, struct_head, is_initial, with_global, global_head, is_answer, are_params, param_names, params_of, with_function, function_head, head}
use Rattle.fx_c_types.specs.Programs.{PlacedDecl, at_declaration, tags_of, heads_of}
use Rattle.fx_c_types_law.proofs.Ends.{Ends, bind_ends, then_ends, demand_ends, at_ends, weaker, both_end}
use Rattle.fx_c_types_law.proofs.Known.{sized_same, table_is, structs_sized}
use Rattle.fx_c_types_law.proofs.Heads.{all_types, length-all_types, IsSizedGlobal, IsSound, none_sound, Follows, head_ends, object_ends}
use Rattle.fx_c_types_model.specs.Fits.{HasElementSize}
use Rattle.fx_c_types_texts_law.proofs.Trees.{IsBare, IsDeclared, AreMembers, AreSome, AreParameters, IsWritten}
use Rattle.fx_c_types_texts_law.proofs.Nodes.{AllLocals, AllGlobals, AllMembers, AllStructs, AllFunctions}
use Rattle.fx_c_types_texts_law.proofs.Programs.{struct_count, AllPlaced, KnowsHeads}
use Rattle.fx_c_types_texts_law.proofs.Sizes.{BareTy, Shaped, IsMeasured, bare_ty, shaped_ty, bare_measured, shaped_measured, element_size, AreShaped, struct_some}

-- ---- tables

globals_push : (T : TyTree → Type 0) (gs : List GlobalHead) (g : GlobalHead) → AllGlobals T gs → T g.ty → AllGlobals T (gs ++ g ∷ [])
globals_push T [] g all is = (is, tt)
globals_push T (x ∷ gs) g all is = (all.0, globals_push T gs g all.1 is)

members_push : (T : TyTree → Type 0) (ms : List plain.MemberTree) (m : plain.MemberTree) → AllMembers T ms → T m.ty → AllMembers T (ms ++ m ∷ [])
members_push T [] m all is = (is, tt)
members_push T (x ∷ ms) m all is = (all.0, members_push T ms m all.1 is)

structs_push : (T : TyTree → Type 0) (ss : List plain.StructTree) (s : plain.StructTree) → AllStructs T ss → AllMembers T s.members → AllStructs T (ss ++ s ∷ [])
structs_push T [] s all are = (are, tt)
structs_push T (x ∷ ss) s all are = (all.0, structs_push T ss s all.1 are)

functions_push : (T : TyTree → Type 0) (fs : List FunctionHead) (f : FunctionHead) → AllFunctions T fs → T f.answer × AllLocals T f.params → AllFunctions T (fs ++ f ∷ [])
functions_push T [] f all is = (is, tt)
functions_push T (x ∷ fs) f all is = (all.0, functions_push T fs f all.1 is)

abbrev IsSome : List plain.MemberTree → Type 0
IsSome [] = ⊥
IsSome (m ∷ ms) = Unit {0}

some_push : (ms : List plain.MemberTree) (m : plain.MemberTree) → IsSome (ms ++ m ∷ [])
some_push [] m = tt
some_push (x ∷ ms) m = tt

-- each struct has a member
abbrev AllSome : List plain.StructTree → Type 0
AllSome [] = Unit {0}
AllSome (s ∷ ss) = IsSome s.members × AllSome ss

all_some_push : (ss : List plain.StructTree) (s : plain.StructTree) → AllSome ss → IsSome s.members → AllSome (ss ++ s ∷ [])
all_some_push [] s all is = (is, tt)
all_some_push (x ∷ ss) s all is = (all.0, all_some_push ss s all.1 is)

abbrev AllSmall : List Layout → Type 0
AllSmall [] = Unit {0}
AllSmall (l ∷ ls) = (l.size ≤ 67108864) × AllSmall ls

small_push : (ls : List Layout) (l : Layout) → AllSmall ls → l.size ≤ 67108864 → AllSmall (ls ++ l ∷ [])
small_push [] l all le = (le, tt)
small_push (x ∷ ls) l all le = (all.0, small_push ls l all.1 le)

small_at : (ls : List Layout) (n : ℕ) → AllSmall ls → (known ls n).size ≤ 67108864
small_at [] n all = lit≤ tt
small_at (l ∷ ls) zero all = all.0
small_at (l ∷ ls) (suc n) all = small_at ls n all.1

-- ---- one declaration

pub record AreWell (h : HeadsTree) : Type 0 where
  pub globals : AllGlobals Shaped h.globals
  pub structs : AllStructs Shaped h.structs
  pub some : AllSome h.structs
  pub functions : AllFunctions BareTy h.functions
  pub small : AllSmall h.layouts

none_well : (tags : List (List ℕ × ℕ)) → AreWell (no_heads tags)
none_well tags = record { globals = tt; structs = tt; some = tt; functions = tt; small = tt }

object_shaped : (h : HeadsTree) (n : ℕ) (t : TypeTree) → IsDeclared t → is_object h.tags n t ≡ true → Shaped (ty_of h.tags t)
object_shaped h n t is object = shaped_ty h.tags t is (and_parts (is_named h.tags t && is_complete n (ty_of h.tags t)) (has_elements (ty_of h.tags t)) object).1

type_shaped : (h : HeadsTree) (n : ℕ) (t : TypeTree) → IsDeclared t → Ends Shaped (object_type h n t)
type_shaped h n t is =
    let last : Checked TyTree = Ok (ty_of h.tags t) in
    demand_ends Shaped (is_object h.tags n t) UnknownType (demand (is_small h.layouts (ty_of h.tags t)) TooLarge last) (λ object.
    demand_ends Shaped (is_small h.layouts (ty_of h.tags t)) TooLarge last (λ _. object_shaped h n t is object))

abbrev WellMembers : List plain.MemberTree → Type 0
WellMembers all = AllMembers Shaped all × IsSome all

members_shaped : (h : HeadsTree) (before : List plain.MemberTree) (ms : List (TypeTree × List ℕ)) → AreMembers ms → WellMembers before → Ends (λ (all : List plain.MemberTree). AllMembers Shaped all × IsSome all) (members_behind h before ms)
members_shaped h before [] are well = well
members_shaped h before (m ∷ ms) are well =
    let next : plain.MemberTree = record { ty = ty_of h.tags m.0; name = m.1 } in
    demand_ends WellMembers (is_object h.tags (place_32 (length h.structs)) m.0) UnknownType (members_behind h (before ++ next ∷ []) ms) (λ object.
    members_shaped h (before ++ next ∷ []) ms are.1 (members_push Shaped before next well.0 (object_shaped h (place_32 (length h.structs)) m.0 are.0 object), some_push before next))

first_shaped : (h : HeadsTree) (ms : List (TypeTree × List ℕ)) → AreSome ms → AreMembers ms → Ends (λ (all : List plain.MemberTree). AllMembers Shaped all × IsSome all) (members_behind h [] ms)
first_shaped h [] some are = absurd some
first_shaped h (m ∷ ms) some are =
    let next : plain.MemberTree = record { ty = ty_of h.tags m.0; name = m.1 } in
    demand_ends WellMembers (is_object h.tags (place_32 (length h.structs)) m.0) UnknownType (members_behind h (next ∷ []) ms) (λ object.
    members_shaped h (next ∷ []) ms are.1 ((object_shaped h (place_32 (length h.structs)) m.0 are.0 object, tt), tt))

layout_small : (layouts : List Layout) (ms : List plain.MemberTree) → Ends (λ (l : Layout). l.size ≤ 67108864) (struct_layout layouts ms)
layout_small layouts ms =
    let whole : Layout = members_layout (known layouts) (types_of ms) in
    demand_ends (λ (l : Layout). l.size ≤ 67108864) (nat_le whole.size 67108864) TooLarge (Ok whole) (λ small. leb-true whole.size 67108864 small)

struct_well : (h : HeadsTree) (name : List ℕ) (members : List (TypeTree × List ℕ)) → AreSome members → AreMembers members → AreWell h → Ends AreWell (struct_head h name members)
struct_well h name members some are is =
    let build : List plain.MemberTree → Checked HeadsTree = λ ms. struct_layout h.layouts ms >>= (λ layout. Ok (with_struct h layout name ms)) in
    demand_ends AreWell (is_next (found name h.tags) (place_32 (length h.structs))) Twice (demand (not (repeats [] (names_of members))) Twice (members_behind h [] members >>= build)) (λ _.
    demand_ends AreWell (not (repeats [] (names_of members))) Twice (members_behind h [] members >>= build) (λ _.
    bind_ends WellMembers AreWell (members_behind h [] members) build (first_shaped h members some are) (λ ms well.
    bind_ends (λ (l : Layout). l.size ≤ 67108864) AreWell (struct_layout h.layouts ms) (λ layout. Ok (with_struct h layout name ms)) (layout_small h.layouts ms) (λ layout small. record {
      globals = is.globals;
      structs = structs_push Shaped h.structs (record { name = name; members = ms }) is.structs well.0;
      some = all_some_push h.structs (record { name = name; members = ms }) is.some well.1;
      functions = is.functions;
      small = small_push h.layouts layout is.small small;
    }))))

global_well : (h : HeadsTree) (library : ℕ) (grant readers : Grant) (t : TypeTree) (name : List ℕ) (init : Init) → IsDeclared t → AreWell h → Ends AreWell (global_head h library grant readers t name init)
global_well h library grant readers t name init declared is =
    let bound : ℕ = place_32 (length h.structs) in
    let made : TyTree → GlobalHead = λ ty. record { library = library; grant = grant; readers = readers; ty = ty; name = name; init = init } in
    let build : TyTree → Checked HeadsTree = λ ty. demand (is_initial ty init) Initialiser (Ok (with_global h (made ty))) in
    demand_ends AreWell (not (is_declared h name)) Twice (object_type h bound t >>= build) (λ _.
    bind_ends Shaped AreWell (object_type h bound t) build (type_shaped h bound t declared) (λ ty shaped.
    demand_ends AreWell (is_initial ty init) Initialiser (Ok (with_global h (made ty))) (λ _. record {
      globals = globals_push Shaped h.globals (made ty) is.globals shaped;
      structs = is.structs;
      some = is.some;
      functions = is.functions;
      small = is.small;
    })))

params_bare : (tags : List (List ℕ × ℕ)) (ps : List ParamTree) → AreParameters ps → AllLocals BareTy (params_of tags ps)
params_bare tags [] are = tt
params_bare tags (p ∷ ps) are = (bare_ty tags p.ty are.0, params_bare tags ps are.1)

function_well : (h : HeadsTree) (library : ℕ) (entry : Bool) (answer : TypeTree) (name : List ℕ) (params : List ParamTree) → IsBare answer → AreParameters params → AreWell h → Ends AreWell (function_head h library entry answer name params)
function_well h library entry answer name params bare are is =
    let made : FunctionHead = record { library = library; entry = entry; answer = ty_of h.tags answer; name = name; params = params_of h.tags params } in
    let last : Checked HeadsTree = Ok (with_function h made) in
    let short : Checked HeadsTree = demand (nat_le (length params) 6) TooManyParameters last in
    let types : Checked HeadsTree = demand (is_answer h.tags answer && are_params h.tags params) UnknownType short in
    demand_ends AreWell (not (is_declared h name)) Twice (demand (not (repeats [] (param_names params))) Twice types) (λ _.
    demand_ends AreWell (not (repeats [] (param_names params))) Twice types (λ _.
    demand_ends AreWell (is_answer h.tags answer && are_params h.tags params) UnknownType short (λ _.
    demand_ends AreWell (nat_le (length params) 6) TooManyParameters last (λ _. record {
      globals = is.globals;
      structs = is.structs;
      some = is.some;
      functions = functions_push BareTy h.functions made is.functions (bare_ty h.tags answer bare, params_bare h.tags params are);
      small = is.small;
    }))))

head_well : (h : HeadsTree) (library : ℕ) (d : DeclTree) → IsWritten d → AreWell h → Ends AreWell (head h library d)
head_well h library (StructTree name members) w is = struct_well h name members w.0 w.1 is
head_well h library (GlobalTree grant readers t name init) w is = global_well h library grant readers t name init w is
head_well h library (FunctionTree entry answer name params body) w is = function_well h library entry answer name params w.0 w.1 is

-- ---- all declarations

record HasAll (h : HeadsTree) (ds : List PlacedDecl) (g : HeadsTree) : Type 0 where
  sound : IsSound g
  well : AreWell g
  structs : length g.structs ≡ length h.structs + struct_count ds

heads_well : (n : ℕ) (h : HeadsTree) (ds : List PlacedDecl) → AllPlaced ds → IsSound h → AreWell h → Ends (HasAll h ds) (heads_of n h ds)
heads_well n h [] w sound well = record { sound = sound; well = well; structs = omega arith }
heads_well n h (d ∷ ds) w sound well =
    let Both : HeadsTree → Type 0 = λ g. Follows h d.decl g × AreWell g in
    let first : Checked HeadsTree = head h d.library d.decl in
    then_ends Both (HasAll h (d ∷ ds)) (at_declaration n first) (λ h. heads_of (n + 1) h ds)
    (at_ends Both n first (both_end (Follows h d.decl) AreWell first (head_ends h d.library d.decl sound) (head_well h d.library d.decl w.0 well))) (λ g step.
    weaker (HasAll g ds) (HasAll h (d ∷ ds)) (heads_of (n + 1) g ds) (heads_well (n + 1) g ds w.1 step.0.sound step.1) (λ last has. record {
      sound = has.sound;
      well = has.well;
      structs = omega (arith, has.structs, step.0.structs);
    }))

-- ---- what the heads of a program give

types_shaped : (ss : List plain.StructTree) (n : ℕ) → n < length (all_types ss) → AllStructs Shaped ss → AllSome ss → AreShaped (get_or (all_types ss) n [])
types_shaped [] n less all some = absurd (omega (arith, less))
types_shaped (s ∷ ss) zero less all some = first s.members all.0 some.0
  where
    first : (ms : List plain.MemberTree) → AllMembers Shaped ms → IsSome ms → AreShaped (types_of ms)
    first [] are is = absurd is
    first (m ∷ ms) are is = are.0
types_shaped (s ∷ ss) (suc n) less all some = types_shaped ss n (omega (arith, less)) all.1 some.1

members_measured : (f : ℕ → Layout) (bound : ℕ) (ms : List plain.MemberTree) → AllMembers Shaped ms → AreSized f bound (types_of ms) → AllMembers (IsMeasured f) ms
members_measured f bound [] are sized = tt
members_measured f bound (m ∷ ms) are sized = (shaped_measured f bound m.ty are.0 sized.0, members_measured f bound ms are.1 sized.1)

abbrev SizedAt : (ℕ → Layout) → List (List TyTree) → ℕ → Type 0
SizedAt f tss n = (bound : ℕ) × AreSized f bound (get_or tss n [])

structs_measured : (f : ℕ → Layout) (ss : List plain.StructTree) → AllStructs Shaped ss → ((n : ℕ) → n < length (all_types ss) → SizedAt f (all_types ss) n) → AllStructs (IsMeasured f) ss
structs_measured f [] all sized = tt
structs_measured f (s ∷ ss) all sized =
    let here : SizedAt f (all_types (s ∷ ss)) zero = sized zero (omega arith) in
    (members_measured f here.0 s.members all.0 here.1, structs_measured f ss all.1 (λ n less. sized (suc n) (omega (arith, less))))

globals_measured : (f : ℕ → Layout) (bound : ℕ) (layouts : List Layout) (count : ℕ) (gs : List GlobalHead) → AllGlobals Shaped gs → All (IsSizedGlobal layouts count) gs → ((t : TyTree) → IsSized (known layouts) count t → IsSized f bound t) → AllGlobals (IsMeasured f) gs
globals_measured f bound layouts count [] all sized to = tt
globals_measured f bound layouts count (g ∷ gs) all sized to = (
  shaped_measured f bound g.ty all.0 (to g.ty (All-head (IsSizedGlobal layouts count) g gs sized).0),
  globals_measured f bound layouts count gs all.1 (All-tail (IsSizedGlobal layouts count) g gs sized) to,
)

locals_measured : (f : ℕ → Layout) (ls : List LocalTree) → AllLocals BareTy ls → AllLocals (IsMeasured f) ls
locals_measured f [] all = tt
locals_measured f (l ∷ ls) all = (bare_measured f l.ty all.0, locals_measured f ls all.1)

functions_measured : (f : ℕ → Layout) (fs : List FunctionHead) → AllFunctions BareTy fs → AllFunctions (IsMeasured f) fs
functions_measured f [] all = tt
functions_measured f (g ∷ gs) all = ((bare_measured f g.answer all.0.0, locals_measured f g.params all.0.1), functions_measured f gs all.1)

module _ (h : HeadsTree) (sound : IsSound h) (well : AreWell h) where
  abbrev types : List (List TyTree)
  types = all_types h.structs

  abbrev f : ℕ → Layout
  f = known_layouts (all_types h.structs)

  sized_by : (count : ℕ) (t : TyTree) → count ≤ length (all_types h.structs) → IsSized (known h.layouts) count t → IsSized (known_layouts (all_types h.structs)) (length (all_types h.structs)) t
  sized_by count t within is =
      sized_same (known h.layouts) f (length types) (table_is (known h.layouts) types sound.describes) t (more_bound (known h.layouts) count (length types) t within is)

  struct_sizes : (k : ℕ) → k < length (all_types h.structs) → (1 ≤ (known_layouts (all_types h.structs) k).size) × ((known_layouts (all_types h.structs) k).size ≤ 67108864)
  struct_sizes k less =
      let some : 1 ≤ (known h.layouts k).size = struct_some (known h.layouts) sound.aligned types sound.describes (λ n there. types_shaped h.structs n there well.structs well.some) k less in
      subst (λ (l : Layout). (1 ≤ l.size) × (l.size ≤ 67108864)) (table_is (known h.layouts) types sound.describes k less) (some, small_at h.layouts k well.small)

  object_measured : (n : ℕ) (t : TypeTree) → n ≤ length (all_types h.structs) → IsDeclared t → Ends (λ ty. (ty ≡ ty_of h.tags t) × IsMeasured (known_layouts (all_types h.structs)) ty) (object_type h n t)
  object_measured n t within is =
      let P : TyTree → Type 0 = λ ty. (ty ≡ ty_of h.tags t) × IsSized (known h.layouts) n (ty_of h.tags t) in
      weaker (λ ty. P ty × Shaped ty) (λ ty. (ty ≡ ty_of h.tags t) × IsMeasured f ty) (object_type h n t)
      (both_end P Shaped (object_type h n t) (object_ends h n t) (type_shaped h n t is)) (λ ty has.
      (has.0.0, shaped_measured f (length types) ty has.1 (sized_by n ty within (subst (IsSized (known h.layouts) n) (sym has.0.0) has.0.1))))

  pub knows : (bound : ℕ) → length h.structs ≡ bound → KnowsHeads (IsMeasured (known_layouts (all_types h.structs))) (HasElementSize (all_types h.structs)) bound h
  knows bound same =
      let count : length types ≡ bound = length-all_types h.structs ∙ same in
      record {
        closed = record {
          number = λ i. tt;
          nothing = tt;
          address = λ t is. is;
          behind = λ t is. is;
          item = λ t count is. is.2;
          text = λ n less. (omega arith, omega (arith, less), tt);
        };
        has_size = λ n t within is whole. element_size f n (length types) t (omega (arith, within, count)) struct_sizes is whole;
        bare = λ t is. bare_measured f (ty_of h.tags t) (bare_ty h.tags t is);
        object = λ n t within is. object_measured n t (omega (arith, within, count)) is;
        globals = globals_measured f (length types) h.layouts (length h.structs) h.globals well.globals sound.globals (λ t is. sized_by (length h.structs) t (omega (arith, count, same)) is);
        structs = structs_measured f h.structs well.structs (λ n less. (n, structs_sized (known h.layouts) types sound.describes n less));
        functions = functions_measured f h.functions well.functions;
      }

pub written_heads : (ds : List PlacedDecl) → AllPlaced ds → Ends (λ (h : HeadsTree). KnowsHeads (IsMeasured (known_layouts (all_types h.structs))) (HasElementSize (all_types h.structs)) (struct_count ds) h) (heads_of 0 (no_heads (tags_of [] ds)) ds)
written_heads ds w =
    let none : HeadsTree = no_heads (tags_of [] ds) in
    weaker (HasAll none ds) (λ (h : HeadsTree). KnowsHeads (IsMeasured (known_layouts (all_types h.structs))) (HasElementSize (all_types h.structs)) (struct_count ds) h) (heads_of 0 none ds)
    (heads_well 0 none ds w (none_sound (tags_of [] ds)) (none_well (tags_of [] ds))) (λ h has. knows h has.sound has.well (struct_count ds) (omega (arith, has.structs)))

-- each struct of a program has from 1 byte to 64 MiB
pub structs_some : (ds : List PlacedDecl) → AllPlaced ds → Ends (λ (h : HeadsTree). (k : ℕ) → k < length (all_types h.structs) → (1 ≤ (known_layouts (all_types h.structs) k).size) × ((known_layouts (all_types h.structs) k).size ≤ 67108864)) (heads_of 0 (no_heads (tags_of [] ds)) ds)
structs_some ds w =
    let none : HeadsTree = no_heads (tags_of [] ds) in
    weaker (HasAll none ds) (λ (h : HeadsTree). (k : ℕ) → k < length (all_types h.structs) → (1 ≤ (known_layouts (all_types h.structs) k).size) × ((known_layouts (all_types h.structs) k).size ≤ 67108864)) (heads_of 0 none ds)
    (heads_well 0 none ds w (none_sound (tags_of [] ds)) (none_well (tags_of [] ds))) (λ h has k less. struct_sizes h has.sound has.well k less)
