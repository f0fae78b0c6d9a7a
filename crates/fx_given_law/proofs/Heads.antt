-- The names in the heads and bodies of a program that keeps all rules.
use Rattle.std.proofs.Common.{◌≡◌, ℕ, zero, suc, ◌+◌, Bool, true, false, ◌&&◌, not, List, [], ◌∷◌}
use Rattle.std.proofs.Common.{◌++◌, length, slice_get, Option, Some, None, Ok, Err, Result}
use Rattle.std.proofs.Common.{if◌then◌else◌, refl, sym, ◌∙◌, ap, inl, inr}
use Rattle.std.specs.Prelude.{All, is_some, nat_le, nat_eq}
use Rattle.std.specs.List.{list_any}
use Rattle.std.specs.Str.{bytes_eq}
use Rattle.std.proofs.lemmas.Bool.{and_from, and_parts, or_from, or_parts, not-true, not_from_false}
use Rattle.std.proofs.lemmas.Bool.{true≢false, cases_eq, eq-eqb, ne_eqb}
use Rattle.std.proofs.lemmas.List.Elements.{All-nil, All-head, All-tail, All-push}
use Rattle.fx_c_ast.specs.declared.parsed.Grant.{Grant}
use Rattle.fx_c_ast.specs.declared.parsed.Init.{Init}
use Rattle.fx_c_ast.specs.declared.layout.Layout.{Layout}
use Rattle.fx_c_ast.specs.ParsedTrees.{TypeTree, ParamTree, DeclTree, StructTree, GlobalTree}
use Rattle.fx_c_ast.specs.ParsedTrees.{FunctionTree, StmtTrees}
use Rattle.fx_c_ast.specs.CheckedTrees.{TyTree, TStmtTrees, NoTStmts}
use Rattle.fx_c_ast.specs.StackUse.{frame_size}
use Rattle.fx_c_types_rules.specs.declared.fault.TypeKind.TheVariants.{Twice, UnknownType}
use Rattle.fx_c_types_rules.specs.declared.fault.TypeKind.TheVariants.{TooManyParameters}
use Rattle.fx_c_types_rules.specs.declared.fault.TypeKind.TheVariants.{Initialiser, FrameTooLong}
use Rattle.fx_c_types_rules.specs.Checks.{Checked, ◌>>=◌, demand}
use Rattle.fx_c_types_rules.specs.Structs as plain
use Rattle.fx_c_types_rules.specs.Structs.{place_32}
use Rattle.fx_c_types_rules.specs.Locals.{types_of_locals}
use Rattle.fx_c_types_heads.specs.Names.{found}
use Rattle.fx_c_types_heads.specs.Written.{ty_of}
use Rattle.fx_c_types_heads.specs.Sizes.{known}
use Rattle.fx_c_types_heads.specs.Heads.{GlobalHead, FunctionHead, HeadsTree, no_heads, repeats}
use Rattle.fx_c_types_heads.specs.Heads.{is_declared, object_type, members_behind, names_of}
use Rattle.fx_c_types_heads.specs.Heads.{is_next, struct_layout, with_struct, struct_head}
use Rattle.fx_c_types_heads.specs.Heads.{is_initial, with_global, global_head, is_answer}
use Rattle.fx_c_types_heads.specs.Heads.{are_params, param_names, params_of, with_function}
use Rattle.fx_c_types_heads.specs.Heads.{function_head, head}
use Rattle.fx_c_types_bodies.specs.Bodies.{BodyTree, checked_all}
use Rattle.fx_c_types.specs.declared.fault.TypeError.{TypeError}
use Rattle.fx_c_types.specs.Programs as program
use Rattle.fx_c_types.specs.Programs.{PlacedDecl, ProgramTree, at_declaration, ◌>>>◌, tags_of}
use Rattle.fx_c_types.specs.Programs.{heads_of, body_from, BodiesTree, no_bodies, function_of}
use Rattle.fx_c_types.specs.Programs.{finished, scope_of, function_body, next_body, body_of}
use Rattle.fx_c_types.specs.Programs.{bodies_of, main_number, program_of, well_typed}
use Rattle.fx_c_types_law.proofs.Ends.{Ends, then_ends, demand_ends, at_ends}
use Rattle.fx_image.specs.Rules as image
use Rattle.fx_given_law.proofs.Words.{HasName, PlacedHaveNames}

-- whatever is checked before
past_ends : {A B : Type 0} (Q : B → Type 0) (r : Checked A) (f : A → Checked B)
    → ((x : A) → Ends Q (f x)) → Ends Q (r >>= f)
past_ends Q (Ok x) f k = k x
past_ends Q (Err e) f k = tt

after_ends : {A B : Type 0} (Q : B → Type 0) (r : Result A TypeError)
    (f : A → Result B TypeError)
    → ((x : A) → Ends Q (f x)) → Ends Q (r >>> f)
after_ends Q (Ok x) f k = k x
after_ends Q (Err e) f k = tt

-- ---- names that differ

abbrev pub same_name : GlobalHead → GlobalHead → Bool
same_name a b = bytes_eq a.name b.name

eq_sym : (a b : ℕ) → nat_eq a b ≡ nat_eq b a
eq_sym a b = elim (cases_eq a b) [
  | inl same ↦ eq-eqb a b same ∙ sym (eq-eqb b a (sym same))
  | inr other ↦ ne_eqb a b other ∙ sym (ne_eqb b a (λ e. other (sym e)))
]

bytes_sym : (a b : List ℕ) → bytes_eq a b ≡ bytes_eq b a
bytes_sym [] [] = refl
bytes_sym [] (b ∷ bs) = refl
bytes_sym (a ∷ rest) [] = refl
bytes_sym (a ∷ rest) (b ∷ bs) =
    ap (λ t. t && bytes_eq rest bs) (eq_sym a b) ∙ ap (λ t. nat_eq b a && t) (bytes_sym rest bs)

abbrev Differs : List ℕ → GlobalHead → Type 0
Differs name g = bytes_eq g.name name ≡ false

-- one more that differs from those before
any_push : (x g : GlobalHead) (gs : List GlobalHead) → list_any (same_name x) gs ≡ false
    → same_name x g ≡ false → list_any (same_name x) (gs ++ g ∷ []) ≡ false
any_push x g [] none is = or_from (same_name x g) false is refl
any_push x g (y ∷ gs) none is =
    let parts = or_parts (same_name x y) (list_any (same_name x) gs) none in
    or_from (same_name x y) (list_any (same_name x) (gs ++ g ∷ [])) parts.0
    (any_push x g gs parts.1 is)

distinct_push : (gs : List GlobalHead) (g : GlobalHead)
    → image.is_distinct_by same_name gs ≡ true → All (Differs g.name) gs
    → image.is_distinct_by same_name (gs ++ g ∷ []) ≡ true
distinct_push [] g distinct differ = refl
distinct_push (x ∷ gs) g distinct differ =
    let parts = and_parts (not (list_any (same_name x) gs)) (image.is_distinct_by same_name gs)
    distinct in
    and_from (not (list_any (same_name x) (gs ++ g ∷ [])))
    (image.is_distinct_by same_name (gs ++ g ∷ []))
    (not_from_false (list_any (same_name x) (gs ++ g ∷ []))
    (any_push x g gs (not-true (list_any (same_name x) gs) parts.0)
    (All-head (Differs g.name) x gs differ)))
    (distinct_push gs g parts.1 (All-tail (Differs g.name) x gs differ))

-- a name that isn't found with one more name
chosen : (b : Bool) (n : ℕ) (o : Option ℕ) → is_some (if b then Some n else o) ≡ false
    → (b ≡ false) × (is_some o ≡ false)
chosen true n o h = absurd (true≢false h)
chosen false n o h = (refl, h)

found_push : (name : List ℕ) (names : List (List ℕ × ℕ)) (m : List ℕ × ℕ)
    → is_some (found name (names ++ m ∷ [])) ≡ false
    → (is_some (found name names) ≡ false) × (bytes_eq name m.0 ≡ false)
found_push name [] m h = (refl, (chosen (bytes_eq name m.0) m.1 None h).0)
found_push name (n ∷ names) m h =
    let first = chosen (bytes_eq name n.0) n.1 (found name (names ++ m ∷ [])) h in
    let rest = found_push name names m first.1 in
    (unchosen (bytes_eq name n.0) n.1 (found name names) first.0 rest.0, rest.1)
  where
    unchosen : (b : Bool) (n : ℕ) (o : Option ℕ) → b ≡ false → is_some o ≡ false
        → is_some (if b then Some n else o) ≡ false
    unchosen true n o other none = absurd (true≢false other)
    unchosen false n o other none = none

-- ---- heads

abbrev GlobalNamed : GlobalHead → Type 0
GlobalNamed g = image.is_c_name g.name ≡ true

abbrev HeadNamed : FunctionHead → Type 0
HeadNamed f = image.is_c_name f.name ≡ true

pub record AreNamed (h : HeadsTree) : Type 0 where
  pub globals : All GlobalNamed h.globals
  pub distinct : image.is_distinct_by same_name h.globals ≡ true
  pub listed : (name : List ℕ) → is_some (found name h.global_names) ≡ false
      → All (Differs name) h.globals
  pub functions : All HeadNamed h.functions

none_named : (tags : List (List ℕ × ℕ)) → AreNamed (no_heads tags)
none_named tags = record {
  globals = All-nil GlobalNamed;
  distinct = refl;
  listed = λ name none. All-nil (Differs name);
  functions = All-nil HeadNamed;
}

global_named : (h : HeadsTree) (g : GlobalHead) → AreNamed h → GlobalNamed g
    → is_declared h g.name ≡ false → AreNamed (with_global h g)
global_named h g has named free =
    let unlisted = or_parts (is_some (found g.name h.global_names))
    (is_some (found g.name h.function_names)) free in
    record {
      globals = All-push GlobalNamed h.globals g has.globals named;
      distinct = distinct_push h.globals g has.distinct (has.listed g.name unlisted.0);
      listed = λ name none.
          let rest = found_push name h.global_names (g.name, place_32 (length h.globals)) none in
          All-push (Differs name) h.globals g (has.listed name rest.0)
          (bytes_sym g.name name ∙ rest.1);
      functions = has.functions;
    }

struct_end : (h : HeadsTree) (name : List ℕ) (members : List (TypeTree × List ℕ)) → AreNamed h
    → Ends AreNamed (struct_head h name members)
struct_end h name members has =
    let last : List plain.MemberTree → Layout → Checked HeadsTree =
    λ ms layout. Ok (with_struct h layout name ms) in
    let build : List plain.MemberTree → Checked HeadsTree =
    λ ms. struct_layout h.layouts ms >>= last ms in
    let made : Checked HeadsTree = members_behind h [] members >>= build in
    demand_ends AreNamed (is_next (found name h.tags) (place_32 (length h.structs))) Twice
    (demand (not (repeats [] (names_of members))) Twice made) (λ next.
    demand_ends AreNamed (not (repeats [] (names_of members))) Twice made (λ apart.
    past_ends AreNamed (members_behind h [] members) build (λ ms.
    past_ends AreNamed (struct_layout h.layouts ms) (last ms) (λ layout. record {
      globals = has.globals;
      distinct = has.distinct;
      listed = has.listed;
      functions = has.functions;
    }))))

global_end : (h : HeadsTree) (library : ℕ) (grant readers : Grant) (t : TypeTree) (name : List ℕ)
    (init : Init) → AreNamed h → image.is_c_name name ≡ true
    → Ends AreNamed (global_head h library grant readers t name init)
global_end h library grant readers t name init has named =
    let bound : ℕ = place_32 (length h.structs) in
    let made : TyTree → GlobalHead = λ ty. record {
      library = library;
      grant = grant;
      readers = readers;
      ty = ty;
      name = name;
      init = init;
    } in
    let build : TyTree → Checked HeadsTree =
    λ ty. demand (is_initial ty init) Initialiser (Ok (with_global h (made ty))) in
    demand_ends AreNamed (not (is_declared h name)) Twice (object_type h bound t >>= build) (λ free.
    past_ends AreNamed (object_type h bound t) build (λ ty.
    demand_ends AreNamed (is_initial ty init) Initialiser (Ok (with_global h (made ty))) (λ initial.
    global_named h (made ty) has named (not-true (is_declared h name) free))))

function_end : (h : HeadsTree) (library : ℕ) (entry : Bool) (answer : TypeTree) (name : List ℕ)
    (params : List ParamTree) → AreNamed h → image.is_c_name name ≡ true
    → Ends AreNamed (function_head h library entry answer name params)
function_end h library entry answer name params has named =
    let made : FunctionHead = record {
      library = library;
      entry = entry;
      answer = ty_of h.tags answer;
      name = name;
      params = params_of h.tags params;
    } in
    let last : Checked HeadsTree = Ok (with_function h made) in
    let few : Checked HeadsTree = demand (nat_le (length params) 6) TooManyParameters last in
    let types : Checked HeadsTree =
    demand (is_answer h.tags answer && are_params h.tags params) UnknownType few in
    demand_ends AreNamed (not (is_declared h name)) Twice
    (demand (not (repeats [] (param_names params))) Twice types) (λ free.
    demand_ends AreNamed (not (repeats [] (param_names params))) Twice types (λ apart.
    demand_ends AreNamed (is_answer h.tags answer && are_params h.tags params) UnknownType few
    (λ typed.
    demand_ends AreNamed (nat_le (length params) 6) TooManyParameters last (λ six. record {
      globals = has.globals;
      distinct = has.distinct;
      listed = has.listed;
      functions = All-push HeadNamed h.functions made has.functions named;
    }))))

head_end : (h : HeadsTree) (library : ℕ) (d : DeclTree) → AreNamed h → HasName d
    → Ends AreNamed (head h library d)
head_end h library (StructTree name members) has named = struct_end h name members has
head_end h library (GlobalTree grant readers t name init) has named =
    global_end h library grant readers t name init has named
head_end h library (FunctionTree entry answer name params body) has named =
    function_end h library entry answer name params has named

heads_end : (n : ℕ) (h : HeadsTree) (ds : List PlacedDecl) → PlacedHaveNames ds → AreNamed h
    → Ends AreNamed (heads_of n h ds)
heads_end n h [] names has = has
heads_end n h (d ∷ ds) names has =
    then_ends AreNamed AreNamed (at_declaration n (head h d.library d.decl))
    (λ h. heads_of (n + 1) h ds)
    (at_ends AreNamed n (head h d.library d.decl) (head_end h d.library d.decl has names.0))
    (λ g more. heads_end (n + 1) g ds names.1 more)

-- ---- bodies

abbrev pub FunctionNamed : program.FunctionTree → Type 0
FunctionNamed f = image.is_c_name f.name ≡ true

abbrev BodiesNamed : BodiesTree → Type 0
BodiesNamed b = All FunctionNamed b.functions

abbrev MaybeNamed : Option FunctionHead → Type 0
MaybeNamed None = Unit {0}
MaybeNamed (Some f) = HeadNamed f

head_at : (fs : List FunctionHead) (n : ℕ) → All HeadNamed fs → MaybeNamed (slice_get fs n)
head_at [] n all = tt
head_at (f ∷ fs) zero all = All-head HeadNamed f fs all
head_at (f ∷ fs) (suc n) all = head_at fs n (All-tail HeadNamed f fs all)

finished_end : (h : HeadsTree) (b : BodiesTree) (f : FunctionHead) (x : TStmtTrees × BodyTree)
    → BodiesNamed b → HeadNamed f → Ends BodiesNamed (finished h b f x)
finished_end h b f x has named =
    let made : program.FunctionTree = function_of f x.1.locals x.0 in
    demand_ends BodiesNamed
    (nat_le (frame_size (known h.layouts) (types_of_locals x.1.locals) x.0) 65536) FrameTooLong
    (Ok (program.with_function b x.1.literals made))
    (λ short. All-push FunctionNamed b.functions made has named)

body_end : (h : HeadsTree) (b : BodiesTree) (f : Option FunctionHead) (params : List ParamTree)
    (body : StmtTrees) → BodiesNamed b → MaybeNamed f
    → Ends BodiesNamed (function_body h b f params body)
body_end h b None params body has named = has
body_end h b (Some f) params body has named =
    past_ends BodiesNamed
    (checked_all (scope_of h b f) false (body_from b.literals f params) NoTStmts body)
    (λ x. finished h b f x) (λ x. finished_end h b f x has named)

next_end : (h : HeadsTree) (b : BodiesTree) (d : DeclTree) → All HeadNamed h.functions
    → BodiesNamed b → Ends BodiesNamed (body_of h b d)
next_end h b (StructTree name members) heads has = has
next_end h b (GlobalTree grant readers t name init) heads has = has
next_end h b (FunctionTree entry answer name params body) heads has =
    body_end h b (slice_get h.functions (length b.functions)) params body has
    (head_at h.functions (length b.functions) heads)

bodies_end : (n : ℕ) (h : HeadsTree) (b : BodiesTree) (ds : List PlacedDecl)
    → All HeadNamed h.functions → BodiesNamed b → Ends BodiesNamed (bodies_of n h b ds)
bodies_end n h b [] heads has = has
bodies_end n h b (d ∷ ds) heads has =
    then_ends BodiesNamed BodiesNamed (at_declaration n (body_of h b d.decl))
    (λ b. bodies_of (n + 1) h b ds)
    (at_ends BodiesNamed n (body_of h b d.decl) (next_end h b d.decl heads has))
    (λ c more. bodies_end (n + 1) h c ds heads more)

-- ---- programs

pub record IsNamedTree (p : ProgramTree) : Type 0 where
  pub globals : All GlobalNamed p.globals
  pub distinct : image.is_distinct_by same_name p.globals ≡ true
  pub functions : All FunctionNamed p.functions

pub tree_named : (ds : List PlacedDecl) → PlacedHaveNames ds → Ends IsNamedTree (well_typed ds)
tree_named ds names =
    let none : HeadsTree = no_heads (tags_of [] ds) in
    let last : HeadsTree → BodiesTree → ℕ → Result ProgramTree TypeError =
    λ h b main. Ok (program_of h b main) in
    let start : HeadsTree → BodiesTree → Result ProgramTree TypeError =
    λ h b. at_declaration 0 (main_number h) >>> last h b in
    then_ends AreNamed IsNamedTree (heads_of 0 none ds)
    (λ h. bodies_of 0 h no_bodies ds >>> start h)
    (heads_end 0 none ds names (none_named (tags_of [] ds))) (λ h has.
    then_ends BodiesNamed IsNamedTree (bodies_of 0 h no_bodies ds) (start h)
    (bodies_end 0 h no_bodies ds has.functions (All-nil FunctionNamed)) (λ b bodies.
    after_ends IsNamedTree (at_declaration 0 (main_number h)) (last h b) (λ main. record {
      globals = has.globals;
      distinct = has.distinct;
      functions = bodies;
    })))
