-- The heads of declarations: what each declares, and the rules that are tried on it, in their order.
use Rattle.std.specs.Prelude.{ℕ, Bool, true, false, ◌+◌, ◌&&◌, ◌||◌, not, nat_eq, nat_le, List, [], ◌∷◌, ◌++◌, length, Option, Some, None, is_some, map, Ok}
use Rattle.fx_c_ast.specs.declared.operator.IntType.{IntType}
use Rattle.fx_c_ast.specs.declared.operator.IntType.TheVariants.{Char}
use Rattle.fx_c_ast.specs.declared.parsed.Grant.{Grant}
use Rattle.fx_c_ast.specs.declared.parsed.Init.{Init}
use Rattle.fx_c_ast.specs.declared.parsed.Init.TheVariants.{Zero, Number, Text}
use Rattle.fx_c_ast.specs.declared.layout.Layout.{Layout}
use Rattle.fx_c_ast.specs.ParsedTrees.{TypeTree, ParamTree, DeclTree, StructTree, GlobalTree, FunctionTree}
use Rattle.fx_c_ast.specs.CheckedTrees.{TyTree, VoidTy, IntTy, StructTy, PtrTy, ArrayTy}
use Rattle.fx_c_ast.specs.Layout.{members_layout}
use Rattle.fx_c_types_heads.specs.Names.{found}
use Rattle.fx_c_types_rules.specs.declared.fault.TypeKind.TheVariants.{Twice, UnknownType, TooLarge, TooManyParameters, Initialiser}
use Rattle.fx_c_types_rules.specs.Checks.{Checked, ◌>>=◌, refuse, demand}
use Rattle.fx_c_types_rules.specs.declared.category.Category.{Category}
use Rattle.fx_c_types_rules.specs.declared.category.Category.TheVariants.{Nothing}
use Rattle.fx_c_types_rules.specs.Values.{is_scalar}
use Rattle.fx_c_types_rules.specs.Structs as plain
use Rattle.fx_c_types_rules.specs.Structs.{place_32}
use Rattle.fx_c_types_rules.specs.Locals.{LocalTree}
use Rattle.fx_c_types_heads.specs.Written.{ty_of, is_named, is_object, written_category}
use Rattle.fx_c_types_heads.specs.Sizes.{known, is_small}

pub record GlobalHead : Type 0 where
  pub library : ℕ
  pub grant : Grant
  pub readers : Grant
  pub ty : TyTree
  pub name : List ℕ
  pub init : Init

pub record FunctionHead : Type 0 where
  pub library : ℕ
  pub entry : Bool
  pub answer : TyTree
  pub name : List ℕ
  pub params : List LocalTree

-- what the heads so far declare. `tags` has each struct of the program, `structs` those so far
pub record HeadsTree : Type 0 where
  pub tags : List (List ℕ × ℕ)
  pub global_names : List (List ℕ × ℕ)
  pub function_names : List (List ℕ × ℕ)
  pub structs : List plain.StructTree
  pub layouts : List Layout
  pub globals : List GlobalHead
  pub functions : List FunctionHead

-- before the first declaration, where the program's tags are these
abbrev pub no_heads : List (List ℕ × ℕ) → HeadsTree
no_heads tags = record { tags = tags; global_names = []; function_names = []; structs = []; layouts = []; globals = []; functions = [] }

-- some name stands behind an equal one, or behind one of those before
abbrev pub repeats : List (List ℕ × ℕ) → List (List ℕ) → Bool
repeats before [] = false
repeats before (n ∷ names) = is_some (found n before) || repeats (before ++ (n, 0) ∷ []) names

-- globals and functions share one space of names
abbrev pub is_declared : HeadsTree → List ℕ → Bool
is_declared h name = is_some (found name h.global_names) || is_some (found name h.function_names)

-- the type of an object
abbrev pub object_type : HeadsTree → ℕ → TypeTree → Checked TyTree
object_type h declared t =
    demand (is_object h.tags declared t) UnknownType
    (demand (is_small h.layouts (ty_of h.tags t)) TooLarge (Ok (ty_of h.tags t)))

-- ---- a struct

-- the members, behind those before; each is an object of a type that is complete there
abbrev pub members_behind : HeadsTree → List plain.MemberTree → List (TypeTree × List ℕ) → Checked (List plain.MemberTree)
members_behind h before [] = Ok before
members_behind h before (m ∷ ms) =
    demand (is_object h.tags (place_32 (length h.structs)) m.0) UnknownType
    (members_behind h (before ++ record { ty = ty_of h.tags m.0; name = m.1 } ∷ []) ms)

abbrev pub types_of : List plain.MemberTree → List TyTree
types_of [] = []
types_of (m ∷ ms) = m.ty ∷ types_of ms

abbrev pub names_of : List (TypeTree × List ℕ) → List (List ℕ)
names_of [] = []
names_of (m ∷ ms) = m.1 ∷ names_of ms

-- the tag is that of the next struct
abbrev pub is_next : Option ℕ → ℕ → Bool
is_next None n = false
is_next (Some m) n = nat_eq m n

-- the layout of the next struct, which has to be small enough
abbrev pub struct_layout : List Layout → List plain.MemberTree → Checked Layout
struct_layout layouts members =
    demand (nat_le (members_layout (known layouts) (types_of members)).size 67108864) TooLarge
    (Ok (members_layout (known layouts) (types_of members)))

abbrev pub with_struct : HeadsTree → Layout → List ℕ → List plain.MemberTree → HeadsTree
with_struct h layout name members = record h {
  structs = h.structs ++ record { name = name; members = members } ∷ [];
  layouts = h.layouts ++ layout ∷ [];
}

abbrev pub struct_head : HeadsTree → List ℕ → List (TypeTree × List ℕ) → Checked HeadsTree
struct_head h name members =
    demand (is_next (found name h.tags) (place_32 (length h.structs))) Twice
    (demand (not (repeats [] (names_of members))) Twice
    (members_behind h [] members >>= (λ ms.
    struct_layout h.layouts ms >>= (λ layout.
    Ok (with_struct h layout name ms)))))

-- ---- a global

-- an integer has a number, an array of char a string that fits with its final zero
abbrev pub is_initial : TyTree → Init → Bool
is_initial t Zero = true
is_initial (IntTy i) (Number n) = true
is_initial (ArrayTy (IntTy Char) count) (Text bytes) = nat_le (length bytes + 1) count
is_initial t init = false

abbrev pub with_global : HeadsTree → GlobalHead → HeadsTree
with_global h g = record h {
  global_names = h.global_names ++ (g.name, place_32 (length h.globals)) ∷ [];
  globals = h.globals ++ g ∷ [];
}

abbrev pub global_head : HeadsTree → (library : ℕ) (grant readers : Grant) → TypeTree → List ℕ → Init → Checked HeadsTree
global_head h library grant readers t name init =
    demand (not (is_declared h name)) Twice
    (object_type h (place_32 (length h.structs)) t >>= (λ ty.
    demand (is_initial ty init) Initialiser
    (Ok (with_global h (record { library = library; grant = grant; readers = readers; ty = ty; name = name; init = init })))))

-- ---- a function

abbrev pub is_nothing : Category → Bool
is_nothing Nothing = true
is_nothing _ = false

abbrev pub is_param : List (List ℕ × ℕ) → TypeTree → Bool
is_param tags t = is_named tags t && is_scalar (written_category t)

abbrev pub is_answer : List (List ℕ × ℕ) → TypeTree → Bool
is_answer tags t = is_named tags t && (is_scalar (written_category t) || is_nothing (written_category t))

abbrev pub are_params : List (List ℕ × ℕ) → List ParamTree → Bool
are_params tags [] = true
are_params tags (p ∷ ps) = is_param tags p.ty && are_params tags ps

abbrev pub param_names : List ParamTree → List (List ℕ)
param_names [] = []
param_names (p ∷ ps) = p.name ∷ param_names ps

abbrev pub params_of : List (List ℕ × ℕ) → List ParamTree → List LocalTree
params_of tags [] = []
params_of tags (p ∷ ps) = record { shared = p.shared; ty = ty_of tags p.ty } ∷ params_of tags ps

abbrev pub with_function : HeadsTree → FunctionHead → HeadsTree
with_function h f = record h {
  function_names = h.function_names ++ (f.name, place_32 (length h.functions)) ∷ [];
  functions = h.functions ++ f ∷ [];
}

abbrev pub function_head : HeadsTree → (library : ℕ) (entry : Bool) → TypeTree → List ℕ → List ParamTree → Checked HeadsTree
function_head h library entry answer name params =
    demand (not (is_declared h name)) Twice
    (demand (not (repeats [] (param_names params))) Twice
    (demand (is_answer h.tags answer && are_params h.tags params) UnknownType
    (demand (nat_le (length params) 6) TooManyParameters
    (Ok (with_function h (record { library = library; entry = entry; answer = ty_of h.tags answer; name = name; params = params_of h.tags params }))))))

-- ---- all declarations

abbrev pub head : HeadsTree → ℕ → DeclTree → Checked HeadsTree
head h library (StructTree name members) = struct_head h name members
head h library (GlobalTree grant readers ty name init) = global_head h library grant readers ty name init
head h library (FunctionTree entry answer name params body) = function_head h library entry answer name params
