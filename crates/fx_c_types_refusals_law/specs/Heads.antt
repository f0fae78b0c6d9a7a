-- Which rules the head of a declaration breaks, each rule by itself.
use Rattle.std.specs.Prelude.{ℕ, Bool, true, false, ◌&&◌, ◌||◌, not, nat_le, List, [], ◌∷◌, length}
use Rattle.fx_c_ast.specs.declared.parsed.Init.{Init}
use Rattle.fx_c_ast.specs.ParsedTrees.{TypeTree, ParamTree, DeclTree, StructTree, GlobalTree, FunctionTree}
use Rattle.fx_c_ast.specs.Layout.{members_layout}
use Rattle.fx_c_types_rules.specs.declared.fault.TypeKind.{TypeKind}
use Rattle.fx_c_types_rules.specs.declared.fault.TypeKind.TheVariants.{Twice, UnknownType, TooLarge, TooManyParameters, Initialiser}
use Rattle.fx_c_types_rules.specs.Structs.{MemberTree, place_32}
use Rattle.fx_c_types_heads.specs.Names.{found}
use Rattle.fx_c_types_heads.specs.Written.{ty_of, is_object}
use Rattle.fx_c_types_heads.specs.Sizes.{known, is_small}
use Rattle.fx_c_types_heads.specs.Heads.{HeadsTree, repeats, is_declared, types_of, names_of, is_next, is_initial, is_answer, are_params, param_names}

-- the members of a struct, as they are written
abbrev pub members_of : List (List ℕ × ℕ) → List (TypeTree × List ℕ) → List MemberTree
members_of tags [] = []
members_of tags (m ∷ ms) = record { ty = ty_of tags m.0; name = m.1 } ∷ members_of tags ms

abbrev pub are_objects : List (List ℕ × ℕ) → ℕ → List (TypeTree × List ℕ) → Bool
are_objects tags declared [] = true
are_objects tags declared (m ∷ ms) = is_object tags declared m.0 && are_objects tags declared ms

-- the tag is not that of the next struct, or a member's name stands twice; a member's type is none that an object may
-- have there; the struct is larger than 67,108,864 bytes
abbrev pub breaks_struct : HeadsTree → List ℕ → List (TypeTree × List ℕ) → TypeKind → Bool
breaks_struct h name members Twice = not (is_next (found name h.tags) (place_32 (length h.structs))) || repeats [] (names_of members)
breaks_struct h name members UnknownType = not (are_objects h.tags (place_32 (length h.structs)) members)
breaks_struct h name members TooLarge = not (nat_le (members_layout (known h.layouts) (types_of (members_of h.tags members))).size 67108864)
breaks_struct h name members kind = false

-- a global or a function has the name; no object may have the type; it is too large; the value is none of the type
abbrev pub breaks_global : HeadsTree → TypeTree → List ℕ → Init → TypeKind → Bool
breaks_global h t name init Twice = is_declared h name
breaks_global h t name init UnknownType = not (is_object h.tags (place_32 (length h.structs)) t)
breaks_global h t name init TooLarge = not (is_small h.layouts (ty_of h.tags t))
breaks_global h t name init Initialiser = not (is_initial (ty_of h.tags t) init)
breaks_global h t name init kind = false

-- a global or a function has the name, or a parameter's name stands twice; a type is none that a result or a parameter
-- may have; there are more than six parameters
abbrev pub breaks_function : HeadsTree → TypeTree → List ℕ → List ParamTree → TypeKind → Bool
breaks_function h answer name params Twice = is_declared h name || repeats [] (param_names params)
breaks_function h answer name params UnknownType = not (is_answer h.tags answer && are_params h.tags params)
breaks_function h answer name params TooManyParameters = not (nat_le (length params) 6)
breaks_function h answer name params kind = false

abbrev pub breaks_head : HeadsTree → DeclTree → TypeKind → Bool
breaks_head h (StructTree name members) kind = breaks_struct h name members kind
breaks_head h (GlobalTree grant readers t name init) kind = breaks_global h t name init kind
breaks_head h (FunctionTree entry answer name params body) kind = breaks_function h answer name params kind
