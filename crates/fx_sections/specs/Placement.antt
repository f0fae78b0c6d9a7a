-- Where the sections, globals and literals of a program lie, and why a program is refused for their
-- number or size (this project's own layout).
use Rattle.std.specs.Prelude.{ℕ, zero, suc, ◌+◌, ◌-◌, ◌*◌, ◌<◌, ◌≤◌, ◌≡◌, ◌^◌, nat_lt, ◌&&◌, List, [], ◌∷◌, ◌++◌, length, map, sum, All, slice_index, Result, Ok, Err, if◌then◌else◌}
use Rattle.fx_config.specs.declared.configuration.Config.{Config}
use Rattle.fx_config.specs.declared.configuration.Mechanism.{Mechanism}
use Rattle.fx_c_ast.specs.declared.checked.TGlobal.{TGlobal}
use Rattle.fx_c_ast.specs.declared.checked.TProgram.{TProgram}
use Rattle.fx_c_ast.specs.CheckedTrees.{TyTree, ty_tree, struct_types}
use Rattle.fx_c_ast.specs.Layout.{layout_of, known_layouts, IsSized, StructsAreSized}
use Rattle.fx_grants.specs.declared.grants.Pair.{Pair}
use Rattle.fx_grants.specs.declared.grants.Grants.{Grants}
use Rattle.fx_sections.specs.declared.placement.PlacedSection.{PlacedSection}
use Rattle.fx_sections.specs.declared.placement.Placement.{Placement}
use Rattle.fx_sections.specs.declared.placement.PlaceError.{PlaceError}
use Rattle.fx_sections.specs.declared.placement.PlaceError.TheVariants.{TooManyKeys, TooManyObjects, DataTooLong, InitialTooLong}
use Rattle.fx_sections.specs.Pairs.{pairs_of, section_of, is_keyed}
use Rattle.fx_sections.specs.Regions.{empty, with_object, with_objects, starts, page_count, sizes_in}
use Rattle.fx_sections.specs.declared.regions.Room.{Room}
use Rattle.fx_sections.specs.declared.regions.GlobalSize.{GlobalSize}
use Rattle.fx_sections.specs.Initials.{initial_bytes}

-- ---- sections

abbrev pub global_size : List (List TyTree) → TGlobal → ℕ
global_size structs g = (layout_of structs (ty_tree g.ty)).size

-- the globals with their sections' numbers, where these are their pairs
abbrev pub sized : List (List TyTree) → List Pair → List TGlobal → List Pair → List GlobalSize
sized structs pairs [] qs = []
sized structs pairs (g ∷ gs) [] = []
sized structs pairs (g ∷ gs) (q ∷ qs) = record { section = section_of pairs q; size = global_size structs g } ∷ sized structs pairs gs qs

-- The private section of a compartment begins with the runtime's object of 4,096 bytes.
abbrev pub opening : ℕ → ℕ → Room
opening n k = if nat_lt k n then with_object (empty 0) 4096 else empty 0

-- what section k takes, counted from its start, with these of the globals
abbrev pub room_of : ℕ → List GlobalSize → ℕ → Room
room_of n objects k = with_objects (opening n k) (sizes_in k objects)

-- how far behind its section's start each global begins: behind the globals of the section before it
abbrev pub offsets : ℕ → List GlobalSize → List GlobalSize → List ℕ
offsets n before [] = []
offsets n before (o ∷ os) = (room_of n before o.section).next ∷ offsets n (before ++ o ∷ []) os

-- what each of so many sections takes, in order from section k
abbrev pub rooms_from : ℕ → List GlobalSize → ℕ → ℕ → List Room
rooms_from n objects k zero = []
rooms_from n objects k (suc count) = room_of n objects k ∷ rooms_from n objects (k + 1) count

-- The first section begins at page 10000 (hexadecimal), each next behind one unmapped page. Under
-- protection keys the i-th section has key 2 + i.
abbrev pub sections_from : Mechanism → ℕ → ℕ → List Pair → List Room → List PlacedSection
sections_from m k page [] rooms = []
sections_from m k page (p ∷ ps) [] = []
sections_from m k page (p ∷ ps) (r ∷ rs) =
    record { readers = p.readers; writers = p.writers; key = if is_keyed m then k + 2 else 0; page = page; pages = page_count r.end }
    ∷ sections_from m (k + 1) (page + page_count r.end + 1) ps rs

-- the pages of all sections
abbrev pub total_pages : List Room → ℕ
total_pages [] = 0
total_pages (r ∷ rs) = page_count r.end + total_pages rs

-- the page at which section k begins
abbrev pub page_of : List PlacedSection → ℕ → ℕ
page_of sections k = slice_index (map (λ (s : PlacedSection). s.page) sections) k

-- where each global stands
abbrev pub addresses : List PlacedSection → List GlobalSize → List ℕ → List ℕ
addresses sections [] offs = []
addresses sections (o ∷ os) [] = []
addresses sections (o ∷ os) (at ∷ offs) = (4096 * page_of sections o.section + at) ∷ addresses sections os offs

-- ---- a program's placement

abbrev pub program_pairs : Grants → Config → List Pair
program_pairs g k = pairs_of (length k.compartments) g.globals

abbrev pub program_objects : TProgram → Grants → Config → List GlobalSize
program_objects p g k = sized (struct_types p.structs) (program_pairs g k) p.globals g.globals

abbrev pub program_rooms : TProgram → Grants → Config → List Room
program_rooms p g k = rooms_from (length k.compartments) (program_objects p g k) 0 (length (program_pairs g k))

abbrev pub program_sections : TProgram → Grants → Config → List PlacedSection
program_sections p g k = sections_from k.mechanism 0 0x10000 (program_pairs g k) (program_rooms p g k)

abbrev pub program_addresses : TProgram → Grants → Config → List ℕ
program_addresses p g k = addresses (program_sections p g k) (program_objects p g k) (offsets (length k.compartments) [] (program_objects p g k))

abbrev pub literal_sizes : TProgram → List ℕ
literal_sizes p = map (λ (l : List ℕ). length l) p.literals

-- literals stand from 600000 (hexadecimal)
abbrev pub literal_addresses : TProgram → List ℕ
literal_addresses p = starts (empty 0x60_0000) (literal_sizes p)

abbrev pub placement_of : TProgram → Grants → Config → Placement
placement_of p g k = record { sections = program_sections p g k; globals = program_addresses p g k; literals = literal_addresses p }

-- ---- refusals

-- the bytes of all sections
abbrev pub data_bytes : TProgram → Grants → Config → ℕ
data_bytes p g k = 4096 * total_pages (program_rooms p g k)

-- the bytes of the literals, with those between them
abbrev pub literal_bytes : TProgram → ℕ
literal_bytes p = (with_objects (empty 0x60_0000) (literal_sizes p)).end - 0x60_0000

-- the initial bytes of all globals
abbrev pub initial_total : List (List TyTree) → List TGlobal → ℕ
initial_total structs [] = 0
initial_total structs (g ∷ gs) = length (initial_bytes (global_size structs g) g.init) + initial_total structs gs

abbrev pub initial_size : TProgram → ℕ
initial_size p = literal_bytes p + initial_total (struct_types p.structs) p.globals

-- A checked program with as many pairs as globals, whose types have sizes and whose numbers and texts
-- are no more than sources can have.
pub record IsPlaceable (p : TProgram) (g : Grants) (k : Config) : Type 0 where
  pub structs : StructsAreSized (struct_types p.structs)
  pub globals : All (λ (v : TGlobal). IsSized (known_layouts (struct_types p.structs)) (length p.structs) (ty_tree v.ty)) p.globals
  pub same : length g.globals ≡ length p.globals
  pub compartments : length k.compartments ≤ 16
  pub objects : length p.globals + length p.literals < 2 ^ 31
  pub texts : sum (literal_sizes p) + initial_total (struct_types p.structs) p.globals < 2 ^ 62

-- where the sections, globals and literals lie, or the first refusal for their bytes
abbrev pub bytes_placed : TProgram → Grants → Config → Result Placement PlaceError
bytes_placed p g k =
    if nat_lt 67108864 (data_bytes p g k) then Err (DataTooLong (data_bytes p g k))
    else if nat_lt 8388608 (initial_size p) then Err (InitialTooLong (initial_size p))
    else Ok (placement_of p g k)

-- where the sections, globals and literals lie, or the first refusal
abbrev pub placed : TProgram → Grants → Config → Result Placement PlaceError
placed p g k =
    if is_keyed k.mechanism && nat_lt 14 (length (program_pairs g k)) then Err (TooManyKeys (length (program_pairs g k)))
    else if nat_lt 32000 (length p.globals + length p.literals) then Err (TooManyObjects (length p.globals + length p.literals))
    else bytes_placed p g k
