-- The table of a placement: a row for each object that has an address for good, in order of address.
use Rattle.std.specs.Prelude.{◌≡◌, ℕ, zero, suc, ◌+◌, ◌*◌, ◌≤◌, ◌==◌, List, [], ◌∷◌, ◌++◌, codes}
use Rattle.std.specs.Prelude.{length, map, filter, slice_index, AllPairs, IsPermutation, Ok}
use Rattle.fx_config.specs.declared.configuration.Compartment.{Compartment}
use Rattle.fx_config.specs.declared.configuration.Config.{Config}
use Rattle.fx_c_ast.specs.declared.checked.TGlobal.{TGlobal}
use Rattle.fx_c_ast.specs.declared.checked.TProgram.{TProgram}
use Rattle.fx_grants.specs.declared.grants.Grants.{Grants}
use Rattle.fx_sections.specs.declared.placement.PlacedSection.{PlacedSection}
use Rattle.fx_sections.specs.declared.placement.Placement.{Placement}
use Rattle.fx_sections.specs.declared.regions.GlobalSize.{GlobalSize}
use Rattle.fx_sections.specs.Placement.{IsPlaceable, page_of, program_objects, placed}

-- An object: the number of its section, its first byte's address, the key of its pages, its bytes and its name.
pub record Row : Type 0 where
  pub section : ℕ
  pub address : ℕ
  pub key : ℕ
  pub size : ℕ
  pub name : List ℕ

-- the key of a section's pages
abbrev pub key_of : List PlacedSection → ℕ → ℕ
key_of sections s = slice_index (map (λ (t : PlacedSection). t.key) sections) s

-- the runtime's object of 4,096 bytes, which begins a compartment's private section
abbrev pub runtime_row : List PlacedSection → ℕ → Compartment → Row
runtime_row sections c compartment = record {
  section = c;
  address = 4096 * page_of sections c;
  key = key_of sections c;
  size = 4096;
  name = codes ".rt." ++ compartment.name;
}

-- those of the compartments from the one of a number on
abbrev pub runtime_rows : List PlacedSection → ℕ → List Compartment → List Row
runtime_rows sections c [] = []
runtime_rows sections c (compartment ∷ rest) =
    runtime_row sections c compartment ∷ runtime_rows sections (c + 1) rest

abbrev pub global_row : List PlacedSection → GlobalSize → ℕ → TGlobal → Row
global_row sections o address g = record {
  section = o.section;
  address = address;
  key = key_of sections o.section;
  size = o.size;
  name = g.name;
}

-- the globals, where these are their sections and sizes and their addresses
abbrev pub global_rows : List PlacedSection → List GlobalSize → List ℕ → List TGlobal → List Row
global_rows sections os addresses [] = []
global_rows sections [] addresses (g ∷ gs) = []
global_rows sections (o ∷ os) [] (g ∷ gs) = []
global_rows sections (o ∷ os) (address ∷ addresses) (g ∷ gs) =
    global_row sections o address g ∷ global_rows sections os addresses gs

-- All objects: the runtime's of each compartment in order, then the globals in program order.
abbrev pub object_rows : TProgram → Grants → Config → Placement → List Row
object_rows p g k at =
    runtime_rows at.sections 0 k.compartments
    ++ global_rows at.sections (program_objects p g k) at.globals p.globals

-- those of a section
abbrev pub rows_in : ℕ → List Row → List Row
rows_in s rows = filter (λ (r : Row). r.section == s) rows

-- section after section: those of so many sections, from the one of a number on
abbrev pub rows_by_section : (s count : ℕ) → List Row → List Row
rows_by_section s zero rows = []
rows_by_section s (suc count) rows = rows_in s rows ++ rows_by_section (s + 1) count rows

abbrev pub table_rows : TProgram → Grants → Config → Placement → List Row
table_rows p g k at = rows_by_section 0 (length at.sections) (object_rows p g k at)

-- an object ends 16 bytes or more before another begins
abbrev pub EndsBefore : Row → Row → Type 0
EndsBefore r t = r.address + r.size + 16 ≤ t.address

-- Exactly one row for each object, which are a compartment's each and the globals, and addresses ascend.
pub record HasOneRowEach (p : TProgram) (g : Grants) (k : Config) (at : Placement) : Type 0 where
  pub each : IsPermutation (object_rows p g k at) (table_rows p g k at)
  pub count : length (table_rows p g k at) ≡ length k.compartments + length p.globals
  pub ascending : AllPairs EndsBefore (table_rows p g k at)

-- the table of a placed program has exactly one row for each of its objects, and addresses ascend
abbrev pub TablesAscend : Type 0
TablesAscend =
    (p : TProgram) (g : Grants) (k : Config) (at : Placement) → IsPlaceable p g k
    → placed p g k ≡ Ok at → HasOneRowEach p g k at
