-- The table of a placement: a line for each object of the image, in order of address. The lines'
-- form is this project's own.
use Rattle.std.specs.Prelude.{ℕ, ◌+◌, ◌*◌, ◌==◌, Bool, List, [], ◌∷◌, ◌++◌, codes, flat_map}
use Rattle.std.specs.Prelude.{slice_get, map, Option, Some, None, if◌then◌else◌}
use Rattle.std.specs.Fmt.{decimal}
use Rattle.fx_cmd_base.specs.Hex.{hex}
use Rattle.fx_config.specs.declared.configuration.Config.{Config}
use Rattle.fx_config.specs.declared.configuration.Compartment.{Compartment}
use Rattle.fx_c_ast.specs.declared.checked.TGlobal.{TGlobal}
use Rattle.fx_c_ast.specs.declared.checked.TProgram.{TProgram}
use Rattle.fx_c_ast.specs.CheckedTrees.{TyTree, struct_types}
use Rattle.fx_grants.specs.declared.grants.Grants.{Grants}
use Rattle.fx_sections.specs.declared.placement.PlacedSection.{PlacedSection}
use Rattle.fx_sections.specs.declared.placement.Placement.{Placement}
use Rattle.fx_sections.specs.Pairs.{section_of}
use Rattle.fx_sections.specs.Placement.{global_size, program_pairs}
use Rattle.fx_sections_law.specs.Table.{Row, table_rows}

-- the address in 16 hexadecimal digits, the key, the size and the name, parted by spaces
abbrev pub numbers_text : (key size : ℕ) → List ℕ
numbers_text key size = codes " " ++ (decimal key ++ (codes " " ++ (decimal size ++ codes " ")))

abbrev pub line : (address key size : ℕ) → (name : List ℕ) → List ℕ
line address key size name = hex address ++ numbers_text key size ++ name ++ 10 ∷ []

-- the runtime's object begins the private section of a compartment
abbrev pub runtime_line : PlacedSection → Option Compartment → List ℕ
runtime_line s None = []
runtime_line s (Some c) = line (4096 * s.page) s.key 4096 (codes ".rt." ++ c.name)

-- a global's line, where it belongs to the section
abbrev pub global_line : List (List TyTree) → Bool → (key address : ℕ) → TGlobal → List ℕ
global_line ss belongs key address g = if belongs then line address key (global_size ss g) g.name else []

-- the globals of a section in program order
abbrev pub global_lines : List (List TyTree) → (number key : ℕ) → List TGlobal → List ℕ → List ℕ → List ℕ
global_lines ss number key [] sections addresses = []
global_lines ss number key (g ∷ gs) [] addresses = []
global_lines ss number key (g ∷ gs) (s ∷ sections) [] = []
global_lines ss number key (g ∷ gs) (s ∷ sections) (a ∷ addresses) =
    global_line ss (s == number) key a g ++ global_lines ss number key gs sections addresses

-- section after section, from the one of a number on
abbrev pub section_lines : List (List TyTree) → List Compartment → List TGlobal → List ℕ → List ℕ → ℕ → List PlacedSection → List ℕ
section_lines ss comps gs sections addresses number [] = []
section_lines ss comps gs sections addresses number (s ∷ rest) =
    (runtime_line s (slice_get comps number) ++ global_lines ss number s.key gs sections addresses)
    ++ section_lines ss comps gs sections addresses (number + 1) rest

-- the lines, section after section
abbrev pub lines_of : TProgram → Grants → Config → Placement → List ℕ
lines_of p g k at = section_lines (struct_types p.structs) k.compartments p.globals
    (map (section_of (program_pairs g k)) g.globals) at.globals 0 at.sections

-- the line of an object
abbrev pub row_line : Row → List ℕ
row_line r = line r.address r.key r.size r.name

-- The table: the lines of all objects that have an address for good, of which there is one each, in
-- order of address (`HasOneRowEach`).
abbrev pub table_of : TProgram → Grants → Config → Placement → List ℕ
table_of p g k at = flat_map row_line (table_rows p g k at)
