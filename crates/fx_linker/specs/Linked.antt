-- The image of parts, or why there is none.
use Rattle.std.specs.Prelude.{ℕ, ◌<◌, ◌≤◌, ◌≡◌, ◌++◌, ◌^◌, nat_lt, All, List, length, map}
use Rattle.std.specs.Prelude.{slice_index, Result, Ok, Err, if◌then◌else◌, IsTrue}
use Rattle.fx_config.specs.declared.configuration.Config.{Config}
use Rattle.fx_c_ast.specs.declared.checked.TGlobal.{TGlobal}
use Rattle.fx_c_ast.specs.declared.checked.TProgram.{TProgram}
use Rattle.fx_c_ast.specs.CheckedTrees.{ty_tree, struct_types}
use Rattle.fx_c_ast.specs.Layout.{known_layouts, IsSized, StructsAreSized}
use Rattle.fx_x64_forms.specs.declared.piece.Piece.{Piece}
use Rattle.fx_x64_code.specs.Spelling.{has_row}
use Rattle.fx_sections.specs.declared.placement.Placement.{Placement}
use Rattle.fx_image.specs.declared.forms.Image.{Image}
use Rattle.fx_linker.specs.declared.parts.Parts.{Parts}
use Rattle.fx_linker.specs.declared.layout.Layout.{Layout}
use Rattle.fx_linker.specs.declared.reach.Reach.{Reach}
use Rattle.fx_linker.specs.declared.error.LinkError.{LinkError}
use Rattle.fx_linker.specs.declared.error.LinkError.TheVariants.{CodeTooLong}
use Rattle.fx_linker.specs.Places.{layout_of, function_places}
use Rattle.fx_linker.specs.Entries.{homes, entry_numbers_of, entry_places}
use Rattle.fx_linker.specs.Code.{range_code, ranges_code}
use Rattle.fx_linker.specs.Data.{mechanism_number, section_of, comps_from, objects_from}
use Rattle.fx_linker.specs.Data.{literals_from, owners_from, starts_from, placed_stub}

-- where the parts stand
abbrev pub parts_layout : Parts → Layout
parts_layout parts = layout_of parts.ranges parts.runtime

-- what the compartments' pieces reach: Function(f) is f's first piece
abbrev pub inner_reach : Parts → TProgram → Layout → Reach
inner_reach parts p at = record {
  functions = function_places at parts.spots;
  numbers = entry_numbers_of p parts.spots;
  runtime = at.runtime;
}

-- what the runtime's pieces reach: Function(f) is the jump to f in the entry table of its compartment
abbrev pub outer_reach : Parts → TProgram → Layout → Reach
outer_reach parts p at = record {
  functions = entry_places at (entry_numbers_of p parts.spots) 0 parts.spots;
  numbers = entry_numbers_of p parts.spots;
  runtime = at.runtime;
}

-- the compartments' ranges in order, and then the runtime's
abbrev pub code_of : Parts → TProgram → Layout → List ℕ
code_of parts p at =
    ranges_code parts (inner_reach parts p at) at.ranges 0 parts.ranges
    ++ range_code parts (outer_reach parts p at) at.runtime parts.runtime

-- the compartment of `main`
abbrev pub home_of : Parts → TProgram → ℕ
home_of parts p = slice_index (homes parts.spots) p.main

abbrev pub image_at : Parts → TProgram → Placement → Config → Layout → Image
image_at parts p places k at = record {
  version = 2;
  mechanism = mechanism_number k.mechanism;
  stack_pages = k.stack_pages;
  threads = 16;
  scheduler = k.scheduler;
  home = home_of parts p;
  compartments = comps_from k (map section_of places.sections) at.starts 0 k.compartments;
  sections = map section_of places.sections;
  code = code_of parts p at;
  literals = literals_from places.literals 0 0 p.literals;
  objects =
      objects_from (struct_types p.structs) k.compartments parts.map.initials p.globals places.globals
      0 places.sections;
  entries = parts.entries;
  stubs = map (placed_stub at.runtime) parts.map.stubs;
  abort = slice_index at.runtime parts.map.abort;
  owners = owners_from k.compartments 0 16;
  starts = starts_from k (home_of parts p) at.runtime 0 parts.map.starts;
}

-- the image of parts
unfoldable pub image_of : Parts → TProgram → Placement → Config → Image
image_of parts p places k = image_at parts p places k (parts_layout parts)

-- the image of parts, or the refusal of code that is longer than 1,048,576 bytes
abbrev pub linked_image : Parts → TProgram → Placement → Config → Result Image LinkError
linked_image parts p places k =
    if nat_lt 1048576 (parts_layout parts).size then Err (CodeTooLong (parts_layout parts).size)
    else Ok (image_of parts p places k)

abbrev pub AreRows : List Piece → Type 0
AreRows pieces = All (λ (p : Piece). IsTrue (has_row p.inst)) pieces

-- Parts, a program, its placement and its configuration: each piece is an instruction of the subset, and the
-- types of the globals have sizes.
pub record IsLinkable (parts : Parts) (p : TProgram) (places : Placement) (k : Config) : Type 0 where
  pub ranges : All AreRows parts.ranges
  pub runtime : AreRows parts.runtime
  pub structs : StructsAreSized (struct_types p.structs)
  pub globals : All
      (λ (v : TGlobal). IsSized (known_layouts (struct_types p.structs)) (length p.structs)
      (ty_tree v.ty))
      p.globals
  pub few : length k.compartments ≤ 16
  pub sections : length places.sections ≤ 2 ^ 16
