-- What a placement of a program is, as one law.
use Rattle.std.specs.Prelude.{◌≡◌, ℕ, true, length, Ok}
use Rattle.fx_config.specs.declared.configuration.Config.{Config}
use Rattle.fx_c_ast.specs.declared.checked.TProgram.{TProgram}
use Rattle.fx_grants.specs.declared.grants.Grants.{Grants}
use Rattle.fx_sections.specs.declared.placement.Placement.{Placement}
use Rattle.fx_sections.specs.Pairs.{is_keyed}
use Rattle.fx_sections.specs.Placement.{IsPlaceable, program_pairs, program_rooms, placement_of}
use Rattle.fx_sections.specs.Placement.{placed}
use Rattle.fx_vm_pages.specs.Entries.{is_writable}
use Rattle.fx_vm_pages.specs.declared.entry.PageFlags.{PageFlags}
use Rattle.fx_sections_law.specs.Laws.{HasDistinctPairs, HasSectionsApart, HasGlobalsInSections}
use Rattle.fx_sections_law.specs.Laws.{HasGlobalsApart, HasRuntimeFirst, HasRegionsApart}
use Rattle.fx_sections_law.specs.Granules.{SharesNoGranule}
use Rattle.fx_sections_law.specs.Permits.{Permits}
use Rattle.fx_sections_law.specs.Table.{HasOneRowEach}

pub record PlacementLaw (p : TProgram) (g : Grants) (k : Config) (at : Placement) : Type 0 where
  -- The numbers are those of this project's layout.
  pub layout : at ≡ placement_of p g k
  -- Every page of a section belongs to one pair of readers and writers, and no two sections have the same.
  pub pairs : HasDistinctPairs (length k.compartments) g.globals
  pub sections : HasSectionsApart p g k
  -- Each global lies in pages of exactly its own pair, 16 bytes from the others and behind the runtime's object.
  pub globals : HasGlobalsInSections p g k
  pub apart : HasGlobalsApart p g k
  pub behind : HasRuntimeFirst p g k
  -- No two objects share 16 bytes that begin at a multiple of 16, literals and the runtime's objects included.
  pub granules : SharesNoGranule p g k at
  -- Sections and literals lie apart from every other region.
  pub regions : HasRegionsApart p at
  -- The table has exactly one row for each object, and addresses ascend.
  pub table : HasOneRowEach p g k at
  -- Under protection keys a compartment's PKRU value permits exactly what the pairs grant.
  pub keys : (scheduler c : ℕ) (flags : PageFlags) (frame : ℕ) → is_keyed k.mechanism ≡ true
      → is_writable flags ≡ true
      → Permits k.mechanism 0x10000 (program_pairs g k) (program_rooms p g k) scheduler c flags
      frame

-- a program that is placed is placed so
abbrev pub PlacementsKeepTheLaw : Type 0
PlacementsKeepTheLaw =
    (p : TProgram) (g : Grants) (k : Config) (at : Placement) → IsPlaceable p g k
    → placed p g k ≡ Ok at → PlacementLaw p g k at
