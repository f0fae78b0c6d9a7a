-- A placement keeps its law.
use Rattle.std.proofs.Common.{◌≡◌, length, sym, arith, Ok}
use Rattle.fx_config.specs.declared.configuration.Config.{Config}
use Rattle.fx_c_ast.specs.declared.checked.TProgram.{TProgram}
use Rattle.fx_grants.specs.declared.grants.Pair.{Pair}
use Rattle.fx_grants.specs.declared.grants.Grants.{Grants}
use Rattle.fx_sections.specs.declared.placement.Placement.{Placement}
use Rattle.fx_sections.specs.Placement.{IsPlaceable, program_pairs, program_rooms, program_objects, placed}
use Rattle.fx_sections.proofs.Rooms.{length-rooms_from}
use Rattle.fx_sections_law.specs.Laws.{HasGlobalsInSections, HasGlobalsApart}
use Rattle.fx_sections_law.specs.PlacementLaw.{PlacementLaw}
use Rattle.fx_sections_law.proofs.Bits.{permits}
use Rattle.fx_sections_law.proofs.Bounds.{placement_is, pairs_keyed, section_within, literal_within}
use Rattle.fx_sections_law.proofs.Differ.{pairs_distinct}
use Rattle.fx_sections_law.proofs.Globals.{in_section, global_in_section, globals_apart, address_multiple, behind_runtime}
use Rattle.fx_sections_law.proofs.Granules.{unshared}
use Rattle.fx_sections_law.proofs.Sections.{sections_apart}
use Rattle.fx_sections_law.proofs.Table.{table_ascends}

in_sections : (p : TProgram) (g : Grants) (k : Config) → IsPlaceable p g k → HasGlobalsInSections p g k
in_sections p g k has i less d =
    let none : Pair = record { readers = 0; writers = 0 } in (
      (in_section p g k has i less d none none).0,
      λ s. (
        (λ q. (global_in_section p g k has i less d s q).0),
        (global_in_section p g k has i less d s none).1,
        (global_in_section p g k has i less d s none).2,
      ),
    )

apart : (p : TProgram) (g : Grants) (k : Config) → IsPlaceable p g k → HasGlobalsApart p g k
apart p g k has i j less within = ((λ d e same. globals_apart p g k has i j less within d e same), address_multiple p g k has i (omega arith) (record { section = 0; size = 0 }))

pub keeps : (p : TProgram) (g : Grants) (k : Config) (at : Placement) → IsPlaceable p g k → placed p g k ≡ Ok at → PlacementLaw p g k at
keeps p g k at has is = record {
  layout = sym (placement_is p g k at is);
  pairs = λ i j less within d e. pairs_distinct (length k.compartments) g.globals i j d e less within;
  sections = λ i j less within d e. sections_apart k.mechanism 0 65536 (program_pairs g k) (program_rooms p g k) i j d e less within;
  globals = in_sections p g k has;
  apart = apart p g k has;
  behind = λ i less d private s. behind_runtime p g k has i less d private s;
  granules = unshared p g k at has is;
  regions = ((λ i less d. section_within p g k at has is i less d), λ i less. literal_within p g k at is i less);
  table = table_ascends p g k at has is;
  keys = λ scheduler d flags frame keyed writable.
      permits k.mechanism 0x10000 (program_pairs g k) (program_rooms p g k) scheduler d keyed
      (length-rooms_from (length k.compartments) (program_objects p g k) 0 (length (program_pairs g k))) (pairs_keyed p g k at is keyed) flags frame writable;
}
