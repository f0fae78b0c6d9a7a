-- The objects of an image of parts.
use Rattle.std.proofs.Common.{◌≡◌, ◌≤◌, ◌<◌, ℕ, ◌*◌, true, nat_le, List, [], length, map, All, get_or, ap, subst, ◌⊎◌, inl, inr, arith}
use Rattle.std.specs.Prelude.{slice_get, slice_index_or, Some}
use Rattle.std.specs.List.{list_all}
use Rattle.std.specs.Str.{bytes_eq}
use Rattle.std.proofs.lemmas.Bool.{le-leb, cases_lt}
use Rattle.std.proofs.lemmas.List.{get_or_past}
use Rattle.std.proofs.lemmas.List.Sums.{AllPass-from_list_all}
use Rattle.std.proofs.lemmas.Option.{slice_get_within, get_or_from_slice_get}
use Rattle.fx_config.specs.declared.configuration.Compartment.{Compartment}
use Rattle.fx_config.specs.declared.configuration.Config.{Config}
use Rattle.fx_config.specs.Names as config
use Rattle.fx_c_ast.specs.declared.checked.TProgram.{TProgram}
use Rattle.fx_c_ast.specs.CheckedTrees.{struct_types}
use Rattle.fx_grants.specs.declared.grants.Grants.{Grants}
use Rattle.fx_sections.specs.declared.placement.PlacedSection.{PlacedSection}
use Rattle.fx_sections.specs.declared.placement.Placement.{Placement}
use Rattle.fx_sections.specs.Placement.{IsPlaceable, program_pairs, program_rooms, program_sections, program_addresses}
use Rattle.fx_sections_law.proofs.Bounds.{placement_is, objects_few as placed_few}
use Rattle.fx_image.specs.declared.forms.Obj.{Obj}
use Rattle.fx_image.specs.declared.forms.Section.{Section}
use Rattle.fx_image.specs.Rules as image
use Rattle.fx_linker.specs.declared.parts.Parts.{Parts}
use Rattle.fx_linker.specs.Data.{section_of, objects_from}
use Rattle.fx_linker.specs.Linked.{image_of}
use Rattle.fx_linker_law.specs.Premises.{IsSound, HasGlobals, HasTables}
use Rattle.fx_linker_law.specs.Laws.{ObjectsAreMet}
use Rattle.fx_linker_law.proofs.Tests.{four}
use Rattle.fx_linker_law.proofs.Comps.{same_name}
use Rattle.fx_linker_law.proofs.Sections.{spread}
use Rattle.fx_linker_law.proofs.Tally.{tally, objects_few}
use Rattle.fx_linker_law.proofs.Names.{any, same_names, distinct_objects, one_named, tally_all, tables_all, globals_all}
use Rattle.fx_linker_law.proofs.Order.{objects_pass, objects_apart, apart_from_start}
use Rattle.fx_linker_law.proofs.Kept.{known}

-- a compartment that is there has a C name
named : (cs : List Compartment) → list_all (λ (c : Compartment). config.is_c_name c.name) cs ≡ true → (n : ℕ) (x : Compartment) → slice_get cs n ≡ Some x → image.is_c_name x.name ≡ true
named cs all n x there =
    let within = slice_get_within cs n x there in
    let is : get_or cs n x ≡ x = get_or_from_slice_get cs n x x there in
    same_name x.name (subst (λ (c : Compartment). config.is_c_name c.name ≡ true) is (AllPass-from_list_all (λ (c : Compartment). config.is_c_name c.name) cs all n x within))

-- a table that isn't there has no initial bytes
tables_fit : (initials : List (List ℕ)) → All (λ (bytes : List ℕ). length bytes ≤ 4096) initials → (n : ℕ) → length (slice_index_or initials n []) ≤ 4096
tables_fit initials all n = by (cases_lt n (length initials))
  where
    by : (n < length initials) ⊎ (length initials ≤ n) → length (slice_index_or initials n []) ≤ 4096
    by (inl less) = all n [] less
    by (inr past) = omega (arith, ap length (get_or_past initials n [] past))

module _ (parts : Parts) (p : TProgram) (g : Grants) (k : Config) (sound : IsSound k) (globals : HasGlobals p) (tables : HasTables parts) (has : IsPlaceable p g k) where
  abbrev ss : List PlacedSection
  ss = program_sections p g k

  abbrev all : List Section
  all = map section_of ss

  abbrev os : List Obj
  os = objects_from (struct_types p.structs) k.compartments parts.map.initials p.globals (program_addresses p g k) 0 ss

  apart_sections : image.are_spread 0x10000 all ≡ true
  apart_sections = spread k.mechanism 0 0x10000 (program_pairs g k) (program_rooms p g k)

  one_each : (n : List ℕ) → tally (bytes_eq n) os ≤ 1
  one_each n =
      omega (
        arith,
        objects_few (struct_types p.structs) k.compartments parts.map.initials p.globals (program_addresses p g k) (bytes_eq n) 0x10000 ss apart_sections,
        one_named n k.compartments p.globals sound.distinct globals.distinct globals.names,
      )

  few : length p.globals ≤ 32000 → length os ≤ 32016
  few count =
      omega (
        arith,
        objects_few (struct_types p.structs) k.compartments parts.map.initials p.globals (program_addresses p g k) any 0x10000 ss apart_sections,
        tally_all os,
        tables_all k.compartments,
        globals_all p.globals,
        has.compartments,
      )

  tried : length p.globals ≤ 32000 → image.are_objects all os ≡ true
  tried count =
      four (nat_le (length os) 32016) (list_all (image.is_object all) os) (image.are_apart 0 os) (image.is_distinct_by same_names os)
      (le-leb (length os) 32016 (few count))
      (objects_pass (struct_types p.structs) (program_addresses p g k) k.compartments parts.map.initials p.globals (tables_fit parts.map.initials tables) (named k.compartments sound.names) globals.names globals.initials all 0 0x10000 ss apart_sections (known p g k has parts.map.initials))
      (apart_from_start (4096 * 0x10000) os
      (objects_apart (struct_types p.structs) (program_addresses p g k) k.compartments parts.map.initials p.globals (tables_fit parts.map.initials tables) (named k.compartments sound.names) globals.names globals.initials all 0 0x10000 ss apart_sections (known p g k has parts.map.initials)))
      (distinct_objects os one_each)

pub objects : ObjectsAreMet
unfolding image_of
objects parts p g k places sound globals tables has is =
    subst (λ (at : Placement). image.are_objects (map section_of at.sections) (objects_from (struct_types p.structs) k.compartments parts.map.initials p.globals at.globals 0 at.sections) ≡ true)
    (placement_is p g k places is)
    (tried parts p g k sound globals tables has (omega (arith, placed_few p g k places is)))
