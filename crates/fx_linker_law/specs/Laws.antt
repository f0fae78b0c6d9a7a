-- Which rules of an image's fields the image of parts meets.
use Rattle.std.specs.Prelude.{◌≡◌, [], Ok, length, IsTrue, nat_lt}
use Rattle.fx_config.specs.declared.configuration.Config.{Config}
use Rattle.fx_c_ast.specs.declared.checked.TProgram.{TProgram}
use Rattle.fx_grants.specs.declared.grants.Grants.{Grants}
use Rattle.fx_sections.specs.declared.placement.Placement.{Placement}
use Rattle.fx_sections.specs.Placement.{IsPlaceable, placed}
use Rattle.fx_image.specs.declared.forms.Image.{Image}
use Rattle.fx_image.specs.Rules.{is_version, is_mechanism, is_count, are_stacks, are_compartments}
use Rattle.fx_image.specs.Rules.{is_code, is_in_runtime, are_owners, are_starts, are_sections}
use Rattle.fx_image.specs.Rules.{are_literals, are_stubs}
use Rattle.fx_image.specs.Rules.{are_entries, are_objects, first_unlisted, has_none, IsImage}
use Rattle.fx_linker.specs.declared.parts.Parts.{Parts}
use Rattle.fx_linker.specs.Linked.{image_of, linked_image}
use Rattle.fx_linker_law.specs.Premises.{IsSound, IsMade, IsShort, ArePairs}
use Rattle.fx_linker_law.specs.Premises.{HasNoKeys, HasEntries, HasGlobals, HasTables}
use Rattle.fx_linker_law.specs.Premises.{IsGiven, IsBuilt}

-- the fields of one number
pub record HasHead (i : Image) : Type 0 where
  pub version : IsTrue (is_version i.version)
  pub mechanism : IsTrue (is_mechanism i.mechanism)
  pub count : IsTrue (is_count i.mechanism (length i.compartments))
  pub stacks : IsTrue (are_stacks i.version i.stack_pages i.threads)
  pub scheduler : IsTrue (nat_lt i.scheduler (length i.compartments))
  pub home : IsTrue (nat_lt i.home (length i.compartments))

abbrev pub HeadsAreMet : Type 0
HeadsAreMet = (parts : Parts) (p : TProgram) (places : Placement) (k : Config)
    → IsSound k → IsMade parts p k → HasHead (image_of parts p places k)

-- whole pages for each compartment, one range behind the other
abbrev pub CompartmentsAreMet : Type 0
CompartmentsAreMet = (parts : Parts) (p : TProgram) (places : Placement) (k : Config)
    → IsSound k → IsMade parts p k
    → IsTrue (are_compartments (image_of parts p places k).compartments)

-- the code has the bytes of the ranges and of the runtime
abbrev pub CodeIsMet : Type 0
CodeIsMet = (parts : Parts) (p : TProgram) (places : Placement) (k : Config)
    → IsMade parts p k → IsShort parts
    → IsTrue (is_code (image_of parts p places k).compartments (image_of parts p places k).code)

abbrev pub AbortsAreMet : Type 0
AbortsAreMet = (parts : Parts) (p : TProgram) (places : Placement) (k : Config)
    → IsMade parts p k
    → IsTrue (is_in_runtime (image_of parts p places k).compartments
    (image_of parts p places k).code (image_of parts p places k).abort)

abbrev pub OwnersAreMet : Type 0
OwnersAreMet = (parts : Parts) (p : TProgram) (places : Placement) (k : Config)
    → IsSound k
    → IsTrue (are_owners (length (image_of parts p places k).compartments)
    (image_of parts p places k).owners)

-- each vCPU starts in the code, on a stack of its compartment
abbrev pub StartsAreMet : Type 0
StartsAreMet = (parts : Parts) (p : TProgram) (places : Placement) (k : Config)
    → IsSound k → IsMade parts p k → IsTrue (are_starts (image_of parts p places k))

-- the sections that a program was given, in order, each with its key; and the compartments' rights
-- by them
abbrev pub SectionsAreMet : Type 0
SectionsAreMet = (parts : Parts) (p : TProgram) (g : Grants) (k : Config) (places : Placement)
    → IsSound k → ArePairs (length k.compartments) g.globals → placed p g k ≡ Ok places
    → IsTrue (are_sections (image_of parts p places k).version (image_of parts p places k).mechanism
    (image_of parts p places k).scheduler (image_of parts p places k).compartments
    (image_of parts p places k).sections)

abbrev pub LiteralsAreMet : Type 0
LiteralsAreMet = (parts : Parts) (p : TProgram) (g : Grants) (k : Config) (places : Placement)
    → placed p g k ≡ Ok places → IsTrue (are_literals (image_of parts p places k).literals)

-- parts without stubs
abbrev pub StubsAreMet : Type 0
StubsAreMet = (parts : Parts) (p : TProgram) (places : Placement) (k : Config)
    → parts.map.stubs ≡ []
    → IsTrue (are_stubs (image_of parts p places k).mechanism
    (image_of parts p places k).compartments (image_of parts p places k).code
    (image_of parts p places k).entries (image_of parts p places k).stubs)

-- WRPKRU's bytes stand nowhere in the code
abbrev pub SequencesAreMet : Type 0
SequencesAreMet =
    (parts : Parts) (p : TProgram) (places : Placement) (k : Config)
    → HasNoKeys parts p → IsShort parts
    → IsTrue (has_none (first_unlisted (image_of parts p places k).stubs
    (image_of parts p places k).code))

abbrev pub EntriesAreMet : Type 0
EntriesAreMet =
    (parts : Parts) (p : TProgram) (places : Placement) (k : Config)
    → IsMade parts p k → HasEntries parts k
    → IsTrue (are_entries (image_of parts p places k).compartments
    (image_of parts p places k).entries)

-- the compartments' tables and the globals, ascending, each in its section's pages
abbrev pub ObjectsAreMet : Type 0
ObjectsAreMet =
    (parts : Parts) (p : TProgram) (g : Grants) (k : Config) (places : Placement)
    → IsSound k → HasGlobals p → HasTables parts → IsPlaceable p g k → placed p g k ≡ Ok places
    → IsTrue (are_objects (image_of parts p places k).sections (image_of parts p places k).objects)

-- what is linked is an image
abbrev pub LinkedAreImages : Type 0
LinkedAreImages =
    (parts : Parts) (p : TProgram) (g : Grants) (k : Config) (places : Placement) (i : Image)
    → IsGiven p g k → IsBuilt parts p k → placed p g k ≡ Ok places
    → linked_image parts p places k ≡ Ok i → IsImage i
