-- Objects and granules: the pieces of 16 bytes that begin at multiples of 16.
use Rattle.std.specs.Prelude.{◌≡◌, ℕ, ◌+◌, ◌*◌, ◌<◌, length, slice_index, HoldsAt, Ok}
use Rattle.fx_config.specs.declared.configuration.Config.{Config}
use Rattle.fx_c_ast.specs.declared.checked.TProgram.{TProgram}
use Rattle.fx_grants.specs.declared.grants.Grants.{Grants}
use Rattle.fx_sections.specs.declared.placement.PlacedSection.{PlacedSection}
use Rattle.fx_sections.specs.declared.placement.Placement.{Placement}
use Rattle.fx_sections.specs.declared.regions.GlobalSize.{GlobalSize}
use Rattle.fx_sections.specs.Placement.{IsPlaceable, program_objects, literal_sizes, placed}

-- so many bytes from an address have one in the granule of a number
abbrev pub Touches : (address size granule : ℕ) → Type 0
Touches address size granule = (16 * granule < address + size) × (address < 16 * granule + 16)

-- No granule is touched by two globals, by two literals, by a global and a literal, by the runtime's object
-- at the start of a section and a global, or by that object and a literal.
pub record SharesNoGranule (p : TProgram) (g : Grants) (k : Config) (at : Placement) : Type 0 where
  pub globals : (i j n : ℕ) → i < j → j < length p.globals
      → HoldsAt (λ (o : GlobalSize). HoldsAt (λ (u : GlobalSize).
      Touches (slice_index at.globals i) o.size n → Touches (slice_index at.globals j) u.size n
      → ⊥) (program_objects p g k) j) (program_objects p g k) i
  pub literals : (i j n : ℕ) → i < j → j < length p.literals →
      Touches (slice_index at.literals i) (slice_index (literal_sizes p) i) n
      → Touches (slice_index at.literals j) (slice_index (literal_sizes p) j) n → ⊥
  pub both : (i j n : ℕ) → i < length p.globals → j < length p.literals
      → HoldsAt (λ (o : GlobalSize).
      Touches (slice_index at.globals i) o.size n
      → Touches (slice_index at.literals j) (slice_index (literal_sizes p) j) n
      → ⊥) (program_objects p g k) i
  pub runtime : (c i n : ℕ) → c < length k.compartments → c < length at.sections
      → i < length p.globals → HoldsAt (λ (s : PlacedSection). HoldsAt (λ (o : GlobalSize).
      Touches (4096 * s.page) 4096 n → Touches (slice_index at.globals i) o.size n
      → ⊥) (program_objects p g k) i) at.sections c
  pub texts : (c j n : ℕ) → c < length at.sections → j < length p.literals
      → HoldsAt (λ (s : PlacedSection).
      Touches (4096 * s.page) 4096 n
      → Touches (slice_index at.literals j) (slice_index (literal_sizes p) j) n → ⊥) at.sections c

-- no two objects of a placed program share a granule
abbrev pub GranulesAreUnshared : Type 0
GranulesAreUnshared =
    (p : TProgram) (g : Grants) (k : Config) (at : Placement) → IsPlaceable p g k
    → placed p g k ≡ Ok at → SharesNoGranule p g k at
