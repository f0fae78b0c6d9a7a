-- What a placement means: which pages and addresses belong to whom, law by law.
use Rattle.std.specs.Prelude.{◌≡◌, ℕ, ◌+◌, ◌*◌, ◌%◌, ◌<◌, ◌≤◌, false, List, length, slice_index}
use Rattle.std.specs.Prelude.{HoldsAt, Ok}
use Rattle.fx_config.specs.declared.configuration.Config.{Config}
use Rattle.fx_c_ast.specs.declared.checked.TProgram.{TProgram}
use Rattle.fx_grants.specs.declared.grants.Pair.{Pair}
use Rattle.fx_grants.specs.declared.grants.Grants.{Grants}
use Rattle.fx_sections.specs.declared.placement.PlacedSection.{PlacedSection}
use Rattle.fx_sections.specs.declared.placement.Placement.{Placement}
use Rattle.fx_sections.specs.declared.regions.GlobalSize.{GlobalSize}
use Rattle.fx_sections.specs.Pairs.{same_pair, pairs_of}
use Rattle.fx_sections.specs.Placement.{IsPlaceable, program_objects, program_sections}
use Rattle.fx_sections.specs.Placement.{program_addresses, literal_sizes, placed}

-- no two sections are of one pair
abbrev pub HasDistinctPairs : ℕ → List Pair → Type 0
HasDistinctPairs n globals = (i j : ℕ) → i < j → j < length (pairs_of n globals)
    → HoldsAt (λ p. HoldsAt (λ q. same_pair p q ≡ false) (pairs_of n globals) j)
    (pairs_of n globals) i

abbrev pub PairsDiffer : Type 0
PairsDiffer = (n : ℕ) (globals : List Pair) → HasDistinctPairs n globals

-- each section has a page at least, and ends an unmapped page or more before the next begins
abbrev pub HasSectionsApart : TProgram → Grants → Config → Type 0
HasSectionsApart p g k = (i j : ℕ) → i < j → j < length (program_sections p g k)
    → HoldsAt
    (λ (s : PlacedSection). HoldsAt
    (λ (t : PlacedSection). (1 ≤ s.pages) × (s.page + s.pages + 1 ≤ t.page))
    (program_sections p g k) j)
    (program_sections p g k) i

abbrev pub SectionsAreApart : Type 0
SectionsAreApart = (p : TProgram) (g : Grants) (k : Config) → HasSectionsApart p g k

-- the section of a global has its pair, and the global lies in the section's pages
abbrev pub HasGlobalsInSections : TProgram → Grants → Config → Type 0
HasGlobalsInSections p g k = (i : ℕ) → i < length p.globals
    → HoldsAt (λ (o : GlobalSize). (o.section < length (program_sections p g k))
    × HoldsAt (λ (s : PlacedSection).
    HoldsAt (λ (q : Pair). (s.readers ≡ q.readers) × (s.writers ≡ q.writers)) g.globals i
    × (4096 * s.page ≤ slice_index (program_addresses p g k) i)
    × (slice_index (program_addresses p g k) i + o.size ≤ 4096 * (s.page + s.pages)))
    (program_sections p g k) o.section)
    (program_objects p g k) i

abbrev pub GlobalsAreInTheirSections : Type 0
GlobalsAreInTheirSections =
    (p : TProgram) (g : Grants) (k : Config) → IsPlaceable p g k → HasGlobalsInSections p g k

-- two globals of one section stand 16 bytes apart, and so on multiples of 16
abbrev pub HasGlobalsApart : TProgram → Grants → Config → Type 0
HasGlobalsApart p g k = (i j : ℕ) → i < j → j < length p.globals
    → HoldsAt (λ (o : GlobalSize). HoldsAt
    (λ (u : GlobalSize). o.section ≡ u.section
    → slice_index (program_addresses p g k) i + o.size + 16
    ≤ slice_index (program_addresses p g k) j)
    (program_objects p g k) j) (program_objects p g k) i
    × (slice_index (program_addresses p g k) i % 16 ≡ 0)

abbrev pub GlobalsAreApart : Type 0
GlobalsAreApart =
    (p : TProgram) (g : Grants) (k : Config) → IsPlaceable p g k → HasGlobalsApart p g k

-- a global in a compartment's private section stands behind the runtime's object
abbrev pub HasRuntimeFirst : TProgram → Grants → Config → Type 0
HasRuntimeFirst p g k = (i : ℕ) → i < length p.globals
    → HoldsAt (λ (o : GlobalSize). o.section < length k.compartments
    → HoldsAt
    (λ (s : PlacedSection). 4096 * s.page + 4096 + 16 ≤ slice_index (program_addresses p g k) i)
    (program_sections p g k) o.section)
    (program_objects p g k) i

abbrev pub GlobalsStandBehindTheRuntime : Type 0
GlobalsStandBehindTheRuntime =
    (p : TProgram) (g : Grants) (k : Config) → IsPlaceable p g k → HasRuntimeFirst p g k

-- Sections lie from 10000000 below 20000000 and literals from 600000 below E00000 (hexadecimal), so they are apart
-- from the code, the mailboxes, the current thread's word, the devices and the stacks.
abbrev pub HasRegionsApart : TProgram → Placement → Type 0
HasRegionsApart p at =
    ((i : ℕ) → i < length at.sections
    → HoldsAt
    (λ (s : PlacedSection). (0x1000_0000 ≤ 4096 * s.page)
    × (4096 * (s.page + s.pages) ≤ 0x2000_0000))
    at.sections i)
    × ((i : ℕ) → i < length at.literals
    → (0x60_0000 ≤ slice_index at.literals i)
    × (slice_index at.literals i + slice_index (literal_sizes p) i ≤ 0xE0_0000))

abbrev pub RegionsAreApart : Type 0
RegionsAreApart =
    (p : TProgram) (g : Grants) (k : Config) (at : Placement) → IsPlaceable p g k
    → placed p g k ≡ Ok at → HasRegionsApart p at
