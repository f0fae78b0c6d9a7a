-- What comes of a checked program's grants, placement and table, step by step in the order of work.
use Rattle.std.specs.Prelude.{◌≡◌, ℕ, ◌+◌, ◌<◌, ◌≤◌, ◌^◌, All, List, ◌++◌, take, length, sum, Option, Ok, Err}
use Rattle.fx_base.specs.Faults.{Rose}
use Rattle.fx_base.specs.Told.{Told}
use Rattle.fx_config.specs.declared.configuration.Config.{Config}
use Rattle.fx_c_ast.specs.declared.checked.TGlobal.{TGlobal}
use Rattle.fx_c_ast.specs.declared.checked.TProgram.{TProgram}
use Rattle.fx_c_ast.specs.CheckedTrees.{ty_tree, struct_types}
use Rattle.fx_c_ast.specs.Layout.{known_layouts, IsSized, StructsAreSized}
use Rattle.fx_grants.specs.declared.grants.Grants.{Grants}
use Rattle.fx_grants.specs.Refusals.{resolved}
use Rattle.fx_sections.specs.declared.placement.Placement.{Placement}
use Rattle.fx_sections.specs.Placement.{literal_sizes, initial_total, placed}
use Rattle.fx_sections_law.specs.PlacementLaw.{PlacementLaw}
use Rattle.fx_cmd_base.specs.Streams.{Gained, TookNothing}
use Rattle.fx_cmd_place.specs.Table.{table_of}
use Rattle.fx_cmd_place.specs.declared.placing.Unplaced.{Unplaced}
use Rattle.fx_cmd_place.specs.declared.placing.Unplaced.TheVariants as unplaced

-- A checked program and a configuration: the types of the program's objects have sizes, and there is no more
-- of anything than sources and documents can have.
pub record IsReady (p : TProgram) (k : Config) : Type 0 where
  pub functions : length p.functions < 2 ^ 32
  pub libraries : length k.libraries ≤ 64
  pub compartments : length k.compartments ≤ 16
  pub structs : StructsAreSized (struct_types p.structs)
  pub globals : All (λ (v : TGlobal). IsSized (known_layouts (struct_types p.structs)) (length p.structs) (ty_tree v.ty)) p.globals
  pub objects : length p.globals + length p.literals < 2 ^ 31
  pub texts : sum (literal_sizes p) + initial_total (struct_types p.structs) p.globals < 2 ^ 62

-- an output that took the first of these bytes
abbrev pub GainedFront : List ℕ → List ℕ → List ℕ → Type 0
GainedFront bytes before now = (n : ℕ) × (now ≡ before ++ take n bytes)

-- The program is granted and placed, the placement keeps its law, and this is its table: exactly
-- one line for each object that has an address for good, addresses ascending.
abbrev pub HasTable : TProgram → Config → List ℕ → Type 0
HasTable p k table =
    (g : Grants) × (at : Placement) × (resolved p k ≡ Ok g) × (placed p g k ≡ Ok at)
    × PlacementLaw p g k at × (table ≡ table_of p g k at)

-- the output gained the table of the placement
abbrev pub WasPut : TProgram → Config → Option (List ℕ) → Option (List ℕ) → Type 0
WasPut p k taken gained = (table : List ℕ) × HasTable p k table × Told (Gained table) taken gained

-- why the configuration grants nothing in the program
abbrev pub GrantsCause : TProgram → Config → Unplaced → Type 0
GrantsCause p k (unplaced.Grants error) = resolved p k ≡ Err error
GrantsCause p k (unplaced.Place error) = ⊥
GrantsCause p k unplaced.WriteFault = ⊥
GrantsCause p k unplaced.OutOfMemory = Unit {0}

-- why the program is not placed
abbrev pub PlaceCause : TProgram → Grants → Config → Unplaced → Type 0
PlaceCause p g k (unplaced.Place error) = placed p g k ≡ Err error
PlaceCause p g k (unplaced.Grants error) = ⊥
PlaceCause p g k unplaced.WriteFault = ⊥
PlaceCause p g k unplaced.OutOfMemory = Unit {0}

-- why there is no table
abbrev pub TableCause : TProgram → Config → Unplaced → Type 0
TableCause p k (unplaced.Grants error) = resolved p k ≡ Err error
TableCause p k (unplaced.Place error) = (g : Grants) × (resolved p k ≡ Ok g) × (placed p g k ≡ Err error)
TableCause p k unplaced.WriteFault = ⊥
TableCause p k unplaced.OutOfMemory = Unit {0}

-- Why the table was not put: the grants are refused, or the placement is, and the output took nothing; or the
-- output's count rose, and it took the first bytes of the table. Want of memory is free, and puts nothing.
abbrev pub PlacingCause : TProgram → Config → Option (List ℕ) → Option (List ℕ) → ℕ → ℕ → Unplaced → Type 0
PlacingCause p k taken gained before now (unplaced.Grants error) = TableCause p k (unplaced.Grants error) × Told TookNothing taken gained
PlacingCause p k taken gained before now (unplaced.Place error) = TableCause p k (unplaced.Place error) × Told TookNothing taken gained
PlacingCause p k taken gained before now unplaced.WriteFault = (table : List ℕ) × HasTable p k table × Rose before now × Told (GainedFront table) taken gained
PlacingCause p k taken gained before now unplaced.OutOfMemory = Told TookNothing taken gained
