-- What later stages need of the program of a configuration and its sources.
use Rattle.std.specs.Prelude.{ℕ, List, All, Option}
use Rattle.fx_base.specs.Files.{Held}
use Rattle.fx_config.specs.declared.configuration.Config.{Config}
use Rattle.fx_c_ast.specs.declared.checked.TFunction.{TFunction}
use Rattle.fx_c_ast.specs.declared.checked.TProgram.{TProgram}
use Rattle.fx_c_ast.specs.CheckedTrees.{tstmt_trees, struct_types}
use Rattle.fx_c_types_model.specs.Tables.{tables}
use Rattle.fx_c_types_model.specs.Trees.{AreRight}
use Rattle.fx_c_types_model.specs.Each.{EachInAll}
use Rattle.fx_c_types_model.specs.Fits.{DeviceFits, ElementFits}
use Rattle.fx_c_types_model.specs.Lowerable.{IsLowerable}
use Rattle.fx_cmd_load.specs.Loading.{HasFewParts}
use Rattle.fx_cmd_load.specs.Programs.{IsProgramOf}

-- in each body all numbers are there and all types are right
abbrev pub ConfiguredProgramsAreRight : Type 0
ConfiguredProgramsAreRight = (name : List ℕ) (held : Option Held) (k : Config) (p : TProgram) → IsProgramOf name held k p → HasFewParts k
    → All (λ (f : TFunction). AreRight (tables p f) (tstmt_trees f.body.items)) p.functions

-- each device and each register is there, and elements that are counted have from 1 byte to 64 MiB each
abbrev pub ConfiguredProgramsFit : Type 0
ConfiguredProgramsFit = (name : List ℕ) (held : Option Held) (k : Config) (p : TProgram) → IsProgramOf name held k p
    → All (λ (f : TFunction). EachInAll DeviceFits (tstmt_trees f.body.items)) p.functions
    × All (λ (f : TFunction). EachInAll (ElementFits (struct_types p.structs)) (tstmt_trees f.body.items)) p.functions

-- it has all that its lowering takes
abbrev pub ConfiguredProgramsAreLowerable : Type 0
ConfiguredProgramsAreLowerable = (name : List ℕ) (held : Option Held) (k : Config) (p : TProgram) → IsProgramOf name held k p → HasFewParts k → IsLowerable p
