-- Programs that are checked and placed can be built under plain calls.
use Rattle.std.specs.Prelude.{◌≡◌, ℕ, ◌<◌, ◌^◌, List, length, Option, Ok}
use Rattle.fx_base.specs.Files.{Held}
use Rattle.fx_config.specs.declared.configuration.Config.{Config}
use Rattle.fx_config.specs.declared.configuration.Mechanism.TheVariants.{Call}
use Rattle.fx_c_ast.specs.declared.checked.TProgram.{TProgram}
use Rattle.fx_grants.specs.declared.grants.Grants.{Grants}
use Rattle.fx_grants.specs.Refusals.{resolved}
use Rattle.fx_sections.specs.declared.placement.Placement.{Placement}
use Rattle.fx_sections.specs.Placement.{IsPlaceable, placed}
use Rattle.fx_c_types.specs.declared.program.SourceFile.{SourceFile}
use Rattle.fx_c_types.specs.WellTyped.{WellTyped}
use Rattle.fx_cmd_load.specs.Loading.{HasFewParts}
use Rattle.fx_cmd_load.specs.Programs.{IsProgramOf}
use Rattle.fx_build_parts.specs.Parts.{IsBuildable}

-- a program that files mean, whose functions 32 bits count, with its placement under a
-- configuration of plain calls
abbrev pub PlacedProgramsAreBuildable : Type 0
PlacedProgramsAreBuildable =
    (files : List SourceFile) (p : TProgram) (g : Grants) (at : Placement) (k : Config)
    → WellTyped files p → length p.functions < 2 ^ 32
    → IsPlaceable p g k → placed p g k ≡ Ok at → k.mechanism ≡ Call
    → IsBuildable p at k

-- the program of a configuration and its sources, granted and placed
abbrev pub ConfiguredProgramsAreBuildable : Type 0
ConfiguredProgramsAreBuildable =
    (name : List ℕ) (held : Option Held) (p : TProgram) (g : Grants) (at : Placement) (k : Config)
    → IsProgramOf name held k p → HasFewParts k
    → resolved p k ≡ Ok g → placed p g k ≡ Ok at → k.mechanism ≡ Call
    → IsBuildable p at k
