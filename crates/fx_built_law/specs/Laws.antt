-- The image of the program of a configuration and its sources is an image.
use Rattle.std.specs.Prelude.{◌≡◌, ℕ, List, Option, Ok}
use Rattle.fx_base.specs.Files.{Held}
use Rattle.fx_config.specs.declared.configuration.Config.{Config}
use Rattle.fx_c_ast.specs.declared.checked.TProgram.{TProgram}
use Rattle.fx_grants.specs.declared.grants.Grants.{Grants}
use Rattle.fx_grants.specs.Refusals.{resolved}
use Rattle.fx_sections.specs.declared.placement.Placement.{Placement}
use Rattle.fx_sections.specs.Placement.{IsPlaceable, placed}
use Rattle.fx_image.specs.declared.forms.Image.{Image}
use Rattle.fx_image.specs.Rules.{IsImage}
use Rattle.fx_build_parts.specs.Parts.{IsBuildable}
use Rattle.fx_build_core.specs.Built.{built}
use Rattle.fx_cmd_load.specs.Loading.{HasFewParts}
use Rattle.fx_cmd_load.specs.Programs.{IsProgramOf}

-- what is built of a program that a configuration and its sources mean, granted and placed
abbrev pub BuiltIsImage : Type 0
BuiltIsImage =
    (name : List ℕ) (held : Option Held) (p : TProgram) (g : Grants) (at : Placement) (k : Config)
    (i : Image)
    → IsProgramOf name held k p → HasFewParts k
    → resolved p k ≡ Ok g → IsPlaceable p g k → placed p g k ≡ Ok at
    → IsBuildable p at k → built p g at k ≡ Ok i
    → IsImage i
