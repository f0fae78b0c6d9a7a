-- The parts of a program's image can be linked.
use Rattle.fx_config.specs.declared.configuration.Config.{Config}
use Rattle.fx_c_ast.specs.declared.checked.TProgram.{TProgram}
use Rattle.fx_grants.specs.declared.grants.Grants.{Grants}
use Rattle.fx_sections.specs.declared.placement.Placement.{Placement}
use Rattle.fx_linker.specs.Linked.{IsLinkable}
use Rattle.fx_build_parts.specs.Parts.{parts_of, IsBuildable}

abbrev pub PartsAreLinkable : Type 0
PartsAreLinkable =
    (p : TProgram) (g : Grants) (at : Placement) (k : Config) → IsBuildable p at k
    → IsLinkable (parts_of p g at k) p at k
