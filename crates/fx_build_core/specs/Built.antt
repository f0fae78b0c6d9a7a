-- The image of a checked program under plain calls.
use Rattle.std.specs.Prelude.{Result}
use Rattle.fx_config.specs.declared.configuration.Config.{Config}
use Rattle.fx_c_ast.specs.declared.checked.TProgram.{TProgram}
use Rattle.fx_grants.specs.declared.grants.Grants.{Grants}
use Rattle.fx_sections.specs.declared.placement.Placement.{Placement}
use Rattle.fx_image.specs.declared.forms.Image.{Image}
use Rattle.fx_linker.specs.declared.error.LinkError.{LinkError}
use Rattle.fx_linker.specs.Linked.{linked_image}
use Rattle.fx_build_parts.specs.Parts.{parts_of}

-- the image of the program's parts, or the refusal of code that is longer than 1,048,576 bytes
abbrev pub built : TProgram → Grants → Placement → Config → Result Image LinkError
built p g at k = linked_image (parts_of p g at k) p at k
