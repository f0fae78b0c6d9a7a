-- The parts of a program's image spell WRPKRU nowhere.
use Rattle.std.specs.Prelude.{◌≡◌, ◌≤◌, Ok, All, List, [], ◌∷◌}
use Rattle.fx_config.specs.declared.configuration.Config.{Config}
use Rattle.fx_c_ast.specs.declared.checked.TProgram.{TProgram}
use Rattle.fx_c_types_model.specs.Lowerable.{IsLowerable}
use Rattle.fx_c_mean_model.specs.Programs.{program_of}
use Rattle.fx_c_lin.specs.Ops.{Step}
use Rattle.fx_c_lower_model.specs.Code.{code_of}
use Rattle.fx_grants.specs.declared.grants.Grants.{Grants}
use Rattle.fx_sections.specs.declared.placement.Placement.{Placement}
use Rattle.fx_sections.specs.Placement.{IsPlaceable, placed}
use Rattle.fx_image.specs.declared.forms.Image.{Image}
use Rattle.fx_linker.specs.declared.parts.Parts.{Parts}
use Rattle.fx_linker.specs.Linked.{linked_image}
use Rattle.fx_linker_law.specs.Premises.{IsShort, HasNoKeys}
use Rattle.fx_templates_quiet_law.specs.Quiet.{HasRegister}
use Rattle.fx_build_parts.specs.Parts.{parts_of, IsBuildable}

-- each op on a device names a register that is there
abbrev pub HasRegisters : List Step → Type 0
HasRegisters [] = Unit {0}
HasRegisters (x ∷ xs) = HasRegister x.op × HasRegisters xs

abbrev pub CodeHasRegisters : Type 0
CodeHasRegisters = (p : TProgram) → IsLowerable p → All HasRegisters (code_of (program_of p))

-- A program that was checked and placed, on stacks of at most 64 pages, whose code isn't refused
-- for its length.
abbrev pub PartsHaveNoKeys : Type 0
PartsHaveNoKeys =
    (p : TProgram) (g : Grants) (k : Config) (at : Placement) → IsBuildable p at k → IsLowerable p
    → IsPlaceable p g k → placed p g k ≡ Ok at → k.stack_pages ≤ 64 → IsShort (parts_of p g at k)
    → HasNoKeys (parts_of p g at k) p

-- parts whose linking isn't refused are short enough
abbrev pub LinkedAreShort : Type 0
LinkedAreShort =
    (parts : Parts) (p : TProgram) (places : Placement) (k : Config) (i : Image)
    → linked_image parts p places k ≡ Ok i → IsShort parts
