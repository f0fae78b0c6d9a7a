-- What a configuration that was read, a checked program and its grants have that the image of them
-- asks for.
use Rattle.std.specs.Prelude.{◌≡◌, ℕ, ◌<◌, IsTrue, All, List, length, Option, Ok}
use Rattle.std.specs.Str.{bytes_eq}
use Rattle.fx_base.specs.Files.{Held}
use Rattle.fx_config.specs.declared.configuration.Config.{Config}
use Rattle.fx_c_ast.specs.declared.checked.TGlobal.{TGlobal}
use Rattle.fx_c_ast.specs.declared.checked.TFunction.{TFunction}
use Rattle.fx_c_ast.specs.declared.checked.TProgram.{TProgram}
use Rattle.fx_grants.specs.declared.grants.Grants.{Grants}
use Rattle.fx_grants.specs.Refusals.{resolved}
use Rattle.fx_image.specs.Rules as image
use Rattle.fx_c_types.specs.declared.program.SourceFile.{SourceFile}
use Rattle.fx_c_types.specs.WellTyped.{WellTyped}
use Rattle.fx_c_types_texts_law.specs.Texts.{AreFilesOf}
use Rattle.fx_linker_law.specs.Premises.{ArePairs, IsGiven}
use Rattle.fx_cmd_load.specs.Loading.{HasFewParts}
use Rattle.fx_cmd_load.specs.Programs.{IsProgramOf}

-- each global's writers are some of its readers, and those are compartments
abbrev pub GrantsArePairs : Type 0
GrantsArePairs =
    (p : TProgram) (k : Config) (g : Grants) → 0 < length k.compartments → resolved p k ≡ Ok g
    → ArePairs (length k.compartments) g.globals

-- the functions of a program have C names
abbrev pub HasFunctionNames : TProgram → Type 0
HasFunctionNames p = All (λ (f : TFunction). IsTrue (image.is_c_name f.name)) p.functions

-- globals and functions have C names, and no two globals have one name
pub record HasNames (p : TProgram) : Type 0 where
  pub globals : All (λ (v : TGlobal). IsTrue (image.is_c_name v.name)) p.globals
  pub distinct : IsTrue (image.is_distinct_by (λ (a b : TGlobal). bytes_eq a.name b.name) p.globals)
  pub functions : HasFunctionNames p

-- so they have in a checked program whose files are the trees of texts
abbrev pub WrittenProgramsHaveNames : Type 0
WrittenProgramsHaveNames =
    (texts : List (List ℕ)) (files : List SourceFile) (p : TProgram)
    → AreFilesOf texts files → WellTyped files p → HasNames p

-- what is loaded and granted has what its image asks of it
abbrev pub ConfiguredProgramsAreGiven : Type 0
ConfiguredProgramsAreGiven =
    (name : List ℕ) (held : Option Held) (p : TProgram) (g : Grants) (k : Config)
    → IsProgramOf name held k p → HasFewParts k → resolved p k ≡ Ok g
    → IsGiven p g k × HasFunctionNames p
