-- What the image of parts asks of them, beside that no instruction of theirs spells WRPKRU, and the
-- parts of a program's image have.
use Rattle.std.specs.Prelude.{◌≡◌, ◌<◌, IsTrue, [], All, length}
use Rattle.fx_config.specs.declared.configuration.Config.{Config}
use Rattle.fx_c_ast.specs.declared.checked.TFunction.{TFunction}
use Rattle.fx_c_ast.specs.declared.checked.TProgram.{TProgram}
use Rattle.fx_grants.specs.declared.grants.FunctionGrants.{FunctionGrants}
use Rattle.fx_grants.specs.declared.grants.Grants.{Grants}
use Rattle.fx_grants.specs.GrantSets.{grants_of}
use Rattle.fx_sections.specs.declared.placement.Placement.{Placement}
use Rattle.fx_x64_forms.specs.declared.piece.Piece.{Piece}
use Rattle.fx_image.specs.Rules as image
use Rattle.fx_linker.specs.declared.parts.Parts.{Parts}
use Rattle.fx_linker.specs.Linked.{parts_layout, outer_reach}
use Rattle.fx_linker_law.specs.Premises.{IsMade, IsShort, HasEntries, HasTables, LeadsInto}
use Rattle.fx_build_parts.specs.Parts.{parts_of, IsBuildable}

-- each function of a program is in one of the compartments
pub record HasHomes (p : TProgram) (g : Grants) (k : Config) : Type 0 where
  pub same : length g.functions ≡ length p.functions
  pub within : All (λ (f : FunctionGrants). f.compartment < length k.compartments) g.functions

-- A program with its grants: `main` is there, the functions have C names, and each is in one of the
-- compartments.
pub record HasFunctions (p : TProgram) (g : Grants) (k : Config) : Type 0 where
  pub main : p.main < length p.functions
  pub names : All (λ (f : TFunction). IsTrue (image.is_c_name f.name)) p.functions
  pub homes : HasHomes p g k

-- each function that the runtime leads to has its jump no further than the code goes
abbrev pub LeadsInside : Parts → TProgram → Type 0
LeadsInside parts p =
    All (λ (q : Piece). LeadsInto (outer_reach parts p (parts_layout parts)).functions
    (parts_layout parts).size q.target) parts.runtime

-- What an image of one rights domain asks of its parts, whatever their instructions spell.
pub record IsWhole (parts : Parts) (p : TProgram) (k : Config) : Type 0 where
  pub made : IsMade parts p k
  pub inside : LeadsInside parts p
  pub entries : HasEntries parts k
  pub tables : HasTables parts
  pub stubs : parts.map.stubs ≡ []

-- the parts of a program, where their code has no more bytes than an image may have
abbrev pub PartsAreWhole : Type 0
PartsAreWhole =
    (p : TProgram) (g : Grants) (at : Placement) (k : Config) → IsBuildable p at k
    → HasFunctions p g k → IsShort (parts_of p g at k) → IsWhole (parts_of p g at k) p k

-- what a configuration of one compartment or more grants
abbrev pub GrantsGiveHomes : Type 0
GrantsGiveHomes =
    (p : TProgram) (k : Config) → 0 < length k.compartments → HasHomes p (grants_of p k) k
