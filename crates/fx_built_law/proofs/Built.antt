-- What is built meets the rules of an image, by the laws of its parts and of what it is built from.
use Rattle.std.proofs.Common.{◌<◌, length, subst, arith}
use Rattle.fx_c_types_law.specs.Laws.{CheckedProgramsStart}
use Rattle.fx_grants.specs.declared.grants.Grants.{Grants}
use Rattle.fx_linker.specs.declared.parts.Parts.{Parts}
use Rattle.fx_linker_law.specs.Premises.{IsShort, IsBuilt}
use Rattle.fx_linker_law.specs.Laws.{LinkedAreImages}
use Rattle.fx_c_types_model.specs.Lowerable.{IsLowerable}
use Rattle.fx_cmd_load.specs.Programs.{sources_of}
use Rattle.fx_cmd_load_law.specs.Laws.{ConfiguredProgramsAreLowerable}
use Rattle.fx_build_parts.specs.Parts.{parts_of}
use Rattle.fx_built_parts_law.specs.Whole.{HasHomes, HasFunctions, IsWhole, PartsAreWhole}
use Rattle.fx_built_parts_law.specs.Whole.{GrantsGiveHomes}
use Rattle.fx_build_quiet_law.specs.Quiet.{PartsHaveNoKeys, LinkedAreShort}
use Rattle.fx_given_law.specs.Laws.{ConfiguredProgramsAreGiven}
use Rattle.fx_given_law.proofs.Granted.{grants_are}
use Rattle.fx_built_law.specs.Laws.{BuiltIsImage}

-- the laws of what is loaded, and of its parts
pub record Known : Type 0 where
  pub given : ConfiguredProgramsAreGiven
  pub lowerable : ConfiguredProgramsAreLowerable
  pub starts : CheckedProgramsStart
  pub homes : GrantsGiveHomes
  pub whole : PartsAreWhole
  pub keys : PartsHaveNoKeys
  pub short : LinkedAreShort
  pub linked : LinkedAreImages

pub built_image : Known → BuiltIsImage
built_image x name held p g at k i program few granted placeable put buildable is =
    let parts : Parts = parts_of p g at k in
    let given = x.given name held p g k program few granted in
    let sound = given.0.configuration in
    let some : 0 < length k.compartments = omega (arith, sound.scheduler) in
    let homes : HasHomes p g k =
    subst (λ (x : Grants). HasHomes p x k) (grants_are p k g granted) (x.homes p k some) in
    let functions : HasFunctions p g k = record {
      main = (x.starts (sources_of program.0) p program.2).1;
      names = given.1;
      homes = homes;
    } in
    let short : IsShort parts = x.short parts p at k i is in
    let lowerable : IsLowerable p = x.lowerable name held k p program few in
    let has : IsWhole parts p k = x.whole p g at k buildable functions short in
    let built : IsBuilt parts p k = record {
      made = has.made;
      keys = x.keys p g k at buildable lowerable placeable put sound.most short;
      entries = has.entries;
      tables = has.tables;
      stubs = has.stubs;
    } in
    x.linked parts p g k at i given.0 built put is
