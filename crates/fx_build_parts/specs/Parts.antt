-- The parts of the image of a checked program under plain calls.
use Rattle.std.specs.Prelude.{◌≡◌, ◌<◌, ◌≤◌, ◌^◌, All, List, length, map}
use Rattle.fx_config.specs.declared.configuration.Config.{Config}
use Rattle.fx_config.specs.declared.configuration.Mechanism.TheVariants.{Call}
use Rattle.fx_c_ast.specs.declared.checked.TGlobal.{TGlobal}
use Rattle.fx_c_ast.specs.declared.checked.TProgram.{TProgram}
use Rattle.fx_c_ast.specs.CheckedTrees.{ty_tree, struct_types}
use Rattle.fx_c_ast.specs.Layout.{known_layouts, IsSized}
use Rattle.fx_c_mean_model.specs.Programs.{program_of}
use Rattle.fx_c_lin.specs.Ops.{Step}
use Rattle.fx_c_lower_model.specs.Code.{code_of}
use Rattle.fx_grants.specs.declared.grants.FunctionGrants.{FunctionGrants}
use Rattle.fx_grants.specs.declared.grants.Grants.{Grants}
use Rattle.fx_sections.specs.declared.placement.Placement.{Placement}
use Rattle.fx_shadow.specs.Frames.{HasFrames}
use Rattle.fx_match_rel.specs.Addresses.{addresses_of}
use Rattle.fx_gates_call.specs.Runtime.{runtime_pieces, runtime_map}
use Rattle.fx_linker.specs.declared.parts.PartSpot.{PartSpot}
use Rattle.fx_linker.specs.declared.parts.Parts.{Parts}
use Rattle.fx_linker.specs.Entries.{entry_numbers_of}
use Rattle.fx_build_parts.specs.declared.plan.Plan.{Plan}
use Rattle.fx_build_parts.specs.Ranges.{ranges_from, all_begins_from, all_records_from, spots_from}

-- the functions in their compartments, none of which is placed yet
abbrev pub first_spots : Grants → List PartSpot
first_spots g =
    map (λ (f : FunctionGrants). record { compartment = f.compartment; piece = 0 }) g.functions

abbrev pub plan_of : TProgram → Grants → Placement → Config → Plan
plan_of p g at k = record {
  at = addresses_of p at k;
  spots = first_spots g;
  numbers = entry_numbers_of p (first_spots g);
}

-- the parts that functions with this code become
abbrev pub parts_with : TProgram → Plan → List (List Step) → Placement → Config → Parts
parts_with p plan code at k = record {
  ranges = ranges_from p plan code 0 k.compartments;
  spots = spots_from (all_begins_from p plan code 0 k.compartments) 0 plan.spots;
  runtime = runtime_pieces p at k 0;
  map = runtime_map p at k 0;
  entries = all_records_from p plan k 0 k.compartments;
}

abbrev pub parts_of : TProgram → Grants → Placement → Config → Parts
parts_of p g at k = parts_with p (plan_of p g at k) (code_of (program_of p)) at k

-- A checked program with its placement, under plain calls: its frames and its globals have sizes,
-- and there is no more of anything than sources and documents can have.
pub record IsBuildable (p : TProgram) (at : Placement) (k : Config) : Type 0 where
  pub plain : k.mechanism ≡ Call
  pub frames : HasFrames p
  pub globals : All (λ (v : TGlobal).
      IsSized (known_layouts (struct_types p.structs)) (length p.structs) (ty_tree v.ty)) p.globals
  pub functions : length p.functions < 2 ^ 32
  pub compartments : length k.compartments ≤ 16
  pub private : length k.compartments ≤ length at.sections
  pub sections : length at.sections ≤ 2 ^ 16
