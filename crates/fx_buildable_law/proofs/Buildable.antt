-- A checked and placed program can be built.
use Rattle.std.proofs.Common.{◌≡◌, ℕ, ◌<◌, ◌^◌, List, length, Option, Ok, ap, arith}
use Rattle.fx_base.specs.Files.{Held}
use Rattle.fx_config.specs.declared.configuration.Config.{Config}
use Rattle.fx_config.specs.declared.configuration.Mechanism.TheVariants.{Call}
use Rattle.fx_c_ast.specs.declared.checked.TProgram.{TProgram}
use Rattle.fx_grants.specs.declared.grants.Pair.{Pair}
use Rattle.fx_grants.specs.declared.grants.Grants.{Grants}
use Rattle.fx_grants.specs.Refusals.{resolved}
use Rattle.fx_sections.specs.declared.placement.Placement.{Placement}
use Rattle.fx_sections.specs.Placement.{IsPlaceable, program_pairs, program_objects, program_rooms}
use Rattle.fx_sections.specs.Placement.{program_sections, placed}
use Rattle.fx_sections.proofs.Counts.{pairs_few}
use Rattle.fx_sections.proofs.Rooms.{length-rooms_from}
use Rattle.fx_sections_law.proofs.Sections.{length-sections_from}
use Rattle.fx_sections_law.proofs.Privates.{each_has_a_section}
use Rattle.fx_sections_law.proofs.Bounds.{objects_few, placement_is}
use Rattle.fx_c_types.specs.declared.program.SourceFile.{SourceFile}
use Rattle.fx_c_types.specs.ProgramView.{declarations}
use Rattle.fx_c_types.specs.WellTyped.{WellTyped}
use Rattle.fx_c_types_law.proofs.Facts.{accepted_is, framed}
use Rattle.fx_cmd_load.specs.Loading.{HasFewParts}
use Rattle.fx_cmd_load.specs.Programs.{sources_of, IsProgramOf}
use Rattle.fx_cmd_place.specs.Placing.{IsReady}
use Rattle.fx_cmd_place.proofs.Granted.{placeable}
use Rattle.fx_cmd_place.proofs.Ready.{ready}
use Rattle.fx_build_parts.specs.Parts.{IsBuildable}

section_each : (p : TProgram) (g : Grants) (k : Config)
    → length (program_sections p g k) ≡ length (program_pairs g k)
section_each p g k =
    let pairs : List Pair = program_pairs g k in
    length-sections_from k.mechanism 0 0x10000 pairs (program_rooms p g k)
    (length-rooms_from (length k.compartments) (program_objects p g k) 0 (length pairs))

pub placed_buildable : (files : List SourceFile) (p : TProgram) (g : Grants) (at : Placement)
    (k : Config)
    → WellTyped files p → length p.functions < 2 ^ 32
    → IsPlaceable p g k → placed p g k ≡ Ok at → k.mechanism ≡ Call
    → IsBuildable p at k
placed_buildable files p g at k typed functions has is plain =
    let count : length (program_sections p g k) ≡ length at.sections =
    ap (λ (x : Placement). length x.sections) (placement_is p g k at is) in
    let each = section_each p g k in
    let n : ℕ = length k.compartments in
    record {
      plain = plain;
      frames = framed p (length (declarations files)) (accepted_is files p typed);
      globals = has.globals;
      functions = functions;
      compartments = has.compartments;
      private = omega (arith, count, each, each_has_a_section n g.globals);
      sections = omega (
        arith,
        count,
        each,
        pairs_few n g.globals,
        objects_few p g k at is,
        has.same,
        has.compartments,
      );
    }

pub configured_buildable : (name : List ℕ) (held : Option Held) (p : TProgram) (g : Grants)
    (at : Placement) (k : Config)
    → IsProgramOf name held k p → HasFewParts k
    → resolved p k ≡ Ok g → placed p g k ≡ Ok at → k.mechanism ≡ Call
    → IsBuildable p at k
configured_buildable name held p g at k program few granted is plain =
    let fit : IsReady p k = ready name held k p program few in
    placed_buildable (sources_of program.0) p g at k program.2 fit.functions
    (placeable p k g fit granted) is plain
