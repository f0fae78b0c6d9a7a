-- Parts are those of a program where each of them is.
use Rattle.std.proofs.Common.{◌≡◌, ℕ, List, ap, ◌∙◌}
use Rattle.fx_x64_forms.specs.declared.piece.Piece.{Piece}
use Rattle.fx_c_ast.specs.declared.checked.TProgram.{TProgram}
use Rattle.fx_config.specs.declared.configuration.Config.{Config}
use Rattle.fx_c_lin.specs.Ops.{Step}
use Rattle.fx_sections.specs.declared.placement.Placement.{Placement}
use Rattle.fx_image.specs.declared.forms.EntryRec.{EntryRec}
use Rattle.fx_image_runtime.specs.declared.RuntimeMap.{RuntimeMap}
use Rattle.fx_gates_call.specs.Runtime.{runtime_pieces, runtime_map}
use Rattle.fx_linker.specs.declared.parts.PartSpot.{PartSpot}
use Rattle.fx_linker.specs.declared.parts.Parts.{Parts}
use Rattle.fx_build_parts.specs.declared.plan.Plan.{Plan}
use Rattle.fx_build_parts.specs.Ranges.{ranges_from, all_begins_from, all_records_from, spots_from}
use Rattle.fx_build_parts.specs.Parts.{parts_with}

abbrev whole : List (List Piece) → List PartSpot → List Piece → RuntimeMap → List EntryRec → Parts
whole ranges spots runtime map entries =
    record { ranges = ranges; spots = spots; runtime = runtime; map = map; entries = entries }

pub is_whole : (p : TProgram) (plan : Plan) (code : List (List Step)) (at : Placement) (k : Config)
    → (ranges : List (List Piece)) (begins : List (List ℕ)) (spots : List PartSpot)
    (runtime : List Piece) (map : RuntimeMap) (entries : List EntryRec)
    → ranges ≡ ranges_from p plan code 0 k.compartments
    → begins ≡ all_begins_from p plan code 0 k.compartments
    → spots ≡ spots_from begins 0 plan.spots
    → runtime ≡ runtime_pieces p at k 0
    → map ≡ runtime_map p at k 0
    → entries ≡ all_records_from p plan k 0 k.compartments
    → whole ranges spots runtime map entries ≡ parts_with p plan code at k
is_whole p plan code at k ranges begins spots runtime map entries r b s t m e =
    ap (λ x. whole x spots runtime map entries) r
    ∙ ap (λ x. whole (ranges_from p plan code 0 k.compartments) x runtime map entries)
    (s ∙ ap (λ x. spots_from x 0 plan.spots) b)
    ∙ ap (λ x. whole (ranges_from p plan code 0 k.compartments)
    (spots_from (all_begins_from p plan code 0 k.compartments) 0 plan.spots) x map entries) t
    ∙ ap (λ x. whole (ranges_from p plan code 0 k.compartments)
    (spots_from (all_begins_from p plan code 0 k.compartments) 0 plan.spots)
    (runtime_pieces p at k 0) x entries) m
    ∙ ap (λ x. whole (ranges_from p plan code 0 k.compartments)
    (spots_from (all_begins_from p plan code 0 k.compartments) 0 plan.spots)
    (runtime_pieces p at k 0) (runtime_map p at k 0) x) e
