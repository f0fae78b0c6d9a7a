-- Frames, sections and lengths of a program that was checked, placed and isn't refused.
use Rattle.std.proofs.Common.{◌≡◌, ℕ, ◌≤◌, ◌%◌, List, [], ◌∷◌, length, refl, arith}
use Rattle.std.specs.Prelude.{All, Ok, slice_index_or}
use Rattle.std.proofs.lemmas.List.Elements.{All-nil, All-cons, All-map}
use Rattle.fx_x64_forms.specs.declared.piece.Piece.{Piece}
use Rattle.fx_config.specs.declared.configuration.Config.{Config}
use Rattle.fx_c_ast.specs.declared.layout.Layout.{Layout}
use Rattle.fx_c_ast.specs.declared.checked.TFunction.{TFunction}
use Rattle.fx_c_ast.specs.declared.checked.TProgram.{TProgram}
use Rattle.fx_c_ast.specs.CheckedTrees.{TyTree, struct_types, local_types}
use Rattle.fx_c_ast.specs.Layout.{known_layouts, type_layout}
use Rattle.fx_c_ast.specs.StackUse.{slots_size}
use Rattle.fx_c_types_model.specs.Lowerable.{IsLowerable}
use Rattle.fx_grants.specs.declared.grants.Grants.{Grants}
use Rattle.fx_sections.specs.declared.placement.PlacedSection.{PlacedSection}
use Rattle.fx_sections.specs.declared.placement.Placement.{Placement}
use Rattle.fx_sections.specs.Placement.{IsPlaceable, placed}
use Rattle.fx_sections_law.proofs.Bounds.{section_within}
use Rattle.fx_shadow.specs.Frames.{HasFrame}
use Rattle.fx_linker.specs.Places.{pieces_size, ranges_size}
use Rattle.fx_linker_law.proofs.Lengths.{page_least, spelling_some}
use Rattle.fx_match_rel.specs.Addresses.{addresses_of}
use Rattle.fx_match_rel.specs.Frames.{table_of}
use Rattle.fx_match_rel.proofs.Slots.{near_from}
use Rattle.fx_build_parts.specs.Parts.{IsBuildable}
use Rattle.fx_templates_quiet_law.specs.Quiet.{IsPlainFrame, ArePlain}

-- ---- frames

slots_even : (known : ℕ → Layout) (ts : List TyTree) → slots_size known ts % 8 ≡ 0
slots_even known [] = refl
slots_even known (t ∷ ts) =
    let size = (type_layout known t).size in
    let rest = slots_even known ts in
    omega arith

pub plain : (p : TProgram) (at : Placement) (k : Config) → IsBuildable p at k → IsLowerable p
    → k.stack_pages ≤ 64 → ArePlain (addresses_of p at k)
plain p at k b lowerable pages =
    let structs = struct_types p.structs in
    record {
      frames = All-map IsPlainFrame (table_of structs) p.functions
          (λ j d less. frame (slice_index_or p.functions j d) (b.frames.functions j d less)
          (lowerable.functions j d less).few_params);
      pages = pages;
      compartments = b.compartments;
    }
  where
    frame : (f : TFunction) → HasFrame p.structs f → f.params ≤ 6
        → IsPlainFrame (table_of (struct_types p.structs) f)
    frame f is few =
        let structs = struct_types p.structs in
        record {
          frame = record {
            size = refl;
            small = is.small;
            slots = near_from structs 0 f.locals (omega (arith, is.small));
          };
          params = few;
          even = slots_even (known_layouts structs) (local_types f.locals);
        }

-- ---- sections

pub sections_low : (p : TProgram) (g : Grants) (k : Config) (at : Placement) → IsPlaceable p g k
    → placed p g k ≡ Ok at → All (λ (s : PlacedSection). s.page ≤ 1048576) at.sections
sections_low p g k at has is i d less =
    let within = section_within p g k at has is i less d in
    omega (arith, within.1)

-- ---- lengths

pieces_least : (ps : List Piece) → length ps ≤ pieces_size ps
pieces_least [] = omega arith
pieces_least (p ∷ ps) = omega (arith, spelling_some p.inst, pieces_least ps)

pub ranges_few : (n : ℕ) (rs : List (List Piece)) → ranges_size rs ≤ n
    → All (λ (r : List Piece). length r ≤ n) rs
ranges_few n [] few = All-nil (λ (r : List Piece). length r ≤ n)
ranges_few n (r ∷ rs) few =
    All-cons (λ (q : List Piece). length q ≤ n) r rs
    (omega (arith, pieces_least r, page_least (pieces_size r)))
    (ranges_few n rs (omega arith))
