-- Members end within their struct.
use Rattle.std.proofs.Common.{◌≡◌, ℕ, zero, suc, ◌+◌, ◌<◌, ◌≤◌, List, [], ◌∷◌, length, ap, arith}
use Rattle.std.specs.Prelude.{take, slice_index_or}
use Rattle.fx_c_ast.specs.declared.layout.Layout.{Layout}
use Rattle.fx_c_ast.specs.CheckedTrees.{TyTree, VoidTy}
use Rattle.fx_c_ast.specs.Layout.{round_up, members_end, greatest_align, members_layout, known_layouts, layout_of, StructsAreSized}
use Rattle.fx_c_ast.specs.Members.{member_place}
use Rattle.fx_c_ast.proofs.Layouts.{greatest_from, round_from, end_grows, struct_is}
use Rattle.fx_c_types_model.specs.Lowerable.{MembersLieInside}

-- the end of so many members and the next one is no more than that of all
member_ends : (ss : List (List TyTree)) (at : ℕ) (ts : List TyTree) (k : ℕ) → k < length ts → round_up (members_end (known_layouts ss) at (take k ts)) (layout_of ss (slice_index_or ts k VoidTy)).align + (layout_of ss (slice_index_or ts k VoidTy)).size ≤ members_end (known_layouts ss) at ts
member_ends ss at [] k less = absurd (omega (arith, less))
member_ends ss at (t ∷ ts) zero less = end_grows ss (round_up at (layout_of ss t).align + (layout_of ss t).size) ts
member_ends ss at (t ∷ ts) (suc k) less = member_ends ss (round_up at (layout_of ss t).align + (layout_of ss t).size) ts k (omega (arith, less))

pub members_inside : (ss : List (List TyTree)) → StructsAreSized ss → MembersLieInside ss
members_inside ss sized n k there less =
    let ts : List TyTree = slice_index_or ss n [] in
    let f : ℕ → Layout = known_layouts ss in
    let member : member_place f ts k + (layout_of ss (slice_index_or ts k VoidTy)).size ≤ members_end f 0 ts = member_ends ss 0 ts k less in
    let whole : members_end f 0 ts ≤ (members_layout f ts).size = round_from (members_end f 0 ts) (greatest_align f 1 ts) (greatest_from f 1 ts) in
    let same : (f n).size ≡ (members_layout f ts).size = ap (λ (l : Layout). l.size) (struct_is ss n sized there) in
    omega (arith, member, whole, same)
