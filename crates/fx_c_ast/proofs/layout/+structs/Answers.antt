use Rattle.std.proofs.Common.{◌≡◌, ◌∙◌, ℕ, ◌^◌, rules, ◌+◌, ◌*◌, ◌≤◌, ◌<◌, drop, length, refl, sym, ap, subst, arith, lit≤}
use Rattle.fx_c_ast.specs.CheckedTrees.{ty_tree, member_types, struct_types}
use Rattle.fx_c_ast.specs.Elements.{element_of, IsElement, IsScaled}
use Rattle.fx_c_ast.specs.declared.layout.Layout.{Layout}
use Rattle.fx_c_ast.specs.Layout.{known_layouts, members_end, greatest_align, type_layout, members_layout, round_up, IsSized, AreSized}
use Rattle.fx_c_ast.proofs.Layouts.{rank, begins, end_small, next_member, member_is, element_sized, element_is, more_bound, scales, rank_below, aligns, end_grows, end_next, greatest_next, all_read}
use Rattle.fx_c_ast.proofs.layout.+structs.Goals as goal

pub struct_layout-loop-member-init : goal.struct_layout-loop-member-init
struct_layout-loop-member-init t c =
    let known = known_layouts (struct_types c.args.structs.now) in
    let ms = c.as_slice-member-items.result.now in
    let b = begins c.args.structs.now c.args.n c.index-structs-n.result ms c.requires.structs c.requires.there c.index-structs-n.is c.as_slice-member-items.ensures in
    let small : (members_layout known (member_types ms)).size ≤ 67108864 = subst (λ (l : Layout). l.size ≤ 67108864) b.0 c.requires.small in
    record { end = refl; greatest = refl; sized = b.1; small = end_small known (member_types ms) small; positive = lit≤ tt; bounded = lit≤ tt }

pub struct_layout-element_layout-requires : goal.struct_layout-element_layout-requires
struct_layout-element_layout-requires t c =
    let known = known_layouts (struct_types c.args.structs.now) in
    let ms = c.as_slice-member-items.result.now in
    let of = ty_tree c.member-item.result.ty in
    let e = next_member ms c.loop-member.member-index c.member-item.result c.loop-member-test.true c.member-item.is in
    let is = subst (λ ts. AreSized known c.args.n ts) e c.loop-member.invariant.sized in
    let less : rank (ty_tree c.element.result.now) < 2 * c.args.n + 1 = subst (λ x. rank x < 2 * c.args.n + 1) (sym c.element.ensures) (rank_below known c.args.n of is.0) in
    let sized : IsSized known (length c.args.structs.now) (ty_tree c.element.result.now) = subst (λ x. IsSized known (length c.args.structs.now) x) (sym c.element.ensures) (more_bound known c.args.n (length c.args.structs.now) (element_of of) (omega (arith, c.requires.there)) (element_sized known c.args.n of is.0)) in
    (search (rules, less), (c.requires.structs, (sized, subst IsElement (sym c.element.ensures) (element_is of))))

pub struct_layout-repeated-inner-requires : goal.struct_layout-repeated-inner-requires
struct_layout-repeated-inner-requires t c =
    let known = known_layouts (struct_types c.args.structs.now) in
    let ms = c.as_slice-member-items.result.now in
    let of = ty_tree c.member-item.result.ty in
    let e = next_member ms c.loop-member.member-index c.member-item.result c.loop-member-test.true c.member-item.is in
    let is = subst (λ ts. AreSized known c.args.n ts) e c.loop-member.invariant.sized in
    subst (λ (l : Layout). IsScaled l of) (sym (c.element_layout.ensures.layout ∙ ap (type_layout known) c.element.ensures)) (scales known c.args.n of is.0)

pub struct_layout-next_multiple-requires-clause-small : goal.struct_layout-next_multiple-requires-clause-small
struct_layout-next_multiple-requires-clause-small t c = omega (arith, c.loop-member.invariant.end, end_grows (struct_types c.args.structs.now) c.loop-member.end (member_types (drop c.loop-member.member-index c.as_slice-member-items.result.now)))

pub struct_layout-next_multiple-requires-clause-positive : goal.struct_layout-next_multiple-requires-clause-positive
struct_layout-next_multiple-requires-clause-positive t c =
    let e = ap (λ (l : Layout). l.align) c.repeated-inner.ensures ∙ aligns c.element_layout.result (ty_tree c.member-item.result.ty) in
    subst (λ n. 1 ≤ n) (sym e) c.element_layout.ensures.positive

pub struct_layout-next_multiple-requires-clause-bounded : goal.struct_layout-next_multiple-requires-clause-bounded
struct_layout-next_multiple-requires-clause-bounded t c =
    let e = ap (λ (l : Layout). l.align) c.repeated-inner.ensures ∙ aligns c.element_layout.result (ty_tree c.member-item.result.ty) in
    subst (λ n. n ≤ 8) (sym e) c.element_layout.ensures.bounded

pub struct_layout-overflow_add-end : goal.struct_layout-overflow_add-end
struct_layout-overflow_add-end t c =
    let known = known_layouts (struct_types c.args.structs.now) in
    let ms = c.as_slice-member-items.result.now in
    let of = ty_tree c.member-item.result.ty in
    let e = next_member ms c.loop-member.member-index c.member-item.result c.loop-member-test.true c.member-item.is in
    let inner = c.repeated-inner.ensures ∙ member_is known c.element_layout.result of (ty_tree c.element.result.now) c.element_layout.ensures.layout c.element.ensures in
    let rest = member_types (drop (c.loop-member.member-index + 1) ms) in
    let sum : ℕ = round_up c.loop-member.end c.repeated-inner.result.align + c.repeated-inner.result.size in
    let ends : members_end known sum rest ≡ members_end known 0 (member_types ms) = end_next known c.loop-member.end (members_end known 0 (member_types ms)) ms c.loop-member.member-index c.member-item.result c.repeated-inner.result inner e c.loop-member.invariant.end in
    let grows : sum ≤ members_end known sum rest = end_grows (struct_types c.args.structs.now) sum rest in
    let small : sum ≤ 67108864 = omega (arith, c.loop-member.invariant.small) in
    let fits : c.next_multiple.result + c.repeated-inner.result.size < 2 ^ 64 = omega (arith, c.next_multiple.ensures) in
    search (rules, fits)

pub struct_layout-loop-member-preserved : goal.struct_layout-loop-member-preserved
struct_layout-loop-member-preserved t c =
    let known = known_layouts (struct_types c.args.structs.now) in
    let ms = c.as_slice-member-items.result.now in
    let m = c.member-item.result in
    let of = ty_tree c.member-item.result.ty in
    let e = next_member ms c.loop-member.member-index c.member-item.result c.loop-member-test.true c.member-item.is in
    let is = subst (λ ts. AreSized known c.args.n ts) e c.loop-member.invariant.sized in
    let inner = c.repeated-inner.ensures ∙ member_is known c.element_layout.result of (ty_tree c.element.result.now) c.element_layout.ensures.layout c.element.ensures in
    let a = ap (λ (l : Layout). l.align) c.repeated-inner.ensures ∙ aligns c.element_layout.result of in
    record {
      end = ap (λ n. members_end known (n + c.repeated-inner.result.size) (member_types (drop (c.loop-member.member-index + 1) ms))) c.next_multiple.ensures ∙ end_next known c.loop-member.end (members_end known 0 (member_types ms)) ms c.loop-member.member-index m c.repeated-inner.result inner e c.loop-member.invariant.end;
      greatest = ap (λ n. greatest_align known n (member_types (drop (c.loop-member.member-index + 1) ms))) c.max-align.ensures ∙ greatest_next known c.loop-member.align (greatest_align known 1 (member_types ms)) ms c.loop-member.member-index m c.repeated-inner.result inner e c.loop-member.invariant.greatest;
      sized = is.1;
      small = c.loop-member.invariant.small;
      positive = omega (arith, c.max-align.ensures, c.loop-member.invariant.positive);
      bounded = omega (arith, c.max-align.ensures, c.loop-member.invariant.bounded, a, c.element_layout.ensures.bounded);
    }

pub struct_layout-returns-clause-layout : goal.struct_layout-returns-clause-layout
struct_layout-returns-clause-layout t c =
    let known = known_layouts (struct_types c.args.structs.now) in
    let ms = c.as_slice-member-items.result.now in
    let b = begins c.args.structs.now c.args.n c.index-structs-n.result ms c.requires.structs c.requires.there c.index-structs-n.is c.as_slice-member-items.ensures in
    let none = all_read ms c.loop-member.member-index c.loop-member-test.false in
    let ends = subst (λ ts. members_end known c.loop-member.end ts ≡ members_end known 0 (member_types ms)) none c.loop-member.invariant.end in
    let aligned = subst (λ ts. greatest_align known c.loop-member.align ts ≡ greatest_align known 1 (member_types ms)) none c.loop-member.invariant.greatest in
    ap (λ n. record { size = n; align = c.loop-member.align }) c.next_multiple-2.ensures
    ∙ ap (λ n. record { size = round_up n c.loop-member.align; align = c.loop-member.align }) ends
    ∙ ap (λ n. record { size = round_up (members_end known 0 (member_types ms)) n; align = n }) aligned
    ∙ sym b.0
