use Rattle.std.proofs.Common.{◌≡◌, ◌<◌, ◌+◌, ◌∙◌, ap, sym, drop, arith}
use Rattle.fx_c_ast.specs.declared.layout.Layout.{Layout}
use Rattle.fx_c_ast.specs.CheckedTrees.{ty_tree, member_types}
use Rattle.fx_c_ast.specs.Layout.{members_end, type_layout, round_up}
use Rattle.fx_c_ast.proofs.Layouts.{next_member}
use Rattle.fx_c_types_heads.specs.Sizes.{known}
use Rattle.fx_c_types_heads.proofs.Sized.{large_end, large_member}
use Rattle.fx_c_types_heads.proofs.sizes.struct_within.Goals as goal

pub returns-in-None : goal.returns-in-None
returns-in-None c =
    let ls = c.args.layouts.now in
    let ms = c.args.members.now in
    let i = c.loop-member.member-index in
    let m = c.member-item.result in
    let e = next_member ms i m c.loop-member-test.true c.member-item.is in
    large_member ls c.requires.known c.loop-member.end (ty_tree m.ty) (member_types (drop (i + 1) ms)) (member_types ms) (ap (members_end (known ls) c.loop-member.end) (sym e) ∙ c.loop-member.invariant.end) c.in-None.ensures

pub returns-then-end-gt-LARGEST : goal.returns-then-end-gt-LARGEST
returns-then-end-gt-LARGEST c =
    let ls = c.args.layouts.now in
    let ms = c.args.members.now in
    let i = c.loop-member.member-index in
    let m = c.member-item.result in
    let e = next_member ms i m c.loop-member-test.true c.member-item.is in
    let l = type_layout (known ls) (ty_tree m.ty) in
    let a = ap (λ (x : Layout). round_up c.loop-member.end x.align) c.in-Some.ensures.0 in
    let s = ap (λ (x : Layout). x.size) c.in-Some.ensures.0 in
    let large : 67108864 < round_up c.loop-member.end l.align + l.size = omega (arith, a, s, c.next_multiple.ensures, c.if-end-gt-LARGEST.true) in
    large_end ls c.requires.known c.loop-member.end (ty_tree m.ty) (member_types (drop (i + 1) ms)) (member_types ms) (ap (members_end (known ls) c.loop-member.end) (sym e) ∙ c.loop-member.invariant.end) large
