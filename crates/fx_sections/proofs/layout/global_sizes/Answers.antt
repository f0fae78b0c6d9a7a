use Rattle.std.proofs.Common.{◌≡◌, ◌∙◌, ℕ, ◌+◌, ◌<◌, ◌≤◌, ◌∷◌, ◌++◌, [], All, length, drop, get_or, sym, ap, subst, arith}
use Rattle.std.proofs.lemmas.List.{length_push}
use Rattle.std.proofs.lemmas.List.Elements.{All-push}
use Rattle.fx_c_ast.specs.CheckedTrees.{ty_tree, struct_types}
use Rattle.fx_c_ast.specs.Layout.{known_layouts, IsSized}
use Rattle.fx_c_ast.specs.declared.checked.TGlobal.{TGlobal}
use Rattle.fx_c_ast.proofs.Layouts.{size_small}
use Rattle.fx_grants.specs.declared.grants.Pair.{Pair}
use Rattle.fx_sections.specs.declared.regions.GlobalSize.{GlobalSize}
use Rattle.fx_sections.specs.Placement.{sized}
use Rattle.fx_sections.proofs.Offsets.{sized_step, section_within}
use Rattle.fx_sections.proofs.layout.global_sizes.Goals as goal

pub loop-i-preserved : goal.loop-i-preserved
loop-i-preserved c =
    let ss = struct_types c.args.p.now.structs in
    let gs = c.as_slice-global-items.result.now in
    let i = c.loop-i.i in
    let none : Pair = record { readers = 0; writers = 0 } in
    let o : GlobalSize = record { section = c.section_of.result; size = c.size_of-size.result } in
    let small : GlobalSize → Type 0 = λ (x : GlobalSize). x.size ≤ 67108864 in
    let there : GlobalSize → Type 0 = λ (x : GlobalSize). x.section < length c.args.pairs.now.keys in
    let within : i < length c.args.of.now = omega (arith, c.requires.same, ap length c.as_slice-global-items.ensures, c.loop-i-test.true) in
    let is_sized : IsSized (known_layouts ss) (length c.args.p.now.structs) (ty_tree c.global-item.result.ty) =
    subst (λ (v : TGlobal). IsSized (known_layouts ss) (length c.args.p.now.structs) (ty_tree v.ty)) (sym c.global-item.is)
    (subst (λ l. All (λ (v : TGlobal). IsSized (known_layouts ss) (length c.args.p.now.structs) (ty_tree v.ty)) l) (sym c.as_slice-global-items.ensures) c.requires.globals i c.global-item.result c.loop-i-test.true) in
    let fits : c.size_of-size.result ≤ 67108864 = subst (λ n. n ≤ 67108864) (sym c.size_of-size.ensures) (size_small (known_layouts ss) (length c.args.p.now.structs) (ty_tree c.global-item.result.ty) is_sized) in
    let inside : c.section_of.result < length c.args.pairs.now.keys = subst (λ n. n < length c.args.pairs.now.keys) (sym c.section_of.ensures) (section_within c.args.pairs.now.keys (get_or c.args.of.now i none) c.requires.some) in
    record {
      sized = ap (λ l. l ++ sized ss c.args.pairs.now.keys (drop (i + 1) gs) (drop (i + 1) c.args.of.now)) c.in_ok-push.ensures.items ∙ sized_step ss c.args.pairs.now.keys gs c.args.of.now i c.global-item.result none o c.loop-i.found.items _ c.loop-i-test.true c.global-item.is within c.section_of.ensures c.size_of-size.ensures c.loop-i.invariant.sized;
      small = subst (All small) (sym c.in_ok-push.ensures.items) (All-push small c.loop-i.found.items o c.loop-i.invariant.small fits);
      there = subst (All there) (sym c.in_ok-push.ensures.items) (All-push there c.loop-i.found.items o c.loop-i.invariant.there inside);
      count = ap length c.in_ok-push.ensures.items ∙ length_push c.loop-i.found.items o ∙ ap (λ n. n + 1) c.loop-i.invariant.count;
    }
