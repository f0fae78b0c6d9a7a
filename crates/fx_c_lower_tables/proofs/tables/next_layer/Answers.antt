use Rattle.std.proofs.Common.{◌≡◌, ◌<◌, List, [], ◌∷◌, ◌++◌, length, ap, sym, ◌∙◌, arith}
use Rattle.fx_c_ast.specs.declared.layout.Layout.{Layout}
use Rattle.fx_c_ast.specs.Layout.{members_layout}
use Rattle.fx_c_ast.specs.CheckedTrees.{TyTree, member_types}
use Rattle.fx_c_mean_control.specs.Tables.{looked_up}
use Rattle.fx_c_lower_tables.proofs.Rounds.{types_more}
use Rattle.fx_c_lower_tables.proofs.tables.next_layer.Goals as goal

pub loop-of-preserved : goal.loop-of-preserved
loop-of-preserved c =
    let f : List TyTree → Layout = members_layout (looked_up c.args.table.now) in
    let l : c.loop-of.of-index < length c.args.structs.now = omega arith in
    let more = types_more f c.args.structs.now c.loop-of.of-index c.of-item.result l c.of-item.is in
    let is : c.in-Some.layout ≡ f (member_types c.of-item.result.members) = c.in-Some.ensures ∙ ap (λ ms. f (member_types ms)) c.as_slice.ensures in
    let pushed : c.push.new.self.items ≡ c.loop-of.next.items ++ c.in-Some.layout ∷ [] = (c.in_ok-push-in-Some.ensures.items) in
    pushed ∙ ap (λ (x : Layout). c.loop-of.next.items ++ x ∷ []) is ∙ ap (λ (xs : List Layout). xs ++ f (member_types c.of-item.result.members) ∷ []) c.loop-of.invariant ∙ sym more
