use Rattle.std.proofs.Common.{◌≡◌, ◌∙◌, sym, ap, arith, [], length, Ok}
use Rattle.std.proofs.lemmas.Result.{err_from_is_err_and}
use Rattle.fx_c_types_heads.specs.Heads.{no_heads}
use Rattle.fx_c_types_heads.specs.HeadsView.{heads_tree}
use Rattle.fx_c_types.specs.Programs.{tags_of, heads_of, no_bodies, bodies_of}
use Rattle.fx_c_types.specs.ProgramView.{declarations, placed_trees, bodies_tree}
use Rattle.fx_c_types.proofs.Lists.{length-placed_trees}
use Rattle.fx_c_types.proofs.Starts.{heads_done, bodies_refused, main_refused}
use Rattle.fx_c_types.proofs.program.check.Goals as goal

pub heads_of-requires : goal.heads_of-requires
heads_of-requires c =
    let count : length (placed_trees c.in_ok-all.all.items) ≡ length c.in_ok-all.all.items = length-placed_trees c.in_ok-all.all.items in
    let same : length (placed_trees c.in_ok-all.all.items) ≡ length (declarations c.args.files.now) = ap length c.in_ok-all.ensures in
    rw c.deref-2.ensures.value (omega arith)

pub bodies_of-requires : goal.bodies_of-requires
bodies_of-requires c =
    let count : length (placed_trees c.in_ok-all.all.items) ≡ length c.in_ok-all.all.items = length-placed_trees c.in_ok-all.all.items in
    let same : length (placed_trees c.in_ok-all.all.items) ≡ length (declarations c.args.files.now) = ap length c.in_ok-all.ensures in
    rw c.deref-3.ensures.value (omega arith)

pub returns-in_err-bodies : goal.returns-in_err-bodies
returns-in_err-bodies c =
    let p = err_from_is_err_and c.from_residual-in_err-bodies.result c.from_residual-in_err-bodies.ensures.1 in
    let all = placed_trees c.in_ok-all.all.items in
    let h = heads_tree c.in_ok-heads.heads in
    let tags : c.in_ok-tags.tags ≡ tags_of [] all = c.in_ok-tags.ensures ∙ ap (λ ps. tags_of [] (placed_trees ps)) c.deref.ensures.value in
    let made : heads_of 0 (no_heads c.in_ok-tags.tags) all ≡ Ok h = ap (λ ps. heads_of 0 (no_heads c.in_ok-tags.tags) (placed_trees ps)) (sym c.deref-2.ensures.value) ∙ c.in_ok-heads.ensures in
    let behind = heads_done (declarations c.args.files.now) all c.in_ok-tags.tags h c.in_ok-all.ensures tags made in
    rw (p.1, p.2) (λ e. behind ∙ bodies_refused h all c.in_err-bodies.field-0.0 (ap (λ ps. bodies_of 0 h no_bodies (placed_trees ps)) (sym c.deref-3.ensures.value) ∙ c.in_err-bodies.ensures e))

pub returns-in_err-main : goal.returns-in_err-main
returns-in_err-main c =
    let p = err_from_is_err_and c.from_residual-in_err-main.result c.from_residual-in_err-main.ensures.1 in
    let all = placed_trees c.in_ok-all.all.items in
    let h = heads_tree c.in_ok-heads.heads in
    let b = bodies_tree c.in_ok-bodies.bodies in
    let tags : c.in_ok-tags.tags ≡ tags_of [] all = c.in_ok-tags.ensures ∙ ap (λ ps. tags_of [] (placed_trees ps)) c.deref.ensures.value in
    let made : heads_of 0 (no_heads c.in_ok-tags.tags) all ≡ Ok h = ap (λ ps. heads_of 0 (no_heads c.in_ok-tags.tags) (placed_trees ps)) (sym c.deref-2.ensures.value) ∙ c.in_ok-heads.ensures in
    let behind = heads_done (declarations c.args.files.now) all c.in_ok-tags.tags h c.in_ok-all.ensures tags made in
    let bodies : bodies_of 0 h no_bodies all ≡ Ok b = ap (λ ps. bodies_of 0 h no_bodies (placed_trees ps)) (sym c.deref-3.ensures.value) ∙ c.in_ok-bodies.ensures in
    rw (p.1, p.2) (λ e. behind ∙ main_refused h all b c.in_err-main.field-0.0 bodies (c.in_err-main.ensures e))
