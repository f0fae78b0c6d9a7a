use Rattle.std.proofs.Common.{◌≡◌, ◌∙◌, ap, sym, length, arith}
use Rattle.fx_c_types_rules.specs.Structs.{place_32}
use Rattle.fx_c_types_bodies.proofs.Items.{length-local_trees}
use Rattle.fx_c_types_bodies.proofs.scope.Body.local_count.Goals as goal

pub returns : goal.returns
returns c =
    let locals = c.args.self.now.locals in
    let e : c.len.result ≡ length locals.items = omega (arith, locals.ok.0, c.len.ensures) in
    c.place_32.ensures ∙ ap place_32 (e ∙ sym (length-local_trees locals.items))
