use Rattle.std.proofs.Common.{◌≡◌, ◌∙◌, ap, sym, length, arith}
use Rattle.fx_c_types_rules.specs.Structs.{place_32}
use Rattle.fx_c_types_heads.proofs.Lists.{length-global_heads}
use Rattle.fx_c_types_heads.proofs.declare.global_count.Goals as goal

pub returns : goal.returns
returns c =
    let globals = c.args.heads.now.globals in
    let e : c.len.result ≡ length globals.items = omega (arith, globals.ok.0, c.len.ensures) in
    c.place_32.ensures ∙ ap place_32 (e ∙ sym (length-global_heads globals.items))
