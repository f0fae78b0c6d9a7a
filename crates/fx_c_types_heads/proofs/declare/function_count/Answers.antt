use Rattle.std.proofs.Common.{◌≡◌, ◌∙◌, ap, sym, length, arith}
use Rattle.fx_c_types_rules.specs.Structs.{place_32}
use Rattle.fx_c_types_heads.proofs.Lists.{length-function_heads}
use Rattle.fx_c_types_heads.proofs.declare.function_count.Goals as goal

pub returns : goal.returns
returns c =
    let functions = c.args.heads.now.functions in
    let e : c.len.result ≡ length functions.items = omega (arith, functions.ok.0, c.len.ensures) in
    c.place_32.ensures ∙ ap place_32 (e ∙ sym (length-function_heads functions.items))
