use Rattle.std.proofs.Common.{◌≡◌, ◌∙◌, ap, sym, length, arith}
use Rattle.fx_c_types_rules.specs.Structs.{place_32}
use Rattle.fx_c_types_heads.proofs.Fields.{length-struct_trees}
use Rattle.fx_c_types_heads.proofs.heads.Heads.declared.Goals as goal

pub returns : goal.returns
returns c =
    let structs = c.args.self.now.structs in
    let e : c.len.result ≡ length structs.items = omega (arith, structs.ok.0, c.len.ensures) in
    c.place_32.ensures ∙ ap place_32 (e ∙ sym (length-struct_trees structs.items))
