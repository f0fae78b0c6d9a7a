use Rattle.std.proofs.Common.{◌∙◌, ap, [], ◌∷◌, ◌++◌}
use Rattle.fx_c_types_heads.specs.Names.{found, named}
use Rattle.fx_c_types_heads.proofs.Tables.{inserted, named-append}
use Rattle.fx_c_types_heads.proofs.names.Names.declare.Goals as goal

pub returns : goal.returns
returns c =
    let es = c.self.inside.map.entries in
    let key = c.in_ok-key.key in
    let name = c.args.name.now in
    let n = c.args.number in
    let none = ap (λ q. found q (named es)) c.in_ok-key.ensures.items ∙ ap (found name) c.self.view_is ∙ c.requires in
    ap named c.in_ok-insert.ensures.entries ∙ ap named (inserted key n es none) ∙ named-append es key n
    ∙ ap (λ l. l ++ (key.items, n) ∷ []) c.self.view_is ∙ ap (λ q. c.args.self.now ++ (q, n) ∷ []) c.in_ok-key.ensures.items
