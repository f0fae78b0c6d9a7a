use Rattle.std.proofs.Common.{ap, sym, ◌∙◌, List, [], ◌∷◌, ◌++◌, Ok}
use Rattle.fx_c_ast.specs.declared.checked.TMember.{TMember}
use Rattle.fx_c_types_rules.specs.Structs.{StructTree, struct_trees, member_trees}
use Rattle.fx_c_types_heads.proofs.Fields.{push_struct}
use Rattle.fx_c_types_heads.proofs.declare.push_struct.Goals as goal

pub returns : goal.returns
returns c =
    let old = c.args.structs.now.items in
    rw c.in_ok-push.ensures.items
    (ap (λ (ms : List TMember). Ok (struct_trees old ++ record { name = c.args.name; members = member_trees ms } ∷ [])) (sym c.from_vec-members.ensures)
    ∙ ap (λ (ls : List StructTree). Ok ls) (sym (push_struct old (record { name = c.args.name; members = c.from_vec-members.result }))))
