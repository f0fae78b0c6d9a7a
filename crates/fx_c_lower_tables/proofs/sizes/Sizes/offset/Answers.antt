use Rattle.std.proofs.Common.{ap, ◌∙◌, ℕ, List}
use Rattle.fx_c_ast.specs.declared.layout.Layout.{Layout}
use Rattle.fx_c_ast.specs.CheckedTrees.{TyTree, member_types, struct_types}
use Rattle.fx_c_ast.specs.Layout.{known_layouts}
use Rattle.fx_c_ast.specs.Members.{member_place}
use Rattle.fx_c_lower_tables.proofs.Rounds.{tables}
use Rattle.fx_c_lower_tables.proofs.sizes.Sizes.offset.Goals as goal

pub returns-in-Ok : goal.returns-in-Ok
returns-in-Ok c =
    let all = struct_types c.args.self.now.program.now.structs in
    let e = tables c.deref.result.now all (c.deref.ensures.value ∙ c.args.self.now.tables) in
    c.in-Ok.ensures.1 ∙ c.in-Some.ensures
    ∙ ap (λ (f : ℕ → Layout). member_place f (member_types c.members.result.now) c.args.member) e
    ∙ ap (λ (ts : List TyTree). member_place (known_layouts all) ts c.args.member) c.members.ensures
