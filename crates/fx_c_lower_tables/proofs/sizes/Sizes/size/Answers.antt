use Rattle.std.proofs.Common.{ap, ◌∙◌, ℕ}
use Rattle.fx_c_ast.specs.declared.layout.Layout.{Layout}
use Rattle.fx_c_ast.specs.CheckedTrees.{ty_tree, struct_types}
use Rattle.fx_c_ast.specs.Layout.{type_layout}
use Rattle.fx_c_lower_tables.proofs.Rounds.{tables}
use Rattle.fx_c_lower_tables.proofs.sizes.Sizes.size.Goals as goal

pub returns-in-Ok : goal.returns-in-Ok
returns-in-Ok c =
    let e = tables c.deref.result.now (struct_types c.args.self.now.program.now.structs) (c.deref.ensures.value ∙ c.args.self.now.tables) in
    c.in-Ok.ensures.1 ∙ ap (λ (l : Layout). l.size) (c.in-Some.ensures ∙ ap (λ (f : ℕ → Layout). type_layout f (ty_tree c.args.ty.now)) e)
