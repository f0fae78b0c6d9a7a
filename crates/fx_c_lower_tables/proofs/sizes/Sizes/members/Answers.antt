use Rattle.std.proofs.Common.{◌∙◌, List, [], ap}
use Rattle.std.specs.Prelude.{slice_index_or}
use Rattle.fx_c_ast.specs.declared.checked.TStruct.{TStruct}
use Rattle.fx_c_ast.specs.CheckedTrees.{member_types, struct_types}
use Rattle.fx_c_lower_tables.proofs.Rounds.{member_found, member_missing}
use Rattle.fx_c_lower_tables.proofs.sizes.Sizes.members.Goals as goal

pub returns-in-Some : goal.returns-in-Some
returns-in-Some c =
    let ss = c.as_slice.result.now in
    ap member_types c.as_slice-in-Some.ensures ∙ member_found ss c.args.n c.in-Some.of.now c.in-Some.ensures.lookup.0 c.in-Some.ensures.lookup.1
    ∙ ap (λ (l : List TStruct). slice_index_or (struct_types l) c.args.n []) c.as_slice.ensures

pub returns-in-None : goal.returns-in-None
returns-in-None c =
    let ss = c.as_slice.result.now in
    member_missing ss c.args.n c.in-None.ensures.lookup.0 ∙ ap (λ (l : List TStruct). slice_index_or (struct_types l) c.args.n []) c.as_slice.ensures
