use Rattle.std.proofs.Common.{◌≡◌, List, length, map, ap, ◌∙◌, ◌≤◌, arith}
use Rattle.std.proofs.lemmas.List.{take_all}
use Rattle.fx_c_ast.specs.declared.checked.TFunction.{TFunction}
use Rattle.fx_c_ast.specs.CheckedTrees.{struct_types}
use Rattle.fx_c_mean_control.specs.Tables.{looked_up}
use Rattle.fx_c_lower_tables.specs.Layers.{frame_by}
use Rattle.fx_c_lower_tables.proofs.Rounds.{frames_are}
use Rattle.fx_c_lower_tables.proofs.tables.frames_of.Goals as goal

pub returns : goal.returns
returns c =
    let fs = c.args.program.now.functions in
    let many : length c.as_slice-f-items.result.now ≡ length fs = ap length c.as_slice-f-items.ensures in
    let past : length fs ≤ c.loop-f.f-index = omega arith in
    c.loop-f.invariant ∙ ap (λ (l : List TFunction). map (λ (f : TFunction). frame_by (looked_up c.args.table.now) f) l) (take_all c.loop-f.f-index fs past)
    ∙ frames_are (struct_types c.args.program.now.structs) c.args.table.now c.requires fs
