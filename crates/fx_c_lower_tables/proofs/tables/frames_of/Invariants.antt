use Rattle.std.proofs.Common.{◌≡◌, map, take}
use Rattle.fx_c_ast.specs.declared.checked.TFunction.{TFunction}
use Rattle.fx_c_mean_control.specs.Tables.{looked_up}
use Rattle.fx_c_lower_tables.specs.Layers.{frame_by}
use Rattle.fx_c_lower_tables.proofs.tables.frames_of.Given as goal

abbrev pub invariant-loop-f : goal.invariant-loop-f
invariant-loop-f l = l.frames.items ≡ map (λ (f : TFunction). frame_by (looked_up l.table) f) (take l.f-index l.program.functions)
