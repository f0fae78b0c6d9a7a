-- What a turn of a machine answers.
use Rattle.std.specs.Prelude.{◌%◌, ◌==◌, ◌&&◌, if◌then◌else◌, List, [], ◌∷◌}
use Rattle.fx_base.specs.declared.device_op.DeviceOp.{DeviceOp}
use Rattle.fx_machine_model.specs.declared.stop.Turn.{Turn}
use Rattle.fx_machine_model.specs.declared.stop.Turn.TheVariants as turns

-- What a turn answers that made these operations, which are one or none: one on the console's register
-- 0 is output, or waits for input.
abbrev pub answer_to : List DeviceOp → Turn
answer_to [] = turns.Went
answer_to (op ∷ rest) =
    if (op.device == 0) && (op.reg == 0) then (if op.write then turns.Output (op.value % 256) else turns.Input) else turns.Went
