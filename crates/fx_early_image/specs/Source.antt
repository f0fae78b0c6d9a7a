use Rattle.std.specs.Prelude.{ℕ, pos, true, List, [], ◌∷◌}
use Rattle.fx_outcomes.specs.Runs.{Next, Goes, Stops, Outcome, expected}
use Rattle.fx_base.specs.declared.device_op.DeviceOp.{DeviceOp}
use Rattle.fx_c_mean_model.specs.declared.end.End.{End}
use Rattle.fx_c_mean_model.specs.declared.end.End.TheVariants.{Exit}

-- What a program does that writes constants to the console and returns from a `main` without a value.

-- Before the start, with the constants to be written; and in `main`, with those left.
pub data State : Type 0 where
  Starting : (constants : List ℕ) → State
  Writing : (constants : List ℕ) → State

-- A constant is stored to register 0 of device 0, the console, as 64 bits.
abbrev pub console_store : ℕ → DeviceOp
console_store c = record { device = 0; reg = 0; write = true; value = c }

abbrev pub step : State → Next DeviceOp State End
step (Starting constants) = Goes [] (Writing constants)
step (Writing []) = Stops [] (Exit (pos 0))
step (Writing (c ∷ cs)) = Goes (console_store c ∷ []) (Writing cs)

-- The cost of a step, less one. A call costs 1 and an eighth of its frame's bytes: the frame of `main`
-- has 16 bytes, and 16 more for the operands that a write needs. A write costs 3: the constant, its
-- conversion to long, and the operation. The return costs 1.
abbrev pub extra : State → ℕ
extra (Starting []) = 2
extra (Starting (c ∷ cs)) = 4
extra (Writing []) = 0
extra (Writing (c ∷ cs)) = 2

-- The operations and the end within a cost. Such a program loads nothing, so no answer is looked at.
abbrev pub early_expected : List ℕ → List ℕ → ℕ → Outcome DeviceOp End
early_expected constants answers k = expected step extra k (Starting constants)
