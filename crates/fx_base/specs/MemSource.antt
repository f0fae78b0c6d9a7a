use Rattle.std.specs.Prelude.{ℕ, List}
use Rattle.fx_base.specs.FaultPlan.{Plan}

-- A source in memory: the bytes that are left, and the plan of faults.
pub record SourceState : Type 0 where
  pub left : List ℕ
  pub plan : Plan
