use Rattle.std.specs.Prelude.{ℕ, List, ◌-◌, length, min, Bool, nat_lt, ◌==◌, ◌&&◌, ◌||◌}
use Rattle.fx_base.specs.FaultPlan.{Plan, fails_next}

-- A sink in memory: the bytes that it took, how many it takes in all and in one piece, and the plan of faults.
pub record SinkState : Type 0 where
  pub taken : List ℕ
  pub capacity : ℕ
  pub piece : ℕ
  pub plan : Plan

-- How many of so many bytes the sink takes, unless the call fails: no more than a piece and the room that is left.
abbrev pub room_for : SinkState → ℕ → ℕ
room_for sink count = min count (min sink.piece (sink.capacity - length sink.taken))

-- Whether putting so many bytes is a fault: it was planned, or none of them is taken though there are some.
abbrev pub is_fault : SinkState → ℕ → Bool
is_fault sink count = fails_next sink.plan || (nat_lt 0 count && (room_for sink count == 0))
