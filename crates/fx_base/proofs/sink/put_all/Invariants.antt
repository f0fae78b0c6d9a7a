use Rattle.std.proofs.Common.{◌≤◌, ◌-◌, length}
use Rattle.fx_base.specs.Told.{Told}
use Rattle.fx_base.specs.Sink.{Gains}
use Rattle.fx_base.proofs.sink.put_all.Given as goal

-- so many bytes were taken, the first ones
abbrev pub invariant-loop-taken : goal.invariant-loop-taken
invariant-loop-taken g l = record {
  within : l.taken ≤ length l.bytes;
  taken : Told (Gains l.bytes l.taken) (g.S.Sink.taken l.fn.sink) (g.S.Sink.taken l.sink);
  later : g.S.Sink.faults l.fn.sink ≤ g.S.Sink.faults l.sink;
}

abbrev pub decreases-loop-taken : goal.decreases-loop-taken
decreases-loop-taken g l = length l.bytes - l.taken
