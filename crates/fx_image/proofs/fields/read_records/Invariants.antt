use Rattle.std.proofs.Common.{◌≡◌, ◌-◌, length}
use Rattle.fx_image.specs.Reading.{records_at}
use Rattle.fx_image.proofs.Loop.{with_front}
use Rattle.fx_image.proofs.fields.read_records.Given as goal

abbrev pub invariant-loop : goal.invariant-loop
invariant-loop g l = record {
  value : with_front l.records.items (records_at (g.T.Recorded.read_at l.version) (l.count - l.counter) l.rest) ≡ records_at (g.T.Recorded.read_at l.version) l.count l.bytes;
  len : length l.records.items ≡ l.counter;
}
