use Rattle.std.proofs.Common.{◌≡◌, ◌<◌, ℕ, length, drop}
use Rattle.std.specs.Prelude.{slice_index_or}
use Rattle.fx_x64_code.specs.Decoded.{decoded}
use Rattle.fx_machine.specs.Lines.{line_from}
use Rattle.fx_machine.specs.declared.code.Line.{Line}
use Rattle.fx_machine.proofs.code.lines_of.Given as goal

abbrev pub invariant-loop-at : goal.invariant-loop-at
invariant-loop-at l = record {
  long : length l.lines.items ≡ l.at;
  each : (k : ℕ) (d : Line) → k < l.at → slice_index_or l.lines.items k d ≡ line_from (decoded (drop k l.code));
}
