use Rattle.fx_gates_call_law.proofs.Rows.{runtimes_are_rows}
use Rattle.fx_gates_call_law.proofs.runtimes_are_rows.Goals as goal

pub returns : goal.returns
returns c = runtimes_are_rows
