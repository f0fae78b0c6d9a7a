use Rattle.fx_gates_call_law.proofs.Rows.{gates_are_rows}
use Rattle.fx_gates_call_law.proofs.gates_are_rows.Goals as goal

pub returns : goal.returns
returns c = gates_are_rows
