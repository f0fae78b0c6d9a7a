use Rattle.std.proofs.Common.{refl}
use Rattle.fx_c_ast.proofs.Rows.{gate_is}
use Rattle.fx_c_parse.proofs.build.gate.Goals as goal

pub returns : goal.returns
returns c = gate_is _ _ _ _ refl refl
