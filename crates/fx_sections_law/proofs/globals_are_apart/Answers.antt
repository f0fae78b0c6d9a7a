use Rattle.std.proofs.Common.{arith}
use Rattle.fx_sections_law.proofs.Globals.{globals_apart, address_multiple, behind_runtime}
use Rattle.fx_sections_law.proofs.globals_are_apart.Goals as goal

pub returns-clause-apart : goal.returns-clause-apart
returns-clause-apart c = λ p g k has i j less within. ((λ d e same. globals_apart p g k has i j less within d e same), address_multiple p g k has i (omega arith) (record { section = 0; size = 0 }))

pub returns-clause-behind : goal.returns-clause-behind
returns-clause-behind c = λ p g k has i less d private s. behind_runtime p g k has i less d private s
