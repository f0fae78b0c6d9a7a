use Rattle.std.proofs.Common.{ℕ}
use Rattle.fx_c_types.proofs.Turns.{at_gives}
use Rattle.fx_c_types.proofs.program.main_at.Goals as goal

pub returns : goal.returns
returns c = rw c.at_declaration.ensures (at_gives (λ (n : ℕ). n) 0 c.main_number.result _ c.main_number.ensures)
