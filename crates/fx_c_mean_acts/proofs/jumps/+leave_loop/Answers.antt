use Rattle.std.proofs.Common.{sym, ◌∙◌}
use Rattle.fx_c_mean_acts.proofs.Callers.{stuck_after}
use Rattle.fx_c_mean_acts.proofs.jumps.+leave_loop.Goals as goal

pub returns-in-None : goal.returns-in-None
returns-in-None t c = stuck_after _ (sym c.top.ensures ∙ c.in-None.is)
