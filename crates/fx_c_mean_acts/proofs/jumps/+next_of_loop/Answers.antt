use Rattle.std.proofs.Common.{sym, ◌∙◌}
use Rattle.fx_c_mean_acts.proofs.Callers.{stuck_next}
use Rattle.fx_c_mean_acts.proofs.jumps.+next_of_loop.Goals as goal

pub returns-in-None : goal.returns-in-None
returns-in-None t c = stuck_next _ (sym c.top.ensures ∙ c.in-None.is)
