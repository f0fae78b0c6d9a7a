use Rattle.std.proofs.Common.{sym, ◌∙◌}
use Rattle.fx_c_mean_control.proofs.Calls.{topped, stuck}
use Rattle.fx_c_mean_control.proofs.control.give.Goals as goal

pub returns-in-Some : goal.returns-in-Some
returns-in-Some c = rw (topped c.args.frames.now c.in-Some.frame (sym c.top.ensures ∙ c.in-Some.is)) c.give_to.ensures

pub returns-in-None : goal.returns-in-None
returns-in-None c = stuck _ _ (sym c.top.ensures ∙ c.in-None.is)
