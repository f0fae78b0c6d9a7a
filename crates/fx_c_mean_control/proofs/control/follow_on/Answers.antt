use Rattle.std.proofs.Common.{sym, ap, ◌∙◌, Some}
use Rattle.fx_c_mean_control.proofs.Calls.{falls, falls_last}
use Rattle.fx_c_mean_control.proofs.control.follow_on.Goals as goal

pub returns-in-Some-Caller : goal.returns-in-Some-Caller
returns-in-Some-Caller c = falls _ _ _ (sym c.top.ensures ∙ c.in-Some-Caller.is ∙ ap Some c.in-Some-Caller.field-0-is)

pub returns-in-None : goal.returns-in-None
returns-in-None c = falls_last _ (sym c.top.ensures ∙ c.in-None.is)
