use Rattle.std.proofs.lemmas.Result.{on_ok_weaker}
use Rattle.fx_gates_call.specs.Threads.{end_running, resume_other, stop}
use Rattle.fx_gates_call.proofs.Joining.{joined3}
use Rattle.fx_gates_call.proofs.threads.put_go_on.Goals as goal

pub returns : goal.returns
returns c =
    on_ok_weaker c.put_stop.result
    (λ e. joined3 _ _ _ _ (end_running c.args.table) resume_other (stop 2) c.in_ok-put_end_running.ensures c.in_ok-put_resume_other.ensures e)
    c.put_stop.ensures
