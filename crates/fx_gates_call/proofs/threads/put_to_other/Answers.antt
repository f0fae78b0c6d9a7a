use Rattle.std.proofs.lemmas.Result.{on_ok_weaker}
use Rattle.fx_gates_call.specs.Threads.{if_no_number, other_words, if_not_live, wait_here}
use Rattle.fx_gates_call.proofs.Joining.{joined4}
use Rattle.fx_gates_call.proofs.threads.put_to_other.Goals as goal

pub returns : goal.returns
returns c =
    on_ok_weaker c.put_wait_here.result
    (λ e. joined4 _ _ _ _ _ (if_no_number c.args.bad) (other_words c.args.table) (if_not_live c.args.bad) (wait_here c.args.resume)
    c.in_ok-put_if_no_number.ensures c.in_ok-put_other_words.ensures c.in_ok-put_if_not_live.ensures e)
    c.put_wait_here.ensures
