use Rattle.std.proofs.lemmas.Result.{on_ok_weaker}
use Rattle.fx_gates_call.specs.Threads.{if_begins, running_words, if_ends}
use Rattle.fx_gates_call.proofs.Joining.{joined3}
use Rattle.fx_gates_call.proofs.threads.put_dispatch.Goals as goal

pub returns : goal.returns
returns c =
    on_ok_weaker c.put_if_ends.result
    (λ e. joined3 _ _ _ _ (if_begins c.args.begin) (running_words c.args.table) (if_ends c.args.ending) c.in_ok-put_if_begins.ensures c.in_ok-put_running_words.ensures e)
    c.put_if_ends.ensures
