use Rattle.std.proofs.Common.{◌≡◌, ◌≤◌, ◌++◌}
use Rattle.fx_templates_core.specs.Calls.{load_arguments}
use Rattle.fx_templates_core.proofs.calls.load_arguments.Given as goal

abbrev pub invariant-loop-i : goal.invariant-loop-i
invariant-loop-i l = record {
  few : l.i ≤ l.count;
  loaded : l.out.items ++ load_arguments l.locals l.k l.i ≡ l.fn.out.items ++ load_arguments l.locals l.k l.count;
}

abbrev pub decreases-loop-i : goal.decreases-loop-i
decreases-loop-i l = l.i
