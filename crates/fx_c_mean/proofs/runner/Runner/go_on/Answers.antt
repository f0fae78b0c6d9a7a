use Rattle.std.proofs.Common.{[], refl, sym, ◌∙◌, rules}
use Rattle.fx_c_mean_acts.specs.Cores.{state_of}
use Rattle.fx_c_mean.proofs.Ending.{told_alike, finished}
use Rattle.fx_c_mean.proofs.runner.Runner.go_on.Goals as goal

pub returns-in-Went-clause-made : goal.returns-in-Went-clause-made
returns-in-Went-clause-made g c = (
  0,
  record {
    made = [];
    step = search rules;
    bus = search rules;
    says = search rules;
    same = search rules;
  },
  refl,
)

pub returns-in-Stopped-clause-made : goal.returns-in-Stopped-clause-made
returns-in-Stopped-clause-made g c =
    let before = c.args.self.now.core.memory in
    let after = c.step.new.self.memory in
    let e = c.in-Stopped.end in
    finished _ _ after e c.walk_of.result c.walk_of.ensures
    (record {
      with_end = e;
      step = c.in-Stopped.ensures.steps.0;
      says = c.walk_of.ensures ∙ told_alike e before after c.in-Stopped.ensures.steps.2;
      again = sym c.walk_of.ensures;
      same = search rules;
    })
