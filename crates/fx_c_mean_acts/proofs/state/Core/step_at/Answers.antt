use Rattle.std.proofs.Common.{rules}
use Rattle.fx_c_mean_model.specs.Programs.{program_of}
use Rattle.fx_c_mean_control.specs.Views.{act_of, frames_of}
use Rattle.fx_c_mean_acts.specs.Cores.{state_of}
use Rattle.fx_c_mean_acts.proofs.Denied.{keeps_where_denied}
use Rattle.fx_c_mean_acts.proofs.Steady.{after_step}
use Rattle.fx_c_mean_acts.proofs.state.Core.step_at.Goals as goal

pub returns-in-Went-clause-known : goal.returns-in-Went-clause-known
returns-in-Went-clause-known c =
    let s = c.args.self.now in
    after_step (program_of c.args.source.now.program.now) c.args.source.now.rights (state_of s) (state_of c.perform.new.self) (act_of c.args.act) (frames_of s.frames) c.known_after-after.result c.known_after-after.ensures c.in-Went.ensures.comes

pub returns-in-Stopped-clause-steps : goal.returns-in-Stopped-clause-steps
returns-in-Stopped-clause-steps c =
    let s = c.args.self.now in
    let t = c.perform.new.self in
    let kept = keeps_where_denied (program_of c.args.source.now.program.now) c.args.source.now.rights (state_of s) (state_of t) c.args.act (frames_of s.frames) c.in-Stopped.end s.memory t.memory c.requires.spot c.in-Stopped.ensures.comes c.in-Stopped.ensures.denied in (
      search rules,
      search rules,
      kept,
    )
