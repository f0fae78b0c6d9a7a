use Rattle.std.proofs.Common.{refl}
use Rattle.fx_c_mean_control.specs.Views.{call_of, frames_of, spot_of}
use Rattle.fx_c_mean_acts.specs.Cores.{state_of}
use Rattle.fx_c_mean_acts.proofs.Woken.{woke, slept}
use Rattle.fx_c_mean_acts.proofs.state.Core.wake.Goals as goal

pub returns-in-Waiting : goal.returns-in-Waiting
returns-in-Waiting c =
    let s = c.args.self.now in record {
      comes = woke s.memory s.current (call_of s.call) (spot_of s.here (frames_of s.frames)) s.threads.items c.put.new.threads.items c.start.new.threads.items c.args.left c.start.result c.args.t c.from.result c.from-place.result c.in-Waiting.now c.in-Waiting.frames c.replace.new.dest c.in-Waiting.call c.requires c.from.ensures c.from-place.ensures c.put.ensures c.start.ensures.value c.in-Waiting.is c.start.ensures.after c.replace.ensures.after;
      done = λ e. cc;
    }

pub returns-in-Running : goal.returns-in-Running
returns-in-Running c =
    let s = c.args.self.now in record {
      comes = slept (state_of s) s.threads.items c.put.new.threads.items c.args.left c.start.result c.args.t c.from.result c.from-place.result refl c.requires c.from.ensures c.from-place.ensures c.put.ensures c.start.ensures.value c.in-Running.is;
      done = λ e. cc;
    }
