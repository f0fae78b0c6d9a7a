use Rattle.fx_c_mean_blocks.specs.declared.value.Value.TheVariants.{Number, Void}
use Rattle.fx_c_mean_model.specs.Programs.{program_of}
use Rattle.fx_c_mean_control.specs.Views.{frames_of}
use Rattle.fx_c_mean_acts.specs.Cores.{state_of}
use Rattle.fx_c_mean.proofs.Known.{stored}
use Rattle.fx_c_mean.proofs.runner.Runner.put.Goals as goal

pub invariant_of-self : goal.invariant_of-self
invariant_of-self g c =
    let s = c.args.self.now in record {
      known_use = stored (program_of s.source.program.now) s.source.rights s.known 0 0 (Number c.args.value) Void (frames_of s.core.frames) (state_of s.core) (state_of c.give.new.self) c.give.result c.requires c.give.ensures.comes c.give.ensures.done s.known_use;
    }
