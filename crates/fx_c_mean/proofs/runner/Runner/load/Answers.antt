use Rattle.std.proofs.Common.{◌≡◌, [], ◌∷◌, false, sym, ◌∙◌, rules}
use Rattle.fx_c_mean_blocks.specs.declared.value.Value.TheVariants.{Number}
use Rattle.fx_c_mean_model.specs.Programs.{program_of}
use Rattle.fx_c_mean_control.specs.Views.{frames_of}
use Rattle.fx_c_mean_acts.specs.Cores.{state_of}
use Rattle.fx_c_mean.specs.Walks.{is_console}
use Rattle.fx_c_mean.proofs.Inputs.{other_load}
use Rattle.fx_c_mean.proofs.Known.{loaded}
use Rattle.fx_c_mean.proofs.runner.Runner.load.Goals as goal

pub returns-in-Ok-clause-made : goal.returns-in-Ok-clause-made
returns-in-Ok-clause-made g c =
    let other : is_console c.args.device c.args.register ≡ false = sym c.is_console.ensures ∙ c.if-is_console.false in (
      c.in-Ok.value,
      record {
        made = record { device = c.args.device; reg = c.args.register; write = false; value = c.in-Ok.value } ∷ [];
        step = search rules;
        bus = search rules;
        says = search rules;
        same = search rules;
      },
      other_load (is_console c.args.device c.args.register) other,
    )

pub invariant_of-self : goal.invariant_of-self
invariant_of-self g c =
    let s = c.args.self.now in record {
      known_use = loaded (program_of s.source.program.now) s.source.rights s.known c.args.device c.args.register (Number c.in-Ok.value) (frames_of s.core.frames) (state_of s.core) (state_of c.give.new.self) c.give.result c.requires c.give.ensures.comes c.give.ensures.done s.known_use;
    }
