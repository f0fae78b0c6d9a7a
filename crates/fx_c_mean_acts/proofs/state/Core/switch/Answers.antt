use Rattle.std.proofs.Common.{◌≢◌, List, ap, arith}
use Rattle.fx_c_mean_blocks.specs.declared.value.Value.TheVariants.{Void}
use Rattle.fx_c_mean_model.specs.States.{give}
use Rattle.fx_c_mean_model.specs.Steps as steps
use Rattle.fx_c_mean_control.specs.declared.frames.Frame.{Frame}
use Rattle.fx_c_mean_control.specs.Views.{call_of, frames_of, spot_of}
use Rattle.fx_c_mean_acts.specs.Cores.{state_of}
use Rattle.fx_c_mean_acts.proofs.Woken.{comes_from, switched}
use Rattle.fx_c_mean_acts.proofs.state.Core.switch.Goals as goal

pub returns : goal.returns
returns c =
    let s = c.args.self.now in
    let other : c.in-Number.t ≢ s.current = omega arith in
    comes_from _ _ c.wake.result _ _ _
    (switched (state_of s) (spot_of s.here (frames_of c.replace.new.dest)) (frames_of s.frames) c.args.v c.in-Number.t c.in-Ok.t _ c.in-Number.is other c.in-Ok.ensures.1
    (ap (λ (fs : List Frame). steps.Waiting (give Void (frames_of fs)) (call_of s.call)) c.replace.ensures.value))
    c.wake.ensures.done c.wake.ensures.comes
