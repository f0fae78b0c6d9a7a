use Rattle.std.proofs.Common.{◌≡◌, List, [], ◌∷◌, ap, length, ◌∙◌, arith}
use Rattle.std.proofs.lemmas.Grind.{common_steps}
use Rattle.fx_c_mean_blocks.specs.declared.value.Value.{Value}
use Rattle.fx_c_mean_model.specs.States.{Does, Enter, First}
use Rattle.fx_c_mean_model.specs.Steps as steps
use Rattle.fx_c_mean_control.specs.declared.frames.Frame.{Frame}
use Rattle.fx_c_mean_control.specs.declared.frames.Way.TheVariants as way
use Rattle.fx_c_mean_control.specs.declared.frames.Act.TheVariants as act
use Rattle.fx_c_mean_control.specs.declared.frames.Now.TheVariants as now
use Rattle.fx_c_mean_control.specs.Views.{call_of, frames_of, spot_of}
use Rattle.fx_c_mean_acts.specs.declared.state.Thread.{Thread}
use Rattle.fx_c_mean_acts.specs.declared.state.Thread.TheVariants as thread
use Rattle.fx_c_mean_acts.specs.Cores.{thread_of}
use Rattle.fx_c_mean_acts.proofs.Woken.{comes_from, went_done, spawned}
use Rattle.fx_c_mean_acts.proofs.state.Core.spawn.Goals as goal

pub returns-in-Ok : goal.returns-in-Ok
returns-in-Ok c =
    let s = c.args.self.now in
    let f = c.args.function in
    let t : Thread = thread.Waiting (now.Does (act.Enter f way.First c.one.result)) c.new.result (record { function = f; base = 0 }) in
    let is : thread_of t ≡ steps.new_thread f c.args.v =
    ap (λ (vs : List Value). steps.Waiting (Does (Enter f First vs) (frames_of c.new.result)) (record { function = f; base = 0 })) c.one.ensures
    ∙ ap (λ (fs : List Frame). steps.Waiting (Does (Enter f First (c.args.v ∷ [])) (frames_of fs)) (record { function = f; base = 0 })) c.new.ensures in
    let count : c.len-number.result ≡ length s.threads.items = grind (arith, common_steps) in
    comes_from _ _ c.give.result _ _ _
    (spawned s.memory s.current (call_of s.call) (spot_of s.here (frames_of s.frames)) (frames_of s.frames) f c.args.v s.threads.items c.add.new.threads.items t c.len-number.result c.in-Ok.ensures is count (omega arith))
    (went_done c.give.result c.give.ensures.done) c.give.ensures.comes
