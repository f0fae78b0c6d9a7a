use Rattle.std.proofs.Common.{◌≡◌, ◌+◌, ◌<◌, length, drop, Option, sym, subst, ◌∙◌, arith}
use Rattle.fx_c_mean_model.specs.Programs.{program_of}
use Rattle.fx_c_mean_model.specs.Steps.{use_of}
use Rattle.fx_c_mean_control.specs.Views.{call_of, frames_of}
use Rattle.fx_c_mean_acts.specs.declared.uses.StackUse.{StackUse}
use Rattle.fx_c_mean_acts.specs.Uses.{IsKnown}
use Rattle.fx_c_mean_acts.proofs.Callers.{caller_below, unwind_next}
use Rattle.fx_c_mean_acts.proofs.Steady.{below}
use Rattle.fx_c_mean_acts.proofs.state.Core.known_below.Goals as goal

pub loop-i-preserved : goal.loop-i-preserved
loop-i-preserved c =
    let l : c.loop-i.i < length c.args.self.now.frames = omega arith in
    sym (unwind_next c.args.self.now.frames c.loop-i.i l (sym c.caller_at.ensures ∙ c.in_default.is)) ∙ c.loop-i.invariant

pub returns-in-Some : goal.returns-in-Some
returns-in-Some c =
    let p = program_of c.args.source.now.program.now in
    let r = c.args.source.now.rights in
    let fs = c.args.self.now.frames in
    let before = c.in_ok-before.before in
    let under = frames_of (drop (c.loop-i.i + 1) fs) in
    let l : c.loop-i.i < length fs = omega arith in
    let h : use_of p r before.stack (frames_of fs) ≡ before.bytes = subst (λ (o : Option StackUse). IsKnown p r o (frames_of fs)) c.in_ok-before.was c.requires in
    let e = caller_below fs c.loop-i.i c.in-Some.call c.in-Some.crosses l c.loop-i.invariant (sym c.caller_at.ensures ∙ c.in-Some.is) in
    let d : before.bytes ≡ c.taken_by.result + c.in_ok-bytes.bytes = omega (arith, c.in_ok-bytes.ensures.0, c.in_ok-bytes.ensures.1) in (
      call_of c.in-Some.call,
      c.in-Some.crosses,
      under,
      e,
      below p r before.stack before.bytes c.taken_by.result c.in_ok-bytes.bytes (frames_of fs) under (call_of c.in-Some.call) c.in-Some.crosses h e c.taken_by.ensures d,
    )
