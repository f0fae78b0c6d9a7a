use Rattle.std.proofs.Common.{◌<◌, length, sym, ◌∙◌, arith}
use Rattle.fx_c_mean_acts.proofs.Callers.{gate_here, call_here, unwind_next}
use Rattle.fx_c_mean_acts.proofs.state.Core.return_extra.Goals as goal

pub returns-then-crosses : goal.returns-then-crosses
returns-then-crosses c =
    let l : c.loop-i.i < length c.args.self.now.frames = omega arith in
    gate_here c.args.self.now.frames c.loop-i.i c.in-Some.field-0-0 c.in-Some.crosses l c.loop-i.invariant (sym c.caller_at.ensures ∙ c.in-Some.is) c.if-crosses.true

pub returns-else-crosses : goal.returns-else-crosses
returns-else-crosses c =
    let l : c.loop-i.i < length c.args.self.now.frames = omega arith in
    call_here c.args.self.now.frames c.loop-i.i c.in-Some.field-0-0 c.in-Some.crosses l c.loop-i.invariant (sym c.caller_at.ensures ∙ c.in-Some.is) c.if-crosses.false

pub loop-i-preserved : goal.loop-i-preserved
loop-i-preserved c =
    let l : c.loop-i.i < length c.args.self.now.frames = omega arith in
    sym (unwind_next c.args.self.now.frames c.loop-i.i l (sym c.caller_at.ensures ∙ c.in_default.is)) ∙ c.loop-i.invariant
