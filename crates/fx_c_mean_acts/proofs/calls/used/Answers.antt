use Rattle.std.proofs.Common.{ℕ, ◌+◌, ◌-◌, ◌^◌, ◌<◌, min, length, drop, ap, sym, ◌∙◌, arith}
use Rattle.fx_c_mean_model.specs.Programs.{program_of}
use Rattle.fx_c_mean_model.specs.Steps.{use_of}
use Rattle.fx_c_mean_control.specs.Views.{frames_of}
use Rattle.fx_c_mean_acts.proofs.Callers.{use_next, use_end, sum_next}
use Rattle.fx_c_mean_acts.proofs.calls.used.Goals as goal

pub loop-i-preserved : goal.loop-i-preserved
loop-i-preserved c =
    let p = program_of c.args.source.now.program.now in
    let r = c.args.source.now.rights in
    let fs = c.args.frames.now in
    let l : c.loop-i.i < length fs = omega arith in
    let e = use_next p r c.args.stack fs c.loop-i.i l in
    let h = sum_next c.loop-i.sum c.taken_at.result (use_of p r c.args.stack (frames_of (drop (c.loop-i.i + 1) fs))) _ (ap (λ (n : ℕ). min (c.loop-i.sum + n) (2 ^ 64 - 1)) (ap (λ (n : ℕ). n + use_of p r c.args.stack (frames_of (drop (c.loop-i.i + 1) fs))) c.taken_at.ensures ∙ sym e) ∙ c.loop-i.invariant.total) in record {
      total = ap (λ (n : ℕ). min (n + use_of p r c.args.stack (frames_of (drop (c.loop-i.i + 1) fs))) (2 ^ 64 - 1)) c.saturating_add-sum.ensures ∙ h;
      fits = omega arith;
    }

pub returns : goal.returns
returns c =
    let p = program_of c.args.source.now.program.now in
    let r = c.args.source.now.rights in
    let fs = c.args.frames.now in
    let e = use_end p r c.args.stack fs c.loop-i.i (omega arith) in
    omega (arith, e, c.loop-i.invariant.total, c.loop-i.invariant.fits)
