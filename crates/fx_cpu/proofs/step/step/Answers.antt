use Rattle.std.proofs.Common.{sym, ◌∙◌, rules, refl}
use Rattle.fx_cpu.proofs.FetchLemmas.{by_err, by_some, by_none, at_none}
use Rattle.fx_cpu.proofs.step.step.Goals as goal

pub loop-n-init : goal.loop-n-init
loop-n-init g c = record { length_is = refl; rest = λ t s o h. h }

pub returns-in-Err : goal.returns-in-Err
returns-in-Err g c =
    let r = c.loop-n in
    rw c.trap_from.ensures
    (r.invariant.rest _ _ _ (by_err r.n r.text r.r _ _ c.loop-n-test.true r.invariant.length_is c.in-Err.stop c.in-Err.ensures.fetched))

pub returns-in-Some : goal.returns-in-Some
returns-in-Some g c =
    let r = c.loop-n in
    r.invariant.rest _ _ _
    (by_some r.n r.text r.r _ _ c.loop-n-test.true r.invariant.length_is c.in-Ok.b c.in-Some.i c.in-Some.len _ _ _ c.in-Ok.ensures.fetched
    (sym c.decode.ensures.value ∙ c.in-Some.is) c.execute.ensures)

pub loop-n-preserved : goal.loop-n-preserved
loop-n-preserved g c =
    let r = c.loop-n in
    record {
      length_is = search rules;
      rest = λ t s o h.
          r.invariant.rest t s o
          (by_none r.n r.text r.r _ _ c.loop-n-test.true r.invariant.length_is c.in-Ok.b t s o c.in-Ok.ensures.fetched
          (sym c.decode.ensures.value ∙ c.in-None.is) h);
    }

pub returns : goal.returns
returns g c = c.loop-n.invariant.rest _ _ _ (at_none c.loop-n.n c.loop-n.text c.loop-n.r _ c.loop-n-test.false)
