use Rattle.std.proofs.Common.{refl}
use Rattle.fx_machine.proofs.act.perform_quick.Goals as goal

pub returns-else-perform_common-clause-done : goal.returns-else-perform_common-clause-done
returns-else-perform_common-clause-done c =
    let e = c.if-perform_common.ensures.registers refl in
    let m = c.if-perform_common.ensures.memory refl in
    λ t.
    let h = c.perform_whole.ensures.done t in
    rw (e, m) at h
