use Rattle.std.proofs.Common.{arith}
use Rattle.std.proofs.lemmas.Grind.{common_steps}
use Rattle.fx_c_ast.proofs.Rows.{tcall_is, tgate_is}
use Rattle.fx_c_ast.proofs.stack.+need.Goals as goal

pub need-returns-in_err-need_all-in-Call : goal.need-returns-in_err-need_all-in-Call
need-returns-in_err-need_all-in-Call t c = rw (tcall_is _ _ _ _ _ c.in-Call.is c.deref-in-Call.ensures.value) (grind (arith, common_steps))

pub need-returns-in_err-need_all-in-Gate : goal.need-returns-in_err-need_all-in-Gate
need-returns-in_err-need_all-in-Gate t c = rw (tgate_is _ _ _ _ _ c.in-Gate.is c.deref-in-Gate.ensures.value) (grind (arith, common_steps))

pub need-returns-in_ok-need_all-in-Call : goal.need-returns-in_ok-need_all-in-Call
need-returns-in_ok-need_all-in-Call t c = rw (tcall_is _ _ _ _ _ c.in-Call.is c.deref-in-Call.ensures.value) (grind (arith, common_steps))

pub need-returns-in_ok-need_all-in-Gate : goal.need-returns-in_ok-need_all-in-Gate
need-returns-in_ok-need_all-in-Gate t c = rw (tgate_is _ _ _ _ _ c.in-Gate.is c.deref-in-Gate.ensures.value) (grind (arith, common_steps))
