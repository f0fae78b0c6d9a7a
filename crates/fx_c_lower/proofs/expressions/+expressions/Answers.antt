use Rattle.fx_c_ast.proofs.Rows.{tcall_is, tgate_is}
use Rattle.fx_c_lower.proofs.expressions.+expressions.Goals as goal

pub reach-returns-in-Call-clause-place : goal.reach-returns-in-Call-clause-place
reach-returns-in-Call-clause-place t c = rw (tcall_is _ _ _ _ _ c.in-Call.is
    c.deref-in-Call.ensures.value) c.call.ensures.place

pub reach-returns-in-Call-clause-code : goal.reach-returns-in-Call-clause-code
reach-returns-in-Call-clause-code t c = rw (tcall_is _ _ _ _ _ c.in-Call.is
    c.deref-in-Call.ensures.value) c.call.ensures.code

pub reach-returns-in-Gate-clause-place : goal.reach-returns-in-Gate-clause-place
reach-returns-in-Gate-clause-place t c = rw (tgate_is _ _ _ _ _ c.in-Gate.is
    c.deref-in-Gate.ensures.value) c.call-in-Gate.ensures.place

pub reach-returns-in-Gate-clause-code : goal.reach-returns-in-Gate-clause-code
reach-returns-in-Gate-clause-code t c = rw (tgate_is _ _ _ _ _ c.in-Gate.is
    c.deref-in-Gate.ensures.value) c.call-in-Gate.ensures.code
