use Rattle.std.proofs.Common.{arith}
use Rattle.std.proofs.lemmas.Grind.{common_steps}
use Rattle.fx_c_ast.proofs.Rows.{tcall_is, tgate_is}
use Rattle.fx_c_lower.proofs.lengths.+sizes.Goals as goal

pub reach_size-returns-in_ok-args_size-in-Call : goal.reach_size-returns-in_ok-args_size-in-Call
reach_size-returns-in_ok-args_size-in-Call t c = rw
    (tcall_is _ _ _ _ _ c.in-Call.is c.deref-in-Call.ensures.value) (grind (arith, common_steps))

pub reach_size-returns-in_ok-args_size-in-Gate : goal.reach_size-returns-in_ok-args_size-in-Gate
reach_size-returns-in_ok-args_size-in-Gate t c = rw
    (tgate_is _ _ _ _ _ c.in-Gate.is c.deref-in-Gate.ensures.value) (grind (arith, common_steps))
