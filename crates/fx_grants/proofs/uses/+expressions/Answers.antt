use Rattle.std.proofs.Common.{append_assoc}
use Rattle.fx_c_ast.proofs.Rows.{tcall_is, tgate_is}
use Rattle.fx_grants.proofs.uses.+expressions.Goals as goal

pub expression_uses-returns-in-Call : goal.expression_uses-returns-in-Call
expression_uses-returns-in-Call t c = rw (tcall_is _ _ _ _ _ c.in-Call.is c.deref-in-Call.ensures.value) c.arguments_uses.ensures

pub expression_uses-returns-in_ok-put-in-Gate : goal.expression_uses-returns-in_ok-put-in-Gate
expression_uses-returns-in_ok-put-in-Gate t c = rw (tgate_is _ _ _ _ _ c.in-Gate.is c.deref-in-Gate.ensures.value, ← append_assoc, ← c.in_ok-put-in-Gate.ensures) c.arguments_uses-in-Gate.ensures
