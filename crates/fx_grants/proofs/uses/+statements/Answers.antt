use Rattle.fx_c_ast.proofs.Rows.{tblock_is}
use Rattle.fx_grants.proofs.uses.+statements.Goals as goal

pub statement_uses-returns-in-Block : goal.statement_uses-returns-in-Block
statement_uses-returns-in-Block t c = rw (tblock_is _ _ _ c.in-Block.is c.deref.ensures.value) c.statements_uses.ensures
