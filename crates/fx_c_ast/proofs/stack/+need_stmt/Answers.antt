use Rattle.fx_c_ast.proofs.Rows.{tblock_is}
use Rattle.fx_c_ast.proofs.stack.+need_stmt.Goals as goal

pub need_stmt-returns-in-Block : goal.need_stmt-returns-in-Block
need_stmt-returns-in-Block t c = rw (tblock_is _ _ _ c.in-Block.is c.deref.ensures.value) c.need_stmts.ensures
