use Rattle.fx_c_ast.proofs.Rows.{tblock_is}
use Rattle.std.proofs.Common.{arith}
use Rattle.std.proofs.lemmas.Grind.{common_steps}
use Rattle.fx_c_lower.proofs.lengths.+statement_sizes.Goals as goal

pub stmt_size-returns-in-Block : goal.stmt_size-returns-in-Block
stmt_size-returns-in-Block t c = rw (tblock_is _ _ _ c.in-Block.is c.deref.ensures.value)
    (grind (arith, common_steps))
