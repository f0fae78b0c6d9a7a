use Rattle.fx_c_ast.specs.Counts.{held}
use Rattle.fx_c_ast.specs.CheckedTrees.{ty_tree, maybe_texpr, tstmt_tree}
use Rattle.fx_c_ast.proofs.Rows.{tblock_is}
use Rattle.fx_c_lower.specs.Views.{made, source}
use Rattle.fx_c_lower.proofs.Fors.{for_is, for_made}
use Rattle.fx_c_lower.proofs.statements.+statements.Goals as goal

pub stmt-returns-in-Block-clause-place : goal.stmt-returns-in-Block-clause-place
stmt-returns-in-Block-clause-place t c = rw (tblock_is _ _ _ c.in-Block.is c.deref.ensures.value)
    c.stmts.ensures.place

pub stmt-returns-in-Block-clause-code : goal.stmt-returns-in-Block-clause-code
stmt-returns-in-Block-clause-code t c = rw (tblock_is _ _ _ c.in-Block.is c.deref.ensures.value)
    c.stmts.ensures.code

pub stmt-returns-in_ok-for_turn-in-For-clause-code :
    goal.stmt-returns-in_ok-for_turn-in-For-clause-code
stmt-returns-in_ok-for_turn-in-For-clause-code t c =
    let begun = c.in_ok-begin-in-For.ensures in
    let turned = c.in_ok-for_turn-in-For.ensures in
    rw (for_is c.args.s.now c.in-For.first c.in-For.next c.in-For.test c.in-For.s
    c.deref-in-For.result.now c.in-For.is c.deref-in-For.ensures)
    (for_made c.for_next.result (source c.args.sizes.now) (ty_tree c.args.gives.now)
    c.args.out.now.at c.args.to.exit c.args.to.leave c.args.to.again
    c.for_first.new.out.at c.for_turn.new.out.at c.in_ok-begin-in-For.begin
    (held c.in-For.first) (held c.in-For.next) (maybe_texpr c.in-For.test)
    (tstmt_tree c.deref-in-For.result.now)
    (made c.args.out.now) (made c.for_first.new.out) (made c.for_turn.new.out)
    (made c.for_next.new.out)
    begun.place turned.place begun.begin begun.code turned.code c.for_next.ensures.code)
