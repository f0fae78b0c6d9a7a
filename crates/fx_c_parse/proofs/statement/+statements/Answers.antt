use Rattle.std.proofs.Common.{◌-◌, refl, arith, rules}
use Rattle.fx_c_ast.specs.declared.parsed.Stmt.{Stmt}
use Rattle.fx_c_ast.specs.ParsedTrees.{stmt_tree}
use Rattle.fx_c_parse.specs.declared.cursor.Cursor.{Cursor}
use Rattle.fx_c_parse.specs.declared.front.StatementFront.TheVariants as front
use Rattle.fx_c_parse.specs.Words.{rest_of}
use Rattle.fx_c_parse.specs.Statements.{counted_by, statement_at}
use Rattle.fx_c_parse.proofs.Depths.{read_as, read_behind, block_read, leaf_read}
use Rattle.fx_c_parse.proofs.statement.+statements.Goals as goal

pub statement-returns-in_err-all-in-Block-clause-tree : goal.statement-returns-in_err-all-in-Block-clause-tree
statement-returns-in_err-all-in-Block-clause-tree t c = rw (read_as c.args.budget (rest_of c.args.at) front.Block (omega arith) c.in-Block.ensures) (search rules)

pub statement-returns-in_ok-all-in-Block-clause-tree : goal.statement-returns-in_ok-all-in-Block-clause-tree
statement-returns-in_ok-all-in-Block-clause-tree t c = block_read c.args.budget (rest_of c.args.at) (rest_of c.next.result) _ _ _ (omega arith) c.in-Block.ensures c.next.ensures.rest c.in_ok-all-in-Block.ensures.tree c.block.ensures

pub statement-returns-in-For-clause-tree : goal.statement-returns-in-For-clause-tree
statement-returns-in-For-clause-tree t c = read_behind (λ (x : Stmt × Cursor). (stmt_tree x.0, rest_of x.1)) c.counted.result c.args.budget (rest_of c.args.at) (rest_of c.next-in-For.result) front.For (counted_by (statement_at (c.args.budget - 1))) (omega arith) c.in-For.ensures c.next-in-For.ensures.rest refl c.counted.ensures.tree

pub statement-returns-in_default : goal.statement-returns-in_default
statement-returns-in_default t c = record {
  tree = leaf_read (λ (x : Stmt × Cursor). (stmt_tree x.0, rest_of x.1)) c.leaf.result c.args.budget (rest_of c.args.at) c.statement_front.result c.statement_front.result (omega arith) c.statement_front.ensures refl c.in_default.not-Block c.in_default.not-If c.in_default.not-While c.in_default.not-For c.leaf.ensures.tree;
  shorter = c.leaf.ensures.shorter;
}
