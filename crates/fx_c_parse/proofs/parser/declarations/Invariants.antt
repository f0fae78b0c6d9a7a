use Rattle.std.proofs.Common.{◌+◌, ◌≤◌, length}
use Rattle.fx_c_ast.specs.ParsedTrees.{decl_trees}
use Rattle.fx_c_parse.specs.Words.{rest_of}
use Rattle.fx_c_parse.specs.Declarations.{unit_of}
use Rattle.fx_c_parse.proofs.Files.{Continues}
use Rattle.fx_c_parse.proofs.parser.declarations.Given as goal

abbrev pub invariant-loop-rest : goal.invariant-loop-rest
invariant-loop-rest l = record {
  fits : length l.decls.items + length (rest_of l.rest) ≤ length (rest_of l.fn.at);
  left : Continues (decl_trees l.decls.items) (rest_of l.rest) (unit_of (rest_of l.fn.at));
}

abbrev pub decreases-loop-rest : goal.decreases-loop-rest
decreases-loop-rest l = length (rest_of l.rest)
