use Rattle.std.proofs.Common.{◌<◌, length, Some}
use Rattle.fx_c_ast.specs.ParsedTrees.{param_trees}
use Rattle.fx_c_lex.specs.declared.sign.TheConstants.{CLOSE_PAREN}
use Rattle.fx_c_parse.specs.Words.{rest_of, after_sign}
use Rattle.fx_c_parse.specs.Reading.{◌>>=◌}
use Rattle.fx_c_parse.specs.Declarations.{parameter_turn, some_parameters_of}
use Rattle.fx_c_parse.proofs.Loop.{Continues}
use Rattle.fx_c_parse.proofs.declaration.some_parameters.Given as goal

abbrev pub invariant-loop-alloc : goal.invariant-loop-alloc
invariant-loop-alloc l = record {
  shorter : length (rest_of l.rest) < length (rest_of l.fn.at);
  left : Continues parameter_turn (λ y. after_sign CLOSE_PAREN y.1 >>= λ rest. Some (y.0, rest)) (param_trees l.all.items) (rest_of l.rest) (some_parameters_of (rest_of l.fn.at));
}

abbrev pub decreases-loop-alloc : goal.decreases-loop-alloc
decreases-loop-alloc l = length (rest_of l.rest)
