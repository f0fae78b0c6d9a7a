use Rattle.std.proofs.Common.{◌<◌, length, Some}
use Rattle.fx_c_lex.specs.declared.sign.TheConstants.{CLOSE_PAREN}
use Rattle.fx_c_parse.specs.Words.{rest_of, after_sign}
use Rattle.fx_c_parse.specs.Reading.{◌>>=◌}
use Rattle.fx_c_parse.specs.Declarations.{name_turn, names_of}
use Rattle.fx_c_parse.proofs.Loop.{Continues}
use Rattle.fx_c_parse.proofs.declaration.names.Given as goal

abbrev pub invariant-loop-alloc : goal.invariant-loop-alloc
invariant-loop-alloc l = record {
  shorter : length (rest_of l.rest) < length (rest_of l.fn.at);
  left : Continues name_turn (λ x. after_sign CLOSE_PAREN x.1 >>= λ rest. Some (x.0, rest)) l.all.items (rest_of l.rest) (names_of (rest_of l.fn.at));
}

abbrev pub decreases-loop-alloc : goal.decreases-loop-alloc
decreases-loop-alloc l = length (rest_of l.rest)
