use Rattle.std.proofs.Common.{◌≤◌, length, drop}
use Rattle.fx_c_types.specs.ProgramView.{declarations}
use Rattle.fx_c_types_test.proofs.answers.are_few.Given as goal

abbrev pub invariant-loop-file : goal.invariant-loop-file
invariant-loop-file l = length (declarations (drop l.file-index l.files)) ≤ l.left → length (declarations l.files) ≤ 268435455
