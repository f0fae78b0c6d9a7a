use Rattle.std.proofs.Common.{arith}
use Rattle.fx_c_types_test.proofs.Counts.{next_file}
use Rattle.fx_c_types_test.proofs.answers.are_few.Goals as goal

pub loop-file-preserved : goal.loop-file-preserved
loop-file-preserved c = λ le. c.loop-file.invariant (omega (arith, next_file c.args.files.now c.loop-file.file-index c.file-item.result c.loop-file-test.true c.file-item.is))
