use Rattle.std.proofs.Common.{◌∙◌, sym, true, false, arith}
use Rattle.fx_c_types.proofs.Starts.{main_missing, main_tried}
use Rattle.fx_c_types.proofs.program.main_number.Goals as goal

pub returns-then-number-len : goal.returns-then-number-len
returns-then-number-len c = λ _. main_missing c.args.heads.now c.in-Some.number (sym c.find.ensures ∙ c.in-Some.is) (omega arith)

pub returns-then-not-is_start : goal.returns-then-not-is_start
returns-then-not-is_start c = λ _. main_tried c.args.heads.now c.in-Some.number (sym c.find.ensures ∙ c.in-Some.is) c.index.result.now false (omega arith) c.index.ensures (sym c.is_start.ensures ∙ c.if-not-is_start.true)

pub returns : goal.returns
returns c = main_tried c.args.heads.now c.in-Some.number (sym c.find.ensures ∙ c.in-Some.is) c.index.result.now true (omega arith) c.index.ensures (sym c.is_start.ensures ∙ c.if-not-is_start.false)
