use Rattle.std.proofs.Common.{true, false}
use Rattle.fx_image.proofs.Unlisted.{asked, found_here, not_here, none_left}
use Rattle.fx_image.proofs.sequences.first_unlisted.Goals as goal

pub returns-then-here : goal.returns-then-here
returns-then-here c =
    let here = asked c.args.stubs.now c.args.code.now c.in_ok-marks.marks.items c.as_slice.result.now c.loop-at.at c.is_unlisted-here.result true c.is_unlisted-here.ensures c.as_slice.ensures.value (c.in_ok-marks.ensures.marks c.loop-at.at c.loop-at-test.true) c.if-here.true in
    found_here c.args.stubs.now c.args.code.now c.loop-at.at c.loop-at-test.true here c.loop-at.invariant

pub loop-at-preserved : goal.loop-at-preserved
loop-at-preserved c =
    let here = asked c.args.stubs.now c.args.code.now c.in_ok-marks.marks.items c.as_slice.result.now c.loop-at.at c.is_unlisted-here.result false c.is_unlisted-here.ensures c.as_slice.ensures.value (c.in_ok-marks.ensures.marks c.loop-at.at c.loop-at-test.true) c.if-here.false in
    not_here c.args.stubs.now c.args.code.now c.loop-at.at c.loop-at-test.true here c.loop-at.invariant

pub returns : goal.returns
returns c = none_left c.args.stubs.now c.args.code.now c.loop-at.at c.loop-at-test.false c.loop-at.invariant
