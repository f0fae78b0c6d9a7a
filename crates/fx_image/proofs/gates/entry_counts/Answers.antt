use Rattle.fx_image.proofs.Counts.{counted_more, few_counted}
use Rattle.fx_image.proofs.gates.entry_counts.Goals as goal

pub count_entry-requires : goal.count_entry-requires
count_entry-requires c = λ k h. few_counted c.args.entries.now c.loop-e.e-index k _ (c.loop-e.invariant k h) c.requires

pub loop-e-preserved : goal.loop-e-preserved
loop-e-preserved c = λ k h.
    counted_more c.args.entries.now c.loop-e.e-index c.e-item.result k _ _ c.loop-e-test.true c.e-item.is (c.loop-e.invariant k h) (c.count_entry.ensures k h)
