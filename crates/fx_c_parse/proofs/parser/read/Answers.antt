use Rattle.fx_c_parse.proofs.Counts.{words_fit}
use Rattle.fx_c_parse.proofs.parser.read.Goals as goal

pub unit-requires : goal.unit-requires
unit-requires c = words_fit _ _ _ c.as_slice.ensures c.in-Ok.ensures.in_order c.requires
