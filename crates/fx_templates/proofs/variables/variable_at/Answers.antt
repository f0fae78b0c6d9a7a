use Rattle.std.proofs.Common.{arith}
use Rattle.fx_match_rel.specs.Frames.{IsNear}
use Rattle.fx_templates.proofs.Lists.{all_at}
use Rattle.fx_templates.proofs.variables.variable_at.Goals as goal

pub variable_of-requires : goal.variable_of-requires
variable_of-requires c =
    all_at IsNear c.args.slots.now c.from.result c.in-Some.s.now c.requires
    c.in-Some.ensures.lookup.3.0 (c.in-Some.ensures.lookup.4 (omega arith) c.in-Some.s.now)
