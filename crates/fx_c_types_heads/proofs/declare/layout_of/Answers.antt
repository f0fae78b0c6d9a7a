use Rattle.fx_c_types_heads.proofs.Fields.{types_are}
use Rattle.fx_c_types_heads.proofs.Lists.{small_layout, large_layout}
use Rattle.fx_c_types_heads.proofs.declare.layout_of.Goals as goal

pub returns-in-Some-clause-layout : goal.returns-in-Some-clause-layout
returns-in-Some-clause-layout c = rw (types_are c.args.members.now) (small_layout _ _ c.in-Some.ensures.0 c.in-Some.ensures.1)

pub returns-in-None-clause-layout : goal.returns-in-None-clause-layout
returns-in-None-clause-layout c = rw (types_are c.args.members.now) (λ _. large_layout _ c.in-None.ensures)
