use Rattle.std.proofs.Common.{rules}
use Rattle.fx_c_types_heads.proofs.Lists.{length-param_trees}
use Rattle.fx_c_types_heads.proofs.declare.are_few.Goals as goal

pub returns : goal.returns
returns c = rw (length-param_trees c.args.params.now) (search rules)
