use Rattle.fx_c_types_bodies.proofs.Items.{length-local_trees}
use Rattle.fx_c_types.proofs.program.function_of.Goals as goal

pub returns : goal.returns
returns c =
    let count = length-local_trees c.args.head.now.params in
    let ty = c.in_ok-result.ensures in
    let name = c.in_ok-name.ensures in
    cc
