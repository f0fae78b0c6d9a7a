use Rattle.fx_machine_law.proofs.Found.{keys_are_set_where_listed}
use Rattle.fx_machine_law.proofs.keys_are_set_where_listed.Goals as goal

pub returns : goal.returns
returns c = keys_are_set_where_listed
