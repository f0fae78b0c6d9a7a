use Rattle.fx_built_parts_law.proofs.Homes.{granted_homes}
use Rattle.fx_built_parts_law.proofs.grants_give_homes.Goals as goal

pub returns : goal.returns
returns c = granted_homes
