use Rattle.fx_buildable_law.proofs.Buildable.{placed_buildable}
use Rattle.fx_buildable_law.proofs.placed_programs_are_buildable.Goals as goal

pub returns : goal.returns
returns c = placed_buildable
