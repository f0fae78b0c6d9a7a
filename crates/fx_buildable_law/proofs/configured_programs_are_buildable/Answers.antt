use Rattle.fx_buildable_law.proofs.Buildable.{configured_buildable}
use Rattle.fx_buildable_law.proofs.configured_programs_are_buildable.Goals as goal

pub returns : goal.returns
returns c = configured_buildable
