use Rattle.fx_given_law.proofs.Given.{configured_given}
use Rattle.fx_given_law.proofs.configured_programs_are_given.Goals as goal

pub returns : goal.returns
returns c = configured_given
