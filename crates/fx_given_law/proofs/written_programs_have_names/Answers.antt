use Rattle.fx_given_law.proofs.Names.{written_names}
use Rattle.fx_given_law.proofs.written_programs_have_names.Goals as goal

pub returns : goal.returns
returns c = written_names
