use Rattle.fx_linker_law.proofs.Objects.{objects}
use Rattle.fx_linker_law.proofs.objects_are_met.Goals as goal

pub returns : goal.returns
returns c = objects
