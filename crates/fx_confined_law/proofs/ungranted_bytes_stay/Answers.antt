use Rattle.fx_confined_law.proofs.Machines.{ungranted_bytes_stay}
use Rattle.fx_confined_law.proofs.ungranted_bytes_stay.Goals as goal

pub returns : goal.returns
returns c = ungranted_bytes_stay
