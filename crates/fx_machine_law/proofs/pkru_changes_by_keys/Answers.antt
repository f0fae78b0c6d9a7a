use Rattle.fx_machine_law.proofs.Keys.{pkru_changes_by_keys}
use Rattle.fx_machine_law.proofs.pkru_changes_by_keys.Goals as goal

pub returns : goal.returns
returns c = pkru_changes_by_keys
