use Rattle.fx_config_law.proofs.Configurations.{read_bounds}
use Rattle.fx_config_law.proofs.read_configurations_are_sound.Goals as goal

pub returns : goal.returns
returns c = read_bounds
