use Rattle.fx_image_migration_law.proofs.Alike.{keeps}
use Rattle.fx_image_migration_law.proofs.migration_keeps.Goals as goal

pub returns : goal.returns
returns c = keeps
