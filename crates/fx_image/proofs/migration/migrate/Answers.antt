use Rattle.fx_image.proofs.Migrated.{migrated_result}
use Rattle.fx_image.proofs.migration.migrate.Goals as goal

pub returns-clause-rules : goal.returns-clause-rules
returns-clause-rules c = migrated_result c.args.i.now c.copy_image.result c.requires c.copy_image.ensures
