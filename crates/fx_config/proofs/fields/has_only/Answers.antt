use Rattle.std.proofs.Common.{refl}
use Rattle.fx_config.proofs.Views.{keys-members_view}
use Rattle.fx_config.proofs.fields.has_only.Goals as goal

pub loop-key-init : goal.loop-key-init
loop-key-init c = rw (keys-members_view c.args.table.now.entries, c.into_iter-key-iterator.ensures.into_iter_gives, c.keys-key-items.ensures.rest) refl
