use Rattle.std.proofs.Common.{refl}
use Rattle.fx_config.proofs.Views.{elements-items_view}
use Rattle.fx_config.proofs.fields.array.Goals as goal

pub returns-in-Some : goal.returns-in-Some
returns-in-Some c = rw (← c.in-Some.ensures, elements-items_view, c.deref.ensures.value) refl
