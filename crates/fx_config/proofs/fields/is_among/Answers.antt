use Rattle.std.proofs.Common.{sym, ◌∙◌}
use Rattle.fx_config.proofs.Views.{list_any-map}
use Rattle.fx_config.proofs.fields.is_among.Goals as goal

pub returns : goal.returns
returns c = c.contains.ensures.value ∙ sym (list_any-map _ _ c.args.texts.now)
