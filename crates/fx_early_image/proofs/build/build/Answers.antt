use Rattle.fx_early_image.proofs.Rules.{is_built, are_bytes}
use Rattle.fx_early_image.proofs.build.build.Goals as goal

pub returns-clause-rules : goal.returns-clause-rules
returns-clause-rules c = is_built c.args.constants.now _ _ _ c.requires.few (are_bytes _ c.type_inv.constants) c.in_ok-image.ensures c.in_ok-code.ensures.range c.in_ok-code.ensures.bytes
