use Rattle.std.proofs.Common.{◌/◌, ◌%◌}
use Rattle.std.proofs.lemmas.Result.{on_ok_weaker}
use Rattle.fx_templates_core.specs.Constants.{first_part, next_parts}
use Rattle.fx_templates_core.proofs.Joining.{joined}
use Rattle.fx_templates_core.proofs.constants.put_built.Goals as goal

pub returns : goal.returns
returns c =
    on_ok_weaker c.put_next_parts.result
    (λ e. joined _ _ _ (first_part c.args.dst (c.args.n / 0x1000000000000 % 0x10000)) (next_parts c.args.dst c.args.n) c.in_ok-put_first_part.ensures e)
    c.put_next_parts.ensures
