use Rattle.std.proofs.Common.{◌≡◌, ◌∙◌, length, arith}
use Rattle.std.proofs.lemmas.Grind.{common_steps}
use Rattle.fx_c_mean_acts.proofs.Cells.{all_set}
use Rattle.fx_c_mean_acts.proofs.calls.value_cells.Goals as goal

pub returns : goal.returns
returns c = λ some.
    let many : length c.from_vec-cells.result ≡ c.args.bytes = grind (arith, common_steps) in
    c.set_value.ensures ∙ all_set c.from_vec-cells.result c.args.bytes c.args.v some many
