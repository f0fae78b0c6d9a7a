use Rattle.std.proofs.Common.{sym}
use Rattle.fx_c_types_rules.proofs.Rows.{other_count}
use Rattle.fx_c_types_rules.proofs.calls.are_passed.Goals as goal

pub returns-then-params-args : goal.returns-then-params-args
returns-then-params-args c = sym (other_count c.args.params.now c.args.args.now c.if-params-args.true)
