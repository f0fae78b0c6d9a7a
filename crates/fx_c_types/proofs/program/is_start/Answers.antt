use Rattle.std.proofs.Common.{◌&&◌, sym, ap, arith}
use Rattle.fx_c_ast.specs.CheckedTrees.{ty_tree}
use Rattle.fx_c_types_rules.specs.Types.{category}
use Rattle.fx_c_types.specs.Programs.{gives_status}
use Rattle.fx_c_types.proofs.Lists.{some_params}
use Rattle.fx_c_types.proofs.program.is_start.Goals as goal

pub returns-then-len-gt0 : goal.returns-then-len-gt0
returns-then-len-gt0 c = sym (ap (λ b. b && gives_status (category (ty_tree c.args.head.now.result))) (some_params c.args.head.now.params (omega arith)))
