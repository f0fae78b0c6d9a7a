use Rattle.std.proofs.Common.{◌≡◌, ◌∙◌, ap, arith, get_or, length}
use Rattle.fx_c_ast.specs.ParsedTrees.{param_trees, stmt_trees}
use Rattle.fx_c_types_heads.specs.declared.heads.Head.{Head}
use Rattle.fx_c_types.proofs.Starts.{no_next, next_is}
use Rattle.fx_c_types.proofs.program.next_body.Goals as goal

pub returns-then-number-len : goal.returns-then-number-len
returns-then-number-len c = no_next c.args.heads.now c.args.bodies.now (param_trees c.args.params.now) (stmt_trees c.args.body.now) (omega arith)

pub returns : goal.returns
returns c =
    let f : Head = c.index.result.now in
    let count : c.len-number.result ≡ length c.args.bodies.now.functions.items = omega arith in
    let is : f ≡ get_or c.args.heads.now.functions.items (length c.args.bodies.now.functions.items) f = c.index.ensures ∙ ap (λ n. get_or c.args.heads.now.functions.items n f) count in
    rw (next_is c.args.heads.now c.args.bodies.now (param_trees c.args.params.now) (stmt_trees c.args.body.now) f (omega arith) is) c.function_body.ensures
