use Rattle.std.proofs.Common.{◌≡◌, ◌++◌, length, ap, ◌∙◌, arith}
use Rattle.fx_gates_call.specs.Runtime.{runtime_pieces}
use Rattle.fx_gates_call.proofs.runtime.emit_runtime.Goals as goal

pub returns-clause-code : goal.returns-clause-code
returns-clause-code c =
    let first : c.in_ok-first.first ≡ length c.args.out.now.items = omega (arith, c.in_ok-first.ensures) in
    c.in_ok-extend_from_slice.ensures.items
    ∙ ap (λ z. c.args.out.now.items ++ z) (c.as_slice.ensures.value ∙ c.in_ok-built.ensures.code ∙ ap (runtime_pieces c.args.p.now c.args.at.now c.args.c.now) first)
