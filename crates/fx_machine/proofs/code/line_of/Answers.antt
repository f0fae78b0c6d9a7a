use Rattle.std.proofs.Common.{◌≡◌, ap, sym, ◌∙◌, length, arith}
use Rattle.fx_x64_code.proofs.Lengths.{spelling_lengths}
use Rattle.std.proofs.lemmas.List.{length-take-le}
use Rattle.fx_x64_code.specs.Spelling.{spelling}
use Rattle.fx_machine.proofs.code.line_of.Goals as goal

pub overflow_cast-result : goal.overflow_cast-result
overflow_cast-result c =
    let s = c.in-Some.ensures.spelled in
    let n : length (spelling c.in-Some.inst) ≡ c.in-Some.length = ap length (sym s.0.1) ∙ length-take-le c.in-Some.length c.args.text.now s.1 in
    let few = spelling_lengths c.in-Some.inst s.0.0 in
    omega arith
