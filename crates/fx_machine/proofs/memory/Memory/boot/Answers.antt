use Rattle.std.proofs.Common.{arith}
use Rattle.fx_machine.proofs.Held.{memory_at_boot}
use Rattle.fx_machine.proofs.memory.Memory.boot.Goals as goal

pub returns-clause-bytes : goal.returns-clause-bytes
returns-clause-bytes c =
    let s = c.in_ok-stacks.ensures.size in
    let t = c.in_ok-sections.ensures.size in
    let w = c.in_ok-word.ensures.size in
    let m = c.in_ok-mail.ensures.size in
    memory_at_boot c.args.image.now (record { stacks = c.in_ok-stacks.stacks; sections = c.in_ok-sections.sections; word = c.in_ok-word.word; mail = c.in_ok-mail.mail })
    (λ k lt. c.in_ok-stacks.ensures.bytes k (omega (arith, s, lt))) (λ k lt. c.in_ok-sections.ensures.bytes k (omega (arith, t, lt))) (λ k lt. c.in_ok-word.ensures.bytes k (omega (arith, w, lt))) (λ k lt. c.in_ok-mail.ensures.bytes k (omega (arith, m, lt)))
