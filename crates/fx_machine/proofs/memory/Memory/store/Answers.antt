use Rattle.std.proofs.Common.{refl, arith}
use Rattle.fx_machine.proofs.Words.{store_stacks, store_sections, store_word, store_mail}
use Rattle.fx_machine.proofs.memory.Memory.store.Goals as goal

pub returns-then-has_word-clause-bytes : goal.returns-then-has_word-clause-bytes
returns-then-has_word-clause-bytes c =
    let m = c.args.self.now in
    let b = c.if-has_word.ensures refl in
    let below = b.below in
    λ image.
    store_stacks image m (record { stacks = c.put_word.new.bytes; sections = m.sections; word = m.word; mail = m.mail }) c.args.width c.args.address c.args.value (omega arith) b.from b.inside c.put_word.ensures.size c.put_word.ensures.bytes refl refl refl

pub returns-then-has_word-2-clause-bytes : goal.returns-then-has_word-2-clause-bytes
returns-then-has_word-2-clause-bytes c =
    let m = c.args.self.now in
    let b = c.if-has_word-2.ensures refl in
    let below = b.below in
    λ image.
    store_sections image m (record { stacks = m.stacks; sections = c.put_word-then-has_word-2.new.bytes; word = m.word; mail = m.mail }) c.args.width c.args.address c.args.value (omega arith) b.from b.below b.inside c.put_word-then-has_word-2.ensures.size c.put_word-then-has_word-2.ensures.bytes refl refl refl

pub returns-then-has_word-3-clause-bytes : goal.returns-then-has_word-3-clause-bytes
returns-then-has_word-3-clause-bytes c =
    let m = c.args.self.now in
    let b = c.if-has_word-3.ensures refl in
    let below = b.below in
    λ image.
    store_word image m (record { stacks = m.stacks; sections = m.sections; word = c.put_word-then-has_word-3.new.bytes; mail = m.mail }) c.args.width c.args.address c.args.value (omega arith) b.from b.below b.inside c.put_word-then-has_word-3.ensures.size c.put_word-then-has_word-3.ensures.bytes refl refl refl

pub returns-then-has_word-4-clause-bytes : goal.returns-then-has_word-4-clause-bytes
returns-then-has_word-4-clause-bytes c =
    let m = c.args.self.now in
    let b = c.if-has_word-4.ensures refl in
    let below = b.below in
    λ image.
    store_mail image m (record { stacks = m.stacks; sections = m.sections; word = m.word; mail = c.put_word-then-has_word-4.new.bytes }) c.args.width c.args.address c.args.value (omega arith) b.from b.below b.inside c.put_word-then-has_word-4.ensures.size c.put_word-then-has_word-4.ensures.bytes refl refl refl
