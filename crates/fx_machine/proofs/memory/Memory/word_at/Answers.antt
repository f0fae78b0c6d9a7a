use Rattle.std.proofs.Common.{◌-◌, refl, ◌∙◌, ap, arith}
use Rattle.fx_cpu.specs.Memory.{word_at}
use Rattle.fx_cpu.specs.Flat.{bytes_of}
use Rattle.fx_image.specs.Layout.{first_stack}
use Rattle.fx_machine_model.specs.Regions.{word_start, sections_start}
use Rattle.fx_machine.specs.Memory.{mail_start}
use Rattle.fx_machine.proofs.Words.{load_stacks, load_sections, load_word, load_mail}
use Rattle.fx_machine.proofs.memory.Memory.word_at.Goals as goal

pub returns-then-has_word : goal.returns-then-has_word
returns-then-has_word c =
    let b = c.if-has_word.ensures refl in
    let below = b.below in
    c.word_in.ensures ∙ ap (λ bytes. word_at (bytes_of bytes) c.args.width (c.args.address - first_stack)) c.deref.ensures.value
    ∙ load_stacks c.args.image.now c.args.self.now c.args.width c.args.address b.from (omega arith) b.inside

pub returns-then-has_word-2 : goal.returns-then-has_word-2
returns-then-has_word-2 c =
    let b = c.if-has_word-2.ensures refl in
    let below = b.below in
    c.word_in-then-has_word-2.ensures ∙ ap (λ bytes. word_at (bytes_of bytes) c.args.width (c.args.address - sections_start)) c.deref-then-has_word-2.ensures.value
    ∙ load_sections c.args.image.now c.args.self.now c.args.width c.args.address b.from b.below b.inside

pub returns-then-has_word-3 : goal.returns-then-has_word-3
returns-then-has_word-3 c =
    let b = c.if-has_word-3.ensures refl in
    let below = b.below in
    c.word_in-then-has_word-3.ensures ∙ ap (λ bytes. word_at (bytes_of bytes) c.args.width (c.args.address - word_start)) c.deref-then-has_word-3.ensures.value
    ∙ load_word c.args.image.now c.args.self.now c.args.width c.args.address b.from b.below b.inside

pub returns-then-has_word-4 : goal.returns-then-has_word-4
returns-then-has_word-4 c =
    let b = c.if-has_word-4.ensures refl in
    let below = b.below in
    c.word_in-then-has_word-4.ensures ∙ ap (λ bytes. word_at (bytes_of bytes) c.args.width (c.args.address - mail_start)) c.deref-then-has_word-4.ensures.value
    ∙ load_mail c.args.image.now c.args.self.now c.args.width c.args.address b.from b.below b.inside
