use Rattle.std.proofs.Common.{refl}
use Rattle.fx_machine.proofs.Held.{set_stacks, set_sections, set_word, set_mail, held_in_stacks, held_in_sections, held_in_word, held_in_mail}
use Rattle.fx_machine.proofs.memory.Memory.set.Goals as goal

pub returns-then-address-ge-STACKS-clause-byte : goal.returns-then-address-ge-STACKS-clause-byte
returns-then-address-ge-STACKS-clause-byte c =
    let m = c.args.self.now in
    let a = c.args.address in
    let from = c.if-address-ge-STACKS.true in
    (set_stacks m (record { stacks = c.set_byte.new.bytes; sections = m.sections; word = m.word; mail = m.mail }) a c.args.value c.set_byte.ensures refl refl refl from (held_in_stacks m a c.requires from)).byte

pub returns-then-address-ge-SECTIONS-clause-byte : goal.returns-then-address-ge-SECTIONS-clause-byte
returns-then-address-ge-SECTIONS-clause-byte c =
    let m = c.args.self.now in
    let a = c.args.address in
    let to = c.if-address-ge-STACKS.false in
    let from = c.if-address-ge-SECTIONS.true in
    (set_sections m (record { stacks = m.stacks; sections = c.set_byte-then-address-ge-SECTIONS.new.bytes; word = m.word; mail = m.mail }) a c.args.value refl c.set_byte-then-address-ge-SECTIONS.ensures refl refl to from (held_in_sections m a c.requires from to)).byte

pub returns-then-address-ge-WORD-clause-byte : goal.returns-then-address-ge-WORD-clause-byte
returns-then-address-ge-WORD-clause-byte c =
    let m = c.args.self.now in
    let a = c.args.address in
    let to = c.if-address-ge-SECTIONS.false in
    let from = c.if-address-ge-WORD.true in
    (set_word m (record { stacks = m.stacks; sections = m.sections; word = c.set_byte-then-address-ge-WORD.new.bytes; mail = m.mail }) a c.args.value refl refl c.set_byte-then-address-ge-WORD.ensures refl to from (held_in_word m a c.requires from to)).byte

pub returns-then-address-ge-MAIL-clause-byte : goal.returns-then-address-ge-MAIL-clause-byte
returns-then-address-ge-MAIL-clause-byte c =
    let m = c.args.self.now in
    let a = c.args.address in
    let to = c.if-address-ge-WORD.false in
    let from = c.if-address-ge-MAIL.true in
    (set_mail m (record { stacks = m.stacks; sections = m.sections; word = m.word; mail = c.set_byte-then-address-ge-MAIL.new.bytes }) a c.args.value refl refl refl c.set_byte-then-address-ge-MAIL.ensures to from (held_in_mail m a c.requires from to)).byte
