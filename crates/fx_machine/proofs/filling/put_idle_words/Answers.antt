use Rattle.std.proofs.Common.{◌≡◌, ℕ, ◌+◌, ◌*◌, ◌/◌, ◌%◌, ◌^◌, ◌<◌, length, ◌∙◌, ap, arith}
use Rattle.std.specs.Prelude.{slice_index}
use Rattle.fx_image.specs.Layout.{stack_span}
use Rattle.fx_machine_model.specs.Boot.{byte_from, idle_place, idle_word}
use Rattle.fx_machine.specs.Filling.{over, idle_below}
use Rattle.fx_machine_model.proofs.Bytes.{low_byte}
use Rattle.fx_machine.proofs.Putting.{word_more}
use Rattle.fx_machine.proofs.filling.put_idle_words.Goals as goal

pub loop-stack-preserved : goal.loop-stack-preserved
loop-stack-preserved c =
    let image = c.args.image.now in
    let text = c.to_le_bytes-word.result in
    let n = c.loop-stack.stack in
    let pages = c.from.ensures in
    let span = c.stack_span.ensures.value in
    let spelled = c.to_le_bytes-word.ensures in
    let long : length text ≡ 8 = ap length spelled in
    let spells : (i : ℕ) → i < 8 → slice_index text i ≡ idle_word image / 256 ^ i % 256 =
    λ i lt. ap (λ l. slice_index l i) spelled ∙ low_byte (0x400000 + c.from-2.result) i lt ∙ ap (λ v. (0x400000 + v) / 256 ^ i % 256) c.from-2.ensures in
    let times : n * c.stack_span.result ≡ n * stack_span image = ap (λ s. n * s) span in
    λ k lt.
    word_more (stack_span image) (idle_place image) (idle_word image) text (omega arith) long spells n c.put.new.bytes c.loop-stack.bytes c.args.bytes.now c.args.start k
    (c.put.ensures k (omega arith) ∙ ap (λ a. over (byte_from text a) c.args.start c.loop-stack.bytes k) (omega arith))
    (c.loop-stack.invariant k (omega arith))

pub returns : goal.returns
returns c =
    let count = c.stack_count-stack-end.ensures in
    let past = c.loop-stack-test.false in
    let within = c.loop-stack.auto.stack-end in
    λ k lt. c.loop-stack.invariant k (omega arith) ∙ ap (λ n. over (idle_below c.args.image.now n) c.args.start c.args.bytes.now k) (omega arith)
