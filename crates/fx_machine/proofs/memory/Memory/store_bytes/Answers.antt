use Rattle.std.proofs.Common.{◌≡◌, ◌<◌, ◌^◌, ◌∙◌, ap, arith}
use Rattle.std.specs.Prelude.{◌==◌, if◌then◌else◌}
use Rattle.fx_x64_forms.specs.Numbers.{width_bytes}
use Rattle.fx_cpu.specs.Memory.{on}
use Rattle.fx_machine.specs.Memory.{memory_of}
use Rattle.fx_machine_model.proofs.Writing.{partly, stored_more, stored_all}
use Rattle.fx_machine.proofs.memory.Memory.store_bytes.Goals as goal

pub loop-i-preserved : goal.loop-i-preserved
loop-i-preserved c =
    let l = c.loop-i in
    let few = c.bytes.ensures.small in
    let same = c.from-i-end.ensures in
    let inside = c.loop-i-test.true in
    let small : l.i < 8 = omega arith in
    let low : c.args.address < 2 ^ 64 = omega arith in
    record {
      held = λ k. c.set.ensures.held k ∙ l.invariant.held k;
      laid = λ image h. c.set.ensures.laid image (l.invariant.laid image h);
      bytes = λ image.
          stored_more (memory_of image c.args.self.now) (memory_of image l.self) (memory_of image c.set.new.self) c.args.address c.args.value l.i low small (l.invariant.bytes image)
          (λ k. c.set.ensures.byte image k ∙ ap (λ b. if k == on c.args.address l.i then b else memory_of image l.self k) c.byte_of.ensures);
    }

pub returns-clause-bytes : goal.returns-clause-bytes
returns-clause-bytes c =
    let l = c.loop-i in
    let value = c.bytes.ensures.value in
    let same = c.from-i-end.ensures in
    let past = c.loop-i-test.false in
    let within = c.loop-i.auto.i-end in
    let whole : l.i ≡ width_bytes c.args.width = omega arith in
    λ image. stored_all (memory_of image c.args.self.now) (memory_of image l.self) c.args.width c.args.address c.args.value
    (λ k. l.invariant.bytes image k ∙ ap (λ n. partly (memory_of image c.args.self.now) c.args.address c.args.value n k) whole)
