use Rattle.std.proofs.Common.{◌∙◌, ap, arith}
use Rattle.fx_machine_model.specs.Boot.{byte_from}
use Rattle.fx_machine.specs.Filling.{over}
use Rattle.fx_machine.proofs.Putting.{object_before}
use Rattle.fx_machine.proofs.filling.put_objects.Goals as goal

pub loop-i-preserved : goal.loop-i-preserved
loop-i-preserved c =
    let o = c.index-objects-i.result in
    let some = c.loop-i-test.true in
    let within = c.loop-i.auto.i in
    λ k lt.
    object_before c.args.objects.now c.loop-i.i o c.put.new.bytes c.loop-i.bytes c.args.bytes.now c.args.start k (omega arith) within c.index-objects-i.is
    (c.put.ensures k (omega arith) ∙ ap (λ text. over (byte_from text o.address) c.args.start c.loop-i.bytes k) c.as_slice.ensures)
    (c.loop-i.invariant k (omega arith))
