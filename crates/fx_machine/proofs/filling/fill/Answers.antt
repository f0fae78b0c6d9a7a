use Rattle.std.proofs.Common.{◌+◌, ◌∙◌, ap, arith}
use Rattle.fx_machine_model.specs.Boot.{boot_byte, byte_from, object_byte, idle_byte}
use Rattle.fx_machine.specs.Filling.{over}
use Rattle.fx_machine.proofs.Putting.{put_in_order}
use Rattle.fx_machine.proofs.filling.fill.Goals as goal

pub returns : goal.returns
unfolding boot_byte
returns c =
    let image = c.args.image.now in
    let start = c.args.start in
    λ k lt.
    put_in_order (byte_from image.code 0x400000 (start + k)) (byte_from image.literals 0x600000 (start + k)) (object_byte image.objects (start + k)) (idle_byte image (start + k)) _ _ _ _ _
    (c.put-2.ensures k (omega arith) ∙ ap (λ text. over (byte_from text 0x400000) start c.put.new.bytes k) c.as_slice-3.ensures)
    (c.put.ensures k (omega arith) ∙ ap (λ text. over (byte_from text 0x600000) start c.put_objects.new.bytes k) c.as_slice-2.ensures)
    (c.put_objects.ensures k (omega arith) ∙ ap (λ objects. over (object_byte objects) start c.put_idle_words.new.bytes k) c.as_slice.ensures)
    (c.put_idle_words.ensures k lt)
    (c.requires.zeros k lt)
