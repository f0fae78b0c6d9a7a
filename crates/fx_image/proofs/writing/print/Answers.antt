use Rattle.fx_image.specs.Spelling.{image_spelling}
use Rattle.fx_image.proofs.Room.{roomy}
use Rattle.fx_image.proofs.Joined.{joined}
use Rattle.fx_image.proofs.writing.print.Goals as goal

pub put_all-requires : goal.put_all-requires
put_all-requires c = rw c.as_slice.ensures (roomy c.args.i.now c.requires).names

pub put_table-requires-clause-count : goal.put_table-requires-clause-count
put_table-requires-clause-count c = rw c.as_slice-2.ensures (roomy c.args.i.now c.requires).sections

pub put_objects-requires-clause-each : goal.put_objects-requires-clause-each
put_objects-requires-clause-each c = rw c.as_slice-5.ensures (roomy c.args.i.now c.requires).objects

pub put_table-requires-2-clause-each : goal.put_table-requires-2-clause-each
put_table-requires-2-clause-each c = rw c.as_slice-6.ensures (roomy c.args.i.now c.requires).entries

pub returns : goal.returns
unfolding image_spelling
returns c =
    let comps = rw c.as_slice.ensures at c.in_ok-put_all.ensures in
    let sections = rw c.as_slice-2.ensures at c.in_ok-put_table.ensures in
    let code = rw c.as_slice-3.ensures at c.in_ok-put_block.ensures in
    let literals = rw c.as_slice-4.ensures at c.in_ok-put_block-2.ensures in
    let objects = rw c.as_slice-5.ensures at c.in_ok-put_objects.ensures in
    let entries = rw c.as_slice-6.ensures at c.in_ok-put_table-2.ensures in
    let stubs = rw c.as_slice-7.ensures at c.in_ok-put_table-3.ensures in
    joined _ _ _ _ _ _ _ _ _ _ _ _ _ _ _ _ _ _ _ c.new-out.ensures.items c.in_ok-put_head.ensures comps sections code literals objects entries stubs c.in_ok-put_tail.ensures
