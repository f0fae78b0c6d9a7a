use Rattle.std.proofs.Common.{◌+◌, ◌++◌, length, ap, ◌∙◌}
use Rattle.std.proofs.lemmas.Result.{on_ok_weaker}
use Rattle.fx_templates.specs.Beginnings.{test_room, stack_full, make_frame, zero_first}
use Rattle.fx_templates.proofs.Labels.{four_joined}
use Rattle.fx_templates.proofs.beginnings.put_open_frame.Goals as goal

pub returns : goal.returns
returns c =
    let a = c.args.a.now in
    let t = c.args.t.now in
    let old = c.args.out.now.items in
    let over = c.args.first + length old + 12 in
    let framed = c.put_make_frame.new.out.items in
    on_ok_weaker c.put_zero_first.result
    (λ e. four_joined old c.put_test_room.new.out.items c.put_stack_full.new.out.items framed c.put_zero_first.new.out.items
    (test_room a c.args.compartment t.size over) (stack_full a c.args.compartment) (make_frame t.size) (zero_first t.params (length t.slots))
    (c.in_ok-put_test_room.ensures ∙ ap (λ n. old ++ test_room a c.args.compartment t.size n) c.in_ok-over.ensures)
    c.in_ok-put_stack_full.ensures c.in_ok-put_make_frame.ensures
    (e ∙ ap (λ n. framed ++ zero_first t.params n) c.len.ensures))
    c.put_zero_first.ensures
