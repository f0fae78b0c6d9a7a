use Rattle.std.proofs.Common.{◌+◌, ◌++◌, length, ap, ◌∙◌}
use Rattle.std.proofs.lemmas.Result.{on_ok_weaker}
use Rattle.fx_templates.specs.Beginnings.{open_frame, begin_slots}
use Rattle.fx_templates.proofs.Labels.{continued}
use Rattle.fx_templates.proofs.beginnings.put_begins.Goals as goal

pub returns : goal.returns
returns c =
    let a = c.args.a.now in
    let t = c.args.t.now in
    let here = c.args.first + length c.args.out.now.items in
    let mid = c.put_open_frame.new.out.items in
    on_ok_weaker c.put_begin_slots.result
    (λ e. continued c.args.first c.args.out.now.items mid c.put_begin_slots.new.out.items (open_frame a c.args.compartment here t)
    (λ k. begin_slots a t.params k 0 t.slots) c.in_ok-put_open_frame.ensures
    (e ∙ ap (λ s. mid ++ begin_slots a t.params (c.args.first + length mid) 0 s) c.as_slice.ensures))
    c.put_begin_slots.ensures
