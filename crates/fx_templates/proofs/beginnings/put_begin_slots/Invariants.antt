use Rattle.std.proofs.Common.{◌≡◌, ◌+◌, ◌++◌, length, drop}
use Rattle.fx_templates.specs.Beginnings.{begin_slots}
use Rattle.fx_templates.proofs.beginnings.put_begin_slots.Given as goal

abbrev pub invariant-loop-i : goal.invariant-loop-i
invariant-loop-i l =
    l.out.items ++ begin_slots l.a l.params (l.first + length l.out.items) l.i (drop l.i l.slots)
    ≡ l.fn.out.items ++ begin_slots l.a l.params (l.first + length l.fn.out.items) 0 l.slots
