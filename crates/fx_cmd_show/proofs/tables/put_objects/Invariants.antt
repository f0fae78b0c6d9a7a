use Rattle.std.proofs.Common.{◌≡◌, ◌++◌, drop}
use Rattle.fx_cmd_show.specs.Lists.{lines_of}
use Rattle.fx_cmd_show.specs.Lines.{object_line}
use Rattle.fx_cmd_show.proofs.tables.put_objects.Given as goal

abbrev pub invariant-loop-object : goal.invariant-loop-object
invariant-loop-object l = l.text ++ lines_of object_line (drop l.object-index l.objects) ≡ l.fn.text ++ lines_of object_line l.objects
