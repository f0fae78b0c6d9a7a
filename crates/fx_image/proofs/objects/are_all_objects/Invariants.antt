use Rattle.std.proofs.Common.{◌≡◌, drop}
use Rattle.std.specs.List.{list_all}
use Rattle.fx_image.specs.Rules.{is_object}
use Rattle.fx_image.proofs.objects.are_all_objects.Given as goal

abbrev pub invariant-loop-o : goal.invariant-loop-o
invariant-loop-o l = list_all (is_object l.sections) (drop l.o-index l.objects) ≡ list_all (is_object l.sections) l.objects
