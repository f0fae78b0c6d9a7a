use Rattle.std.proofs.Common.{◌≡◌, map, take}
use Rattle.fx_image.specs.declared.forms.Obj.{Obj}
use Rattle.fx_image.proofs.objects.object_names.Given as goal

abbrev pub invariant-loop-o : goal.invariant-loop-o
invariant-loop-o l = map (λ s. s.now) l.found.items ≡ map (λ (o : Obj). o.name) (take l.o-index l.objects)
