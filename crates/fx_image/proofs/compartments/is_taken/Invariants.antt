use Rattle.std.proofs.Common.{◌≡◌, drop}
use Rattle.std.specs.List.{list_any}
use Rattle.std.specs.Str.{bytes_eq}
use Rattle.fx_image.proofs.compartments.is_taken.Given as goal

abbrev pub invariant-loop-c : goal.invariant-loop-c
invariant-loop-c l = list_any (λ c. bytes_eq l.name c.name) (drop l.c-index l.comps) ≡ list_any (λ c. bytes_eq l.name c.name) l.comps
