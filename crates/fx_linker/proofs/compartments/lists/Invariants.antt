use Rattle.std.proofs.Common.{◌≡◌, drop, eqb}
use Rattle.std.specs.List.{list_any}
use Rattle.fx_linker.proofs.compartments.lists.Given as goal

abbrev pub invariant-loop-d : goal.invariant-loop-d
invariant-loop-d l = list_any (λ d. eqb d l.device) (drop l.d-index l.d-items) ≡ list_any (λ d. eqb d l.device) l.d-items
