use Rattle.std.proofs.Common.{◌≡◌, drop}
use Rattle.std.specs.List.{list_all}
use Rattle.fx_image.specs.Rules.{is_c_name}
use Rattle.fx_image.proofs.compartments.have_c_names.Given as goal

abbrev pub invariant-loop-c : goal.invariant-loop-c
invariant-loop-c l = list_all (λ c. is_c_name c.name) (drop l.c-index l.comps) ≡ list_all (λ c. is_c_name c.name) l.comps
