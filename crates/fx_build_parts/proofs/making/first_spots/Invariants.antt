use Rattle.std.proofs.Common.{◌≡◌, ◌++◌, drop, map}
use Rattle.fx_grants.specs.declared.grants.FunctionGrants.{FunctionGrants}
use Rattle.fx_build_parts.specs.Parts.{first_spots}
use Rattle.fx_build_parts.proofs.making.first_spots.Given as goal

abbrev pub invariant-loop-f : goal.invariant-loop-f
invariant-loop-f l =
    l.spots.items ++ map (λ (f : FunctionGrants). record { compartment = f.compartment; piece = 0 })
    (drop l.f-index l.g.functions) ≡ first_spots l.g
