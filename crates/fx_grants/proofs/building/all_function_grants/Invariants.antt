use Rattle.std.proofs.Common.{◌≡◌, ◌<◌, All, map, take}
use Rattle.fx_grants.specs.GrantSets.{function_grants}
use Rattle.fx_grants.specs.declared.grants.FunctionGrants.{FunctionGrants}
use Rattle.fx_grants.proofs.building.all_function_grants.Given as goal

abbrev pub invariant-loop-f : goal.invariant-loop-f
invariant-loop-f l = record {
  grants : l.found.items ≡ map (function_grants l.homes) (take l.f-index l.functions);
  homes : All (λ (g : FunctionGrants). g.compartment < 16) l.found.items;
}
