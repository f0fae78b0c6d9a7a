use Rattle.std.proofs.Common.{◌≡◌, ◌++◌, map, take}
use Rattle.fx_config.proofs.places.append_names.Given as goal

abbrev pub invariant-loop-name : goal.invariant-loop-name
invariant-loop-name l = map (λ s. s.now) l.found.items ≡ map (λ s. s.now) l.initial.found.items ++ take l.name-index l.names
