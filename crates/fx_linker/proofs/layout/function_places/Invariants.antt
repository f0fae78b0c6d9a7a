use Rattle.std.proofs.Common.{◌≡◌, map, take}
use Rattle.fx_linker.specs.Places.{spot_place}
use Rattle.fx_linker.proofs.layout.function_places.Given as goal

abbrev pub invariant-loop-spot : goal.invariant-loop-spot
invariant-loop-spot l = l.places.items ≡ map (spot_place l.at) (take l.spot-index l.spots)
