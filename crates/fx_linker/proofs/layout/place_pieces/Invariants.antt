use Rattle.std.proofs.Common.{◌≡◌, ◌+◌, ◌++◌, drop}
use Rattle.fx_linker.specs.Places.{pieces_size, places_from}
use Rattle.fx_linker.proofs.layout.place_pieces.Given as goal

-- what is placed, and what is left to place, are the whole
abbrev pub invariant-loop-piece : goal.invariant-loop-piece
invariant-loop-piece l = record {
  places : l.places.items ++ places_from l.at (drop l.piece-index l.pieces) ≡ places_from l.start l.pieces;
  size : l.size + pieces_size (drop l.piece-index l.pieces) ≡ pieces_size l.pieces;
}
