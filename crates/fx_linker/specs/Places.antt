-- Where the pieces of an image's code stand, as offsets in the code (this project's own layout).
use Rattle.std.specs.Prelude.{ℕ, ◌+◌, ◌*◌, ◌/◌, List, [], ◌∷◌, ◌++◌, length, map, slice_index}
use Rattle.std.specs.Prelude.{slice_index_or}
use Rattle.fx_x64_forms.specs.declared.piece.Piece.{Piece}
use Rattle.fx_x64_code.specs.Spelling.{spelling}
use Rattle.fx_linker.specs.declared.parts.PartSpot.{PartSpot}
use Rattle.fx_linker.specs.declared.layout.Layout.{Layout}

-- The bytes of a piece, which are as many whatever its displacement.
abbrev pub piece_size : Piece → ℕ
piece_size p = length (spelling p.inst)

abbrev pub pieces_size : List Piece → ℕ
pieces_size [] = 0
pieces_size (p ∷ ps) = piece_size p + pieces_size ps

-- where pieces begin that follow one another from a place on, and where the last one ends
abbrev pub places_from : ℕ → List Piece → List ℕ
places_from at [] = at ∷ []
places_from at (p ∷ ps) = at ∷ places_from (at + piece_size p) ps

-- so many bytes, filled up to whole pages
abbrev pub whole_pages : ℕ → ℕ
whole_pages n = (n + 4095) / 4096 * 4096

-- where ranges begin that follow one another from a place on, and where the last one ends
abbrev pub range_starts : ℕ → List (List Piece) → List ℕ
range_starts at [] = at ∷ []
range_starts at (r ∷ rs) = at ∷ range_starts (at + whole_pages (pieces_size r)) rs

-- where the pieces of each of them stand
abbrev pub range_places : ℕ → List (List Piece) → List (List ℕ)
range_places at [] = []
range_places at (r ∷ rs) = places_from at r ∷ range_places (at + whole_pages (pieces_size r)) rs

-- the bytes of ranges
abbrev pub ranges_size : List (List Piece) → ℕ
ranges_size [] = 0
ranges_size (r ∷ rs) = whole_pages (pieces_size r) + ranges_size rs

-- the ranges of the compartments in order from 0 on, and behind them the runtime's range
abbrev pub layout_of : List (List Piece) → List Piece → Layout
layout_of ranges runtime = record {
  starts = range_starts 0 ranges;
  ranges = range_places 0 ranges;
  runtime = places_from (ranges_size ranges) runtime;
  size = ranges_size ranges + whole_pages (pieces_size runtime);
}

-- the place of a piece of a range
abbrev pub spot_place : Layout → PartSpot → ℕ
spot_place at s = slice_index (slice_index_or at.ranges s.compartment []) s.piece

-- by function, where its first piece stands
abbrev pub function_places : Layout → List PartSpot → List ℕ
function_places at spots = map (spot_place at) spots
