-- Placements that were worked out by hand, computed from the definitions.
use Rattle.std.proofs.Common.{◌≡◌, ℕ, List, [], ◌∷◌, length, map, refl}
use Rattle.fx_config.specs.declared.configuration.Mechanism.TheVariants.{Full, Ept}
use Rattle.fx_grants.specs.declared.grants.Pair.{Pair}
use Rattle.fx_sections.specs.declared.placement.PlacedSection.{PlacedSection}
use Rattle.fx_sections.specs.declared.regions.GlobalSize.{GlobalSize}
use Rattle.fx_sections.specs.Pairs.{pairs_of, section_of}
use Rattle.fx_sections.specs.Regions.{empty, starts}
use Rattle.fx_sections.specs.Placement.{rooms_from, sections_from, offsets, addresses}

both : ℕ → Pair
both set = record { readers = set; writers = set }

of_size : ℕ → ℕ → GlobalSize
of_size section size = record { section = section; size = size }

placed_at : (readers writers key page pages : ℕ) → PlacedSection
placed_at readers writers key page pages = record { readers = readers; writers = writers; key = key; page = page; pages = pages }

-- Two compartments under full: `int x; long y;` in the first, `char z; __shared(*) long s;` in the second.
pairs : pairs_of 2 (both 1 ∷ both 1 ∷ both 2 ∷ both 3 ∷ []) ≡ both 1 ∷ both 2 ∷ both 3 ∷ []
unfolding both
pairs = refl

globals : List GlobalSize
globals = of_size 0 4 ∷ of_size 0 8 ∷ of_size 1 1 ∷ of_size 2 8 ∷ []

sections : List PlacedSection
sections = placed_at 1 1 2 0x10000 2 ∷ placed_at 2 2 3 0x10003 2 ∷ placed_at 3 3 4 0x10006 1 ∷ []

laid_out : sections_from Full 0 0x10000 (both 1 ∷ both 2 ∷ both 3 ∷ []) (rooms_from 2 globals 0 3) ≡ sections
unfolding both globals sections placed_at of_size
laid_out = refl

globals_at : addresses sections globals (offsets 2 [] globals) ≡ 0x10001010 ∷ 0x10001030 ∷ 0x10004010 ∷ 0x10006000 ∷ []
unfolding globals sections placed_at of_size
globals_at = refl

-- Four compartments, a global for each of the six sets of two and for three of the four sets of three: keys 2 to 15.
fourteen : length (pairs_of 4 (both 3 ∷ both 5 ∷ both 9 ∷ both 6 ∷ both 10 ∷ both 12 ∷ both 7 ∷ both 11 ∷ both 13 ∷ [])) ≡ 14
unfolding both
fourteen = refl

fifteen : length (pairs_of 4 (both 3 ∷ both 5 ∷ both 9 ∷ both 6 ∷ both 10 ∷ both 12 ∷ both 7 ∷ both 11 ∷ both 13 ∷ both 14 ∷ [])) ≡ 15
unfolding both
fifteen = refl

-- one compartment has one pair, which is private and of all
single : pairs_of 1 [] ≡ both 1 ∷ []
unfolding both
single = refl

literals : starts (empty 0x60_0000) (3 ∷ 16 ∷ 1 ∷ []) ≡ 0x60_0000 ∷ 0x60_0020 ∷ 0x60_0040 ∷ []
literals = refl
