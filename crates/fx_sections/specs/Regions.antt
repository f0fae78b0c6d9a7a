-- How objects lie in a region: at multiples of 16, each at least 16 bytes past the end of the one
-- before it (this project's own layout).
use Rattle.std.specs.Prelude.{ℕ, ◌+◌, ◌/◌, ◌==◌, max, List, [], ◌∷◌, if◌then◌else◌}
use Rattle.fx_c_ast.specs.Layout.{round_up}
use Rattle.fx_sections.specs.declared.regions.Room.{Room}
use Rattle.fx_sections.specs.declared.regions.GlobalSize.{GlobalSize}

-- a region that begins at a place and has no object
abbrev pub empty : ℕ → Room
empty start = record { next = start; end = start }

-- a region with one more object of so many bytes
abbrev pub with_object : Room → ℕ → Room
with_object r size = record { next = round_up (r.next + size + 16) 16; end = r.next + size }

-- a region with these objects too
abbrev pub with_objects : Room → List ℕ → Room
with_objects r [] = r
with_objects r (size ∷ sizes) = with_objects (with_object r size) sizes

-- where objects of these sizes begin, behind those of a region
abbrev pub starts : Room → List ℕ → List ℕ
starts r [] = []
starts r (size ∷ sizes) = r.next ∷ starts (with_object r size) sizes

-- whole pages, at least one
abbrev pub page_count : ℕ → ℕ
page_count bytes = max 1 ((bytes + 4095) / 4096)

-- the sizes of a section's objects, in order
abbrev pub sizes_in : ℕ → List GlobalSize → List ℕ
sizes_in k [] = []
sizes_in k (o ∷ os) = if o.section == k then o.size ∷ sizes_in k os else sizes_in k os
