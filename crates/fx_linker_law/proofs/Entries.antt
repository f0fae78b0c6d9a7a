-- The entries of an image of parts.
use Rattle.std.proofs.Common.{◌≡◌, ◌<◌, ℕ, zero, suc, ◌+◌, ◌-◌, ◌*◌, ◌^◌, true, nat_lt, List, [], ◌∷◌, length, map}
use Rattle.std.proofs.Common.{ap, ◌∙◌, arith}
use Rattle.std.specs.Prelude.{slice_index, slice_index_or, slice_get}
use Rattle.std.specs.List.{list_all}
use Rattle.std.proofs.lemmas.Bool.{lt-ltb}
use Rattle.std.proofs.lemmas.List.Sums.{list_all-from_AllPass}
use Rattle.fx_x64_forms.specs.declared.piece.Piece.{Piece}
use Rattle.fx_config.specs.declared.configuration.Compartment.{Compartment}
use Rattle.fx_config.specs.declared.configuration.Config.{Config}
use Rattle.fx_image.specs.declared.forms.EntryRec.{EntryRec}
use Rattle.fx_image.specs.declared.forms.Section.{Section}
use Rattle.fx_image.specs.Rules as image
use Rattle.fx_linker.specs.Places.{pieces_size, whole_pages, range_starts}
use Rattle.fx_linker.specs.Data.{section_of, comps_from}
use Rattle.fx_linker.specs.Linked.{image_of}
use Rattle.fx_linker_law.specs.Premises.{IsEntryOf}
use Rattle.fx_linker_law.specs.Laws.{EntriesAreMet}
use Rattle.fx_linker_law.proofs.Tests.{three}
use Rattle.fx_linker_law.proofs.Lengths.{page_least}
use Rattle.fx_linker_law.proofs.Comps.{Follow, onward, size_here, comps_length, all_follow}

-- a compartment's range has room for what its pieces have room for
room : (k : Config) (ss : List Section) (starts : List ℕ) (c at : ℕ) (rs : List (List Piece)) (cs : List Compartment) (j number : ℕ) → length rs ≡ length cs → Follow starts c at rs
    → j < length rs → 16 * number < pieces_size (slice_index_or rs j []) → image.has_room (slice_get (comps_from k ss starts c cs) j) number ≡ true
room k ss starts c at [] cs j number same from less has = absurd (omega arith)
room k ss starts c at (r ∷ rs) [] j number same from less has = absurd (omega arith)
room k ss starts c at (r ∷ rs) (x ∷ cs) zero number same from less has =
    lt-ltb (16 * number) (slice_index starts (c + 1) - slice_index starts c) (omega (arith, size_here starts c at r rs from, page_least (pieces_size r)))
room k ss starts c at (r ∷ rs) (x ∷ cs) (suc j) number same from less has =
    room k ss starts (c + 1) (at + whole_pages (pieces_size r)) rs cs j number (omega arith) (onward starts c at r rs from) (omega arith) has

entry : (k : Config) (ss : List Section) (rs : List (List Piece)) (e : EntryRec) → length rs ≡ length k.compartments → IsEntryOf rs (length k.compartments) e
    → image.is_entry (comps_from k ss (range_starts 0 rs) 0 k.compartments) e ≡ true
entry k ss rs e same has =
    let comps = comps_from k ss (range_starts 0 rs) 0 k.compartments in
    let count : length comps ≡ length k.compartments = comps_length k ss (range_starts 0 rs) 0 k.compartments in
    three (image.is_c_name e.name) (image.has_room (slice_get comps e.compartment) e.number) (nat_lt e.callers (2 ^ length comps))
    has.0 (room k ss (range_starts 0 rs) 0 0 rs k.compartments e.compartment e.number same (all_follow rs) has.1 has.2)
    (ap (λ n. nat_lt e.callers (2 ^ n)) count ∙ lt-ltb e.callers (2 ^ length k.compartments) has.3)

pub entries : EntriesAreMet
unfolding image_of
entries parts p places k made has =
    let ss = map section_of places.sections in
    let comps = comps_from k ss (range_starts 0 parts.ranges) 0 k.compartments in
    three (nat_lt (length parts.entries) (2 ^ 16)) (list_all (image.is_entry comps) parts.entries) (image.are_counted 0 0 parts.entries)
    (lt-ltb (length parts.entries) (2 ^ 16) has.few)
    (list_all-from_AllPass (image.is_entry comps) parts.entries (λ j d less. entry k ss parts.ranges (slice_index_or parts.entries j d) made.ranges (has.each j d less)))
    has.counted
