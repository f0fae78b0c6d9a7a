-- The fields of an image of parts, one by one.
use Rattle.std.proofs.Common.{◌≡◌, ◌≤◌, ◌<◌, ℕ, ◌%◌, Bool, true, false, ◌&&◌, ◌==◌, nat_le, nat_lt, List, length, refl, sym, ap, ◌∙◌, arith}
use Rattle.std.specs.Prelude.{cond, map, slice_index, if◌then◌else◌}
use Rattle.std.specs.List.{list_all}
use Rattle.std.proofs.lemmas.Bool.{and_from, and_parts, lt-ltb, le-leb, leb-true, eq-eqb}
use Rattle.fx_config.specs.declared.configuration.Config.{Config}
use Rattle.fx_config.specs.declared.configuration.Mechanism.{Mechanism}
use Rattle.fx_config.specs.declared.configuration.Mechanism.TheVariants.{Call, Light, Full, Ept}
use Rattle.fx_c_ast.specs.declared.checked.TProgram.{TProgram}
use Rattle.fx_sections.specs.declared.placement.Placement.{Placement}
use Rattle.fx_image.specs.declared.forms.Comp.{Comp}
use Rattle.fx_image.specs.Rules.{is_mechanism, is_count, are_stacks, are_ranges, ranges_end, is_start}
use Rattle.fx_linker.specs.declared.parts.Parts.{Parts}
use Rattle.fx_linker.specs.Places.{pieces_size, range_starts, ranges_size}
use Rattle.fx_linker.specs.Data.{mechanism_number, section_of, comps_from, starts_from}
use Rattle.fx_linker.specs.Linked.{parts_layout, home_of, code_of, image_of}
use Rattle.fx_linker_law.specs.Premises.{IsMade}
use Rattle.fx_linker_law.specs.Laws.{HeadsAreMet, CompartmentsAreMet, CodeIsMet, AbortsAreMet, OwnersAreMet, StartsAreMet}
use Rattle.fx_linker_law.proofs.Tests.{three}
use Rattle.fx_linker_law.proofs.Lengths.{code_length, size_whole, page_least, place_within}
use Rattle.fx_linker_law.proofs.Comps.{comps_length, named, distinct, ranged, ranges_sum, all_follow}
use Rattle.fx_linker_law.proofs.Data.{owners_within}
use Rattle.fx_linker_law.proofs.Stacks.{starts_length, started}

-- the compartments of the image
abbrev comps_of : Parts → Placement → Config → List Comp
comps_of parts places k = comps_from k (map section_of places.sections) (range_starts 0 parts.ranges) 0 k.compartments

count_of : (parts : Parts) (places : Placement) (k : Config) → length (comps_of parts places k) ≡ length k.compartments
count_of parts places k = comps_length k (map section_of places.sections) (range_starts 0 parts.ranges) 0 k.compartments

some_compartment : (m n : ℕ) → is_count m n ≡ true → 0 < n
some_compartment m n h = leb-true 1 n (and_parts (nat_le 1 n) (nat_le n (if m == 3 then 16 else 8)) h).0

known_mechanism : (m : Mechanism) → is_mechanism (mechanism_number m) ≡ true
known_mechanism Call = refl
known_mechanism Light = refl
known_mechanism Full = refl
known_mechanism Ept = refl

stacks_met : (pages : ℕ) → 1 ≤ pages → pages ≤ 64 → are_stacks 2 pages 16 ≡ true
stacks_met pages least most = and_from (nat_le 1 pages && nat_le pages 64) true (and_from (nat_le 1 pages) (nat_le pages 64) (le-leb 1 pages least) (le-leb pages 64 most)) refl

pub heads : HeadsAreMet
unfolding image_of
heads parts p places k sound made = record {
  version = refl;
  mechanism = known_mechanism k.mechanism;
  count = ap (is_count (mechanism_number k.mechanism)) (count_of parts places k) ∙ sound.count;
  stacks = stacks_met k.stack_pages sound.least sound.most;
  scheduler = lt-ltb k.scheduler (length (comps_of parts places k)) (omega (arith, count_of parts places k, sound.scheduler));
  home = lt-ltb (home_of parts p) (length (comps_of parts places k)) (omega (arith, count_of parts places k, made.home));
}

pub compartments : CompartmentsAreMet
unfolding image_of
compartments parts p places k sound made =
    let ss = map section_of places.sections in
    let starts = range_starts 0 parts.ranges in
    three _ _ (are_ranges 0 (comps_of parts places k))
    (named k ss starts 0 k.compartments sound.names)
    (distinct k ss starts 0 k.compartments sound.distinct)
    (ranged k ss starts 0 0 parts.ranges k.compartments made.ranges (all_follow parts.ranges))

ends : (parts : Parts) (p : TProgram) (places : Placement) (k : Config) → IsMade parts p k → ranges_end (comps_of parts places k) ≡ ranges_size parts.ranges
ends parts p places k made = ranges_sum k (map section_of places.sections) (range_starts 0 parts.ranges) 0 0 parts.ranges k.compartments made.ranges (all_follow parts.ranges)

pub code : CodeIsMet
unfolding image_of
code parts p places k made short =
    let bytes = code_of parts p (parts_layout parts) in
    let size = code_length parts p in
    let end = ends parts p places k made in
    let whole : length bytes % 4096 ≡ 0 = ap (λ n. n % 4096) size ∙ size_whole parts in
    three (length bytes % 4096 == 0) (nat_le (length bytes) 1048576) (nat_le (ranges_end (comps_of parts places k)) (length bytes))
    (eq-eqb (length bytes % 4096) 0 whole)
    (le-leb (length bytes) 1048576 (omega (arith, size, short)))
    (le-leb (ranges_end (comps_of parts places k)) (length bytes) (omega (arith, size, end)))

-- a piece of the runtime stands in the code
in_code : (parts : Parts) (p : TProgram) (q : ℕ) → q < length parts.runtime
    → (ranges_size parts.ranges ≤ slice_index (parts_layout parts).runtime q) × (slice_index (parts_layout parts).runtime q < length (code_of parts p (parts_layout parts)))
in_code parts p q less =
    let place = place_within (ranges_size parts.ranges) parts.runtime q less in
    let size = code_length parts p in
    let least = page_least (pieces_size parts.runtime) in
    (place.0, omega (arith, place.1, size, least))

pub aborts : AbortsAreMet
unfolding image_of
aborts parts p places k made =
    let place = in_code parts p parts.map.abort made.abort in
    let end = ends parts p places k made in
    let at = slice_index (parts_layout parts).runtime parts.map.abort in
    and_from (nat_le (ranges_end (comps_of parts places k)) at) (nat_lt at (length (code_of parts p (parts_layout parts))))
    (le-leb (ranges_end (comps_of parts places k)) at (omega (arith, place.0, end)))
    (lt-ltb at (length (code_of parts p (parts_layout parts))) place.1)

pub owners : OwnersAreMet
unfolding image_of
owners parts p places k sound =
    let count = count_of parts places k in
    let some = some_compartment (mechanism_number k.mechanism) (length k.compartments) sound.count in
    owners_within k.compartments 0 16 (length (comps_of parts places k)) (omega (arith, count, some)) (omega (arith, count))

-- there are no more starts than compartments
few_starts : (b : Bool) (count n : ℕ) → 0 < count → n ≡ cond b count 1 → n ≤ count
few_starts true count n some e = omega arith
few_starts false count n some e = omega arith

pub starts : StartsAreMet
unfolding image_of
starts parts p places k sound made =
    let runtime = (parts_layout parts).runtime in
    let home = home_of parts p in
    let found = starts_from k home runtime 0 parts.map.starts in
    let count = count_of parts places k in
    let some = some_compartment (mechanism_number k.mechanism) (length k.compartments) sound.count in
    let few = few_starts (mechanism_number k.mechanism == 3) (length k.compartments) (length parts.map.starts) some made.vcpus in
    let many : length found ≡ (if mechanism_number k.mechanism == 3 then length (comps_of parts places k) else 1) =
    starts_length k home runtime 0 parts.map.starts ∙ made.vcpus ∙ ap (λ n. cond (mechanism_number k.mechanism == 3) n 1) (sym count) in
    and_from (length found == (if mechanism_number k.mechanism == 3 then length (comps_of parts places k) else 1)) (list_all (is_start (image_of parts p places k)) found)
    (eq-eqb (length found) _ many)
    (started k home runtime (image_of parts p places k) 0 parts.map.starts (record { mechanism = refl; pages = refl; threads = refl; count = count }) sound.least made.home (omega (arith, few))
    (λ j d less. (in_code parts p _ (made.starts j d less)).1))
