-- The fields of an image of parts that come of its program's placement.
use Rattle.std.proofs.Common.{◌≡◌, ◌≤◌, ◌<◌, ℕ, ◌+◌, ◌^◌, Bool, true, false, ◌&&◌, ◌||◌, not, ◌==◌, nat_le, nat_lt, List, length, map, Ok, refl, sym, ap, subst, ◌∙◌, arith}
use Rattle.std.specs.Prelude.{cond, slice_index, sum_by, bit_and, if◌then◌else◌}
use Rattle.std.specs.List.{list_all}
use Rattle.std.proofs.lemmas.Bool.{and_from, and_parts, lt-ltb, le-leb, leb-true, eq-eqb}
use Rattle.std.proofs.lemmas.List.{length-map}
use Rattle.std.proofs.lemmas.List.Sums.{list_all-from_AllPass}
use Rattle.fx_config.specs.declared.configuration.Config.{Config}
use Rattle.fx_c_ast.specs.declared.checked.TProgram.{TProgram}
use Rattle.fx_grants.specs.declared.grants.Pair.{Pair}
use Rattle.fx_grants.specs.declared.grants.Grants.{Grants}
use Rattle.fx_sections.specs.declared.placement.Placement.{Placement}
use Rattle.fx_sections.specs.Regions.{empty}
use Rattle.fx_sections.specs.Placement.{sections_from, program_pairs, program_rooms, program_objects, placement_of, placed}
use Rattle.fx_sections.proofs.Rooms.{length-rooms_from}
use Rattle.fx_sections_law.proofs.Bounds.{placement_is, pairs_keyed, pages_few, initial_few}
use Rattle.fx_sections_law.proofs.Differ.{pairs_distinct}
use Rattle.fx_sections_law.proofs.Sections.{length-sections_from}
use Rattle.fx_image.specs.declared.forms.Section.{Section}
use Rattle.fx_image.specs.declared.forms.Stub.{Stub}
use Rattle.fx_image.specs.Keys as keys
use Rattle.fx_image.specs.Rules as image
use Rattle.fx_linker.specs.Places.{range_starts}
use Rattle.fx_linker.specs.Data.{mechanism_number, section_of, comps_from, literals_from, placed_stub}
use Rattle.fx_linker.specs.Linked.{image_of, parts_layout}
use Rattle.fx_linker_law.specs.Premises.{IsSound, ArePairs}
use Rattle.fx_linker_law.specs.Laws.{SectionsAreMet, LiteralsAreMet, StubsAreMet}
use Rattle.fx_linker_law.proofs.Tests.{four}
use Rattle.fx_linker_law.proofs.Comps.{comps_length}
use Rattle.fx_linker_law.proofs.Pairs.{is_good, pairs_fit, distinct}
use Rattle.fx_linker_law.proofs.Sections.{made, same_keyed, spread, pages_sum, goods, led, keyed, distinct_made, rightly}
use Rattle.fx_linker_law.proofs.Literals.{literal_bytes}

-- ---- sections

good_pair : (n : ℕ) (q : Pair) → (0 < q.writers) × (bit_and q.writers q.readers ≡ q.writers) × (q.readers < 2 ^ n) → is_good n q ≡ true
good_pair n q has =
    and_from (nat_lt 0 q.writers && bit_and q.writers q.readers == q.writers && nat_lt q.readers (2 ^ n)) true
    (and_from (nat_lt 0 q.writers && bit_and q.writers q.readers == q.writers) (nat_lt q.readers (2 ^ n))
    (and_from (nat_lt 0 q.writers) (bit_and q.writers q.readers == q.writers) (lt-ltb 0 q.writers has.0) (eq-eqb (bit_and q.writers q.readers) q.writers has.1))
    (lt-ltb q.readers (2 ^ n) has.2))
    refl

good_pairs : (n : ℕ) (qs : List Pair) → ArePairs n qs → list_all (is_good n) qs ≡ true
good_pairs n qs has = list_all-from_AllPass (is_good n) qs (λ j d less. good_pair n _ (has j d less))

bounds : (m n : ℕ) → image.is_count m n ≡ true → (0 < n) × (n ≤ 16)
bounds m n h =
    let parts = and_parts (nat_le 1 n) (nat_le n (if m == 3 then 16 else 8)) h in
    (leb-true 1 n parts.0, within (m == 3) (leb-true n (if m == 3 then 16 else 8) parts.1))
  where
    within : (b : Bool) → n ≤ cond b 16 8 → n ≤ 16
    within true le = le
    within false le = omega (arith, le)

few_keys : (b : Bool) (count : ℕ) → (b ≡ true → count ≤ 14) → (not b || nat_le count 14) ≡ true
few_keys true count few = le-leb count 14 (few refl)
few_keys false count few = refl

eight : (a b c d e f g h : Bool) → a ≡ true → b ≡ true → c ≡ true → d ≡ true → e ≡ true → f ≡ true → g ≡ true → h ≡ true → (a && b && c && d && e && f && g && h) ≡ true
eight a b c d e f g h x y z w t u v r =
    and_from (a && b && c && d && e && f && g) h (and_from (a && b && c && d && e && f) g (and_from (a && b && c && d && e) f (and_from (a && b && c && d) e (four a b c d x y z w) t) u) v) r

-- the sections of a program
abbrev own : TProgram → Grants → Config → List Section
own p g k = made k.mechanism 0 0x10000 (program_pairs g k) (program_rooms p g k)

sections_tried : (starts : List ℕ) (p : TProgram) (g : Grants) (k : Config) (places : Placement) → IsSound k → ArePairs (length k.compartments) g.globals → placed p g k ≡ Ok places
    → image.are_sections 2 (mechanism_number k.mechanism) k.scheduler (comps_from k (own p g k) starts 0 k.compartments) (own p g k) ≡ true
sections_tried starts p g k places sound pairs is =
    let n = length k.compartments in
    let m = k.mechanism in
    let ps = program_pairs g k in
    let rs = program_rooms p g k in
    let ss = own p g k in
    let comps = comps_from k ss starts 0 k.compartments in
    let count : length comps ≡ n = comps_length k ss starts 0 k.compartments in
    let few = bounds (mechanism_number m) n sound.count in
    let fit = pairs_fit n g.globals few.0 few.1 (good_pairs n g.globals pairs) in
    let same : length rs ≡ length ps = length-rooms_from n (program_objects p g k) 0 (length ps) in
    let long : length ss ≡ length ps = length-map (sections_from m 0 0x10000 ps rs) section_of ∙ length-sections_from m 0 0x10000 ps rs same in
    eight (image.are_spread 0x10000 ss) (image.are_few (mechanism_number m) ss) (nat_le (image.leading (length comps)) (length ss)) (list_all (image.is_pair 2 (length comps)) ss)
    (image.all_numbered (image.leads (length comps)) 0 ss) (image.all_numbered (image.has_key (mechanism_number m)) 0 ss) (image.is_distinct_by image.same_pair ss) (image.have_rights (mechanism_number m) ss k.scheduler comps)
    (spread m 0 0x10000 ps rs)
    (and_from (nat_le (sum_by (λ (s : Section). s.pages) ss) 16384) (not (keys.is_keyed (mechanism_number m)) || nat_le (length ss) 14)
    (le-leb (sum_by (λ (s : Section). s.pages) ss) 16384 (omega (arith, pages_sum m 0 0x10000 ps rs same, pages_few p g k places is)))
    (few_keys (keys.is_keyed (mechanism_number m)) (length ss) (λ e. omega (arith, long, pairs_keyed p g k places is (sym (same_keyed m) ∙ e)))))
    (le-leb (image.leading (length comps)) (length ss) (subst (λ c. image.leading c ≤ length ss) (sym count) (omega (arith, long, fit.2))))
    (ap (λ c. list_all (image.is_pair 2 c) ss) count ∙ goods n m 0 0x10000 ps rs fit.0)
    (ap (λ c. image.all_numbered (image.leads c) 0 ss) count ∙ led n 0 m 0 0x10000 ps rs fit.1)
    (keyed m 0 0x10000 ps rs)
    (distinct_made m 0 0x10000 ps rs same (distinct ps (pairs_distinct n g.globals)))
    (rightly k ss starts 0 k.compartments)

pub sections : SectionsAreMet
unfolding image_of
sections parts p g k places sound pairs is =
    subst (λ (at : Placement). image.are_sections 2 (mechanism_number k.mechanism) k.scheduler (comps_from k (map section_of at.sections) (range_starts 0 parts.ranges) 0 k.compartments) (map section_of at.sections) ≡ true)
    (placement_is p g k places is)
    (sections_tried (range_starts 0 parts.ranges) p g k places sound pairs is)

-- ---- literals

literal_span : (p : TProgram) (g : Grants) (k : Config) (places : Placement) → placed p g k ≡ Ok places → length (literals_from (placement_of p g k).literals 0 0 p.literals) ≤ 8388608
literal_span p g k places is =
    let zero_first : (j : ℕ) → slice_index (placement_of p g k).literals (0 + j) ≡ slice_index (placement_of p g k).literals j = λ j. let e : 0 + j ≡ j = omega arith in ap (slice_index (placement_of p g k).literals) e in
    let bytes = literal_bytes (placement_of p g k).literals 0 0 (empty 0x60_0000) p.literals refl (omega arith) zero_first in
    omega (arith, bytes, initial_few p g k places is)

pub literals : LiteralsAreMet
unfolding image_of
literals parts p g k places is =
    subst (λ (at : Placement). nat_le (length (literals_from at.literals 0 0 p.literals)) 8388608 ≡ true) (placement_is p g k places is)
    (le-leb (length (literals_from (placement_of p g k).literals 0 0 p.literals)) 8388608 (literal_span p g k places is))

-- ---- stubs

no_stubs : (b : Bool) → cond b true true ≡ true
no_stubs true = refl
no_stubs false = refl

pub stubs : StubsAreMet
unfolding image_of
stubs parts p places k nothing =
    subst (λ (ss : List Stub). image.are_stubs (mechanism_number k.mechanism) (image_of parts p places k).compartments (image_of parts p places k).code parts.entries (map (placed_stub (parts_layout parts).runtime) ss) ≡ true)
    (sym nothing) (no_stubs (keys.is_keyed (mechanism_number k.mechanism)))
