-- How far sections and literals reach.
use Rattle.std.proofs.Common.{◌≡◌, ℕ, zero, suc, ◌+◌, ◌*◌, ◌<◌, ◌≤◌, Bool, true, false, ◌&&◌, nat_lt, List, [], ◌∷◌, length, get_or, Result, Ok, Err, if◌then◌else◌, refl, sym, ap, arith, lit≤}
use Rattle.std.proofs.lemmas.Bool.{ltb-false}
use Rattle.fx_config.specs.declared.configuration.Config.{Config}
use Rattle.fx_config.specs.declared.configuration.Mechanism.{Mechanism}
use Rattle.fx_c_ast.specs.declared.checked.TProgram.{TProgram}
use Rattle.fx_c_ast.proofs.Layouts.{round_from}
use Rattle.fx_grants.specs.declared.grants.Pair.{Pair}
use Rattle.fx_grants.specs.declared.grants.Grants.{Grants}
use Rattle.fx_sections.specs.declared.placement.PlacedSection.{PlacedSection}
use Rattle.fx_sections.specs.declared.placement.Placement.{Placement}
use Rattle.fx_sections.specs.declared.placement.PlaceError.{PlaceError}
use Rattle.fx_sections.specs.declared.placement.PlaceError.TheVariants.{TooManyKeys, InitialTooLong}
use Rattle.fx_sections.specs.declared.regions.Room.{Room}
use Rattle.fx_sections.specs.Pairs.{is_keyed}
use Rattle.fx_sections.specs.Regions.{empty, with_object, with_objects, starts, page_count}
use Rattle.fx_sections.specs.Placement.{IsPlaceable, sections_from, total_pages, program_pairs, program_rooms, data_bytes, initial_size, literal_sizes, placement_of, bytes_placed, placed}
use Rattle.fx_sections.proofs.Counts.{pairs_few}
use Rattle.fx_sections.proofs.Rooms.{length-rooms_from}
use Rattle.fx_sections_law.proofs.Sections.{length-sections_from, starts_behind}

-- what isn't refused has no cause for it
unless : (b : Bool) (e : PlaceError) (r : Result Placement PlaceError) (at : Placement) → (if b then Err e else r) ≡ Ok at → (b ≡ false) × (r ≡ Ok at)
unless true e r at h = absurd cc
unless false e r at h = (refl, h)

module _ (p : TProgram) (g : Grants) (k : Config) (at : Placement) (is : placed p g k ≡ Ok at) where
  objects : (nat_lt 32000 (length p.globals + length p.literals) ≡ false) × (bytes_placed p g k ≡ Ok at)
  objects = unless _ _ _ at (unless (is_keyed k.mechanism && nat_lt 14 (length (program_pairs g k))) (TooManyKeys (length (program_pairs g k))) _ at is).1

  bytes : (nat_lt 67108864 (data_bytes p g k) ≡ false) × ((if nat_lt 8388608 (initial_size p) then Err (InitialTooLong (initial_size p)) else Ok (placement_of p g k)) ≡ Ok at)
  bytes = unless _ _ _ at objects.1

  initial : (nat_lt 8388608 (initial_size p) ≡ false) × (◌≡◌ {A = Result Placement PlaceError} (Ok (placement_of p g k)) (Ok at))
  initial = unless _ _ _ at bytes.1

  keyed_few : (b c : Bool) → b ≡ true → b && c ≡ false → c ≡ false
  keyed_few true c keyed few = few
  keyed_few false c keyed few = cc

  pub pairs_keyed : is_keyed k.mechanism ≡ true → length (program_pairs g k) ≤ 14
  pairs_keyed keyed =
      let few = unless (is_keyed k.mechanism && nat_lt 14 (length (program_pairs g k))) (TooManyKeys (length (program_pairs g k))) _ at is in
      ltb-false 14 (length (program_pairs g k)) (keyed_few (is_keyed k.mechanism) (nat_lt 14 (length (program_pairs g k))) keyed few.0)

  pub objects_few : length p.globals + length p.literals ≤ 32000
  objects_few = ltb-false 32000 (length p.globals + length p.literals) objects.0

  pub pages_few : total_pages (program_rooms p g k) ≤ 16384
  pages_few = omega (arith, ltb-false 67108864 (data_bytes p g k) bytes.0)

  pub initial_few : initial_size p ≤ 8388608
  initial_few = ltb-false 8388608 (initial_size p) initial.0

  pub placement_is : placement_of p g k ≡ at
  placement_is = let e = initial.1 in cc

-- the last of the pages of a section
ends_within : (m : Mechanism) (k page : ℕ) (ps : List Pair) (rs : List Room) (j : ℕ) (d : PlacedSection) → j < length (sections_from m k page ps rs) → (get_or (sections_from m k page ps rs) j d).page + (get_or (sections_from m k page ps rs) j d).pages ≤ page + total_pages rs + j
ends_within m k page [] rs j d less = absurd (omega arith)
ends_within m k page (p ∷ ps) [] j d less = absurd (omega arith)
ends_within m k page (p ∷ ps) (r ∷ rs) zero d less = omega arith
ends_within m k page (p ∷ ps) (r ∷ rs) (suc j) d less = omega (arith, ends_within m (k + 1) (page + page_count r.end + 1) ps rs j d (omega arith))

pub section_within : (p : TProgram) (g : Grants) (k : Config) (at : Placement) → IsPlaceable p g k → placed p g k ≡ Ok at → (i : ℕ) → i < length at.sections → (d : PlacedSection) → (0x1000_0000 ≤ 4096 * (get_or at.sections i d).page) × (4096 * ((get_or at.sections i d).page + (get_or at.sections i d).pages) ≤ 0x2000_0000)
section_within p g k at has is i less d =
    let ps = program_pairs g k in
    let rs = program_rooms p g k in
    let ss = sections_from k.mechanism 0 0x10000 ps rs in
    let same : at.sections ≡ ss = sym (ap (λ (x : Placement). x.sections) (placement_is p g k at is)) in
    let count = length-sections_from k.mechanism 0 0x10000 ps rs (length-rooms_from _ _ 0 (length ps)) in
    let within : i < length ss = omega (arith, ap length same) in
    let low = starts_behind k.mechanism 0 0x10000 ps rs i d within in
    let high = ends_within k.mechanism 0 0x10000 ps rs i d within in
    let few = pairs_few (length k.compartments) g.globals in
    let element = ap (λ l. get_or l i d) same in
    let page : (get_or at.sections i d).page ≡ (get_or ss i d).page = ap (λ (s : PlacedSection). s.page) element in
    let pages : (get_or at.sections i d).pages ≡ (get_or ss i d).pages = ap (λ (s : PlacedSection). s.pages) element in
    let total = pages_few p g k at is in
    let objects = objects_few p g k at is in
    let e = has.same in
    let n = has.compartments in
    (omega arith, omega arith)

object_behind : (r : Room) (size : ℕ) → r.next + size + 16 ≤ (with_object r size).next
object_behind r size = round_from (r.next + size + 16) 16 (lit≤ tt)

ends_grow : (r : Room) (xs : List ℕ) → r.end ≤ r.next → r.end ≤ (with_objects r xs).end
ends_grow r [] le = omega arith
ends_grow r (x ∷ xs) le =
    let ordered : (with_object r x).end ≤ (with_object r x).next = omega (arith, object_behind r x) in
    omega (arith, ends_grow (with_object r x) xs ordered)

-- an object of a region begins behind its start and ends before its end
pub start_within : (r : Room) (xs : List ℕ) (i : ℕ) → i < length (starts r xs) → (r.next ≤ get_or (starts r xs) i 0) × (get_or (starts r xs) i 0 + get_or xs i 0 ≤ (with_objects r xs).end)
start_within r [] i less = absurd (omega arith)
start_within r (x ∷ xs) zero less =
    let ordered : (with_object r x).end ≤ (with_object r x).next = omega (arith, object_behind r x) in
    (omega arith, omega (arith, ends_grow (with_object r x) xs ordered))
start_within r (x ∷ xs) (suc i) less =
    let rest = start_within (with_object r x) xs i (omega arith) in
    let more = object_behind r x in
    (omega (arith, rest.0), rest.1)

pub literal_within : (p : TProgram) (g : Grants) (k : Config) (at : Placement) → placed p g k ≡ Ok at → (i : ℕ) → i < length at.literals → (0x60_0000 ≤ get_or at.literals i 0) × (get_or at.literals i 0 + get_or (literal_sizes p) i 0 ≤ 0xE0_0000)
literal_within p g k at is i less =
    let sizes = literal_sizes p in
    let same : at.literals ≡ starts (empty 0x60_0000) sizes = sym (ap (λ (x : Placement). x.literals) (placement_is p g k at is)) in
    let inside = start_within (empty 0x60_0000) sizes i (omega (arith, ap length same)) in
    let element : get_or at.literals i 0 ≡ get_or (starts (empty 0x60_0000) sizes) i 0 = ap (λ l. get_or l i 0) same in
    let few = initial_few p g k at is in
    (omega (arith, inside.0), omega (arith, inside.1))
