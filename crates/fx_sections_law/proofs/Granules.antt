-- No two objects share a granule.
use Rattle.std.proofs.Common.{◌≡◌, ℕ, zero, suc, ◌+◌, ◌*◌, ◌%◌, ◌<◌, ◌≤◌, List, [], ◌∷◌, length, get_or, ◌⊎◌, inl, inr, Ok, refl, sym, ap, subst, ◌∙◌, arith}
use Rattle.std.proofs.lemmas.Bool.{cases_order}
use Rattle.std.proofs.lemmas.List.{length-map}
use Rattle.fx_config.specs.declared.configuration.Config.{Config}
use Rattle.fx_c_ast.specs.declared.checked.TProgram.{TProgram}
use Rattle.fx_grants.specs.declared.grants.Pair.{Pair}
use Rattle.fx_grants.specs.declared.grants.Grants.{Grants}
use Rattle.fx_sections.specs.declared.placement.PlacedSection.{PlacedSection}
use Rattle.fx_sections.specs.declared.placement.Placement.{Placement}
use Rattle.fx_sections.specs.declared.regions.Room.{Room}
use Rattle.fx_sections.specs.declared.regions.GlobalSize.{GlobalSize}
use Rattle.fx_sections.specs.Regions.{empty, with_object, starts}
use Rattle.fx_sections.specs.Placement.{IsPlaceable, program_pairs, program_rooms, program_objects, program_sections, program_addresses, literal_sizes, literal_addresses, placement_of, placed}
use Rattle.fx_sections_law.specs.Granules.{Touches, SharesNoGranule}
use Rattle.fx_sections_law.proofs.Sections.{sections_apart}
use Rattle.fx_sections_law.proofs.Globals.{in_section, global_in_section, globals_apart, address_multiple, behind_runtime}
use Rattle.fx_sections_law.proofs.Bounds.{placement_is, start_within, section_within, literal_within}

-- what ends before a multiple of 16 touches no granule of what begins there
touch_apart : (a s b t n : ℕ) → a + s ≤ b → b % 16 ≡ 0 → Touches a s n → Touches b t n → ⊥
touch_apart a s b t n le multiple x y = omega arith

paged : (page : ℕ) → (4096 * page) % 16 ≡ 0
paged page = omega arith

-- ---- objects of one region

length-starts : (r : Room) (xs : List ℕ) → length (starts r xs) ≡ length xs
length-starts r [] = refl
length-starts r (x ∷ xs) = ap suc (length-starts (with_object r x) xs)

next_is_multiple : (r : Room) (size : ℕ) → (with_object r size).next % 16 ≡ 0
next_is_multiple r size = omega arith

start_multiple : (r : Room) (xs : List ℕ) (i : ℕ) → r.next % 16 ≡ 0 → i < length xs → get_or (starts r xs) i 0 % 16 ≡ 0
start_multiple r [] i multiple less = absurd (omega arith)
start_multiple r (x ∷ xs) zero multiple less = multiple
start_multiple r (x ∷ xs) (suc i) multiple less = start_multiple (with_object r x) xs i (next_is_multiple r x) (omega arith)

object_behind : (r : Room) (size : ℕ) → r.next + size ≤ (with_object r size).next
object_behind r size = omega arith

starts_apart : (r : Room) (xs : List ℕ) (i j : ℕ) → i < j → j < length xs → get_or (starts r xs) i 0 + get_or xs i 0 ≤ get_or (starts r xs) j 0
starts_apart r [] i j less within = absurd (omega arith)
starts_apart r (x ∷ xs) i zero less within = absurd (omega arith)
starts_apart r (x ∷ xs) zero (suc j) less within = omega (arith, object_behind r x, (start_within (with_object r x) xs j (omega (arith, length-starts (with_object r x) xs))).0)
starts_apart r (x ∷ xs) (suc i) (suc j) less within = starts_apart (with_object r x) xs i j (omega arith) (omega arith)

by_order : (a b : ℕ) → (a ≡ b → ⊥) → (a < b → ⊥) → (b < a → ⊥) → ⊥
by_order a b same less more = from (cases_order a b)
  where
    from : (a ≡ b) ⊎ ((a < b) ⊎ (b < a)) → ⊥
    from (inl e) = same e
    from (inr (inl l)) = less l
    from (inr (inr m)) = more m

-- ---- the objects of a program

module _ (p : TProgram) (g : Grants) (k : Config) (has : IsPlaceable p g k) where
  no_pair : Pair
  no_pair = record { readers = 0; writers = 0 }

  -- a section's bytes end before a later one begins
  before : (s t : ℕ) → s < t → t < length (program_sections p g k) → (d : PlacedSection)
      → 4096 * (get_or (program_sections p g k) s d).page + 4096 ≤ 4096 * (get_or (program_sections p g k) t d).page
      × 4096 * ((get_or (program_sections p g k) s d).page + (get_or (program_sections p g k) s d).pages) ≤ 4096 * (get_or (program_sections p g k) t d).page
  before s t less within d = let apart = sections_apart k.mechanism 0 0x10000 (program_pairs g k) (program_rooms p g k) s t d d less within in (omega arith, omega arith)

  no_section : PlacedSection
  no_section = record { readers = 0; writers = 0; key = 0; page = 0; pages = 0 }

  -- a global of an earlier section ends before one of a later section begins
  global_before : (i j : ℕ) → i < length p.globals → j < length p.globals → (d e : GlobalSize) → (get_or (program_objects p g k) i d).section < (get_or (program_objects p g k) j e).section
      → get_or (program_addresses p g k) i 0 + (get_or (program_objects p g k) i d).size ≤ get_or (program_addresses p g k) j 0
  global_before i j less within d e order =
      let first = global_in_section p g k has i less d no_section no_pair in
      let second = global_in_section p g k has j within e no_section no_pair in
      let there = (in_section p g k has j within e no_pair no_pair).0 in
      let apart = before (get_or (program_objects p g k) i d).section (get_or (program_objects p g k) j e).section order there no_section in
      omega (arith, first.2, second.1, apart.1)

  globals_share : (i j n : ℕ) → i < j → j < length p.globals → (d e : GlobalSize) → Touches (get_or (program_addresses p g k) i 0) (get_or (program_objects p g k) i d).size n → Touches (get_or (program_addresses p g k) j 0) (get_or (program_objects p g k) j e).size n → ⊥
  globals_share i j n less within d e x y =
      let o : GlobalSize = get_or (program_objects p g k) i d in
      let u : GlobalSize = get_or (program_objects p g k) j e in
      let a : ℕ = get_or (program_addresses p g k) i 0 in
      let b : ℕ = get_or (program_addresses p g k) j 0 in
      let first : i < length p.globals = omega arith in
      by_order o.section u.section
      (λ same. touch_apart a o.size b u.size n (omega (arith, globals_apart p g k has i j less within d e same)) (address_multiple p g k has j within e) x y)
      (λ order. touch_apart a o.size b u.size n (global_before i j first within d e order) (address_multiple p g k has j within e) x y)
      (λ order. touch_apart b u.size a o.size n (global_before j i within first e d order) (address_multiple p g k has i first d) y x)

  -- the runtime's object of a compartment and a global
  runtime_share : (c i n : ℕ) → c < length k.compartments → c < length (program_sections p g k) → i < length p.globals → (s : PlacedSection) (d : GlobalSize)
      → Touches (4096 * (get_or (program_sections p g k) c s).page) 4096 n → Touches (get_or (program_addresses p g k) i 0) (get_or (program_objects p g k) i d).size n → ⊥
  runtime_share c i n private within less s d x y =
      let o : GlobalSize = get_or (program_objects p g k) i d in
      let a : ℕ = get_or (program_addresses p g k) i 0 in
      let page : ℕ = (get_or (program_sections p g k) c s).page in
      let there = (in_section p g k has i less d no_pair no_pair).0 in
      let home = global_in_section p g k has i less d s no_pair in
      let multiple = address_multiple p g k has i less d in
      by_order c o.section
      (λ same. touch_apart (4096 * page) 4096 a o.size n (behind c i private less s d same) multiple x y)
      (λ order. touch_apart (4096 * page) 4096 a o.size n (omega (arith, home.1, (before c o.section order there s).0)) multiple x y)
      (λ order. touch_apart a o.size (4096 * page) 4096 n (omega (arith, home.2, (before o.section c order within s).1)) (paged page) y x)
    where
      behind : (c i : ℕ) → c < length k.compartments → i < length p.globals → (s : PlacedSection) (d : GlobalSize) → c ≡ (get_or (program_objects p g k) i d).section → 4096 * (get_or (program_sections p g k) c s).page + 4096 ≤ get_or (program_addresses p g k) i 0
      behind c i private less s d same =
          let inside : (get_or (program_objects p g k) i d).section < length k.compartments = subst (λ m. m < length k.compartments) same private in
          let page : (get_or (program_sections p g k) c s).page ≡ (get_or (program_sections p g k) (get_or (program_objects p g k) i d).section s).page = ap (λ m. (get_or (program_sections p g k) m s).page) same in
          omega (arith, behind_runtime p g k has i less d inside s, page)

by_placement : (p : TProgram) (g : Grants) (k : Config) → IsPlaceable p g k → placed p g k ≡ Ok (placement_of p g k) → SharesNoGranule p g k (placement_of p g k)
by_placement p g k has is =
    let at : Placement = placement_of p g k in
    let sizes = literal_sizes p in
    let room : Room = empty 0x60_0000 in
    let count : length (starts room sizes) ≡ length p.literals = length-starts room sizes ∙ length-map p.literals (λ (l : List ℕ). length l) in
    let multiple : (j : ℕ) → j < length p.literals → get_or (starts room sizes) j 0 % 16 ≡ 0 = λ j less. start_multiple room sizes j refl (omega (arith, length-map p.literals (λ (l : List ℕ). length l))) in
    record {
      globals = λ i j n less within d e x y. globals_share p g k has i j n less within d e x y;
      literals = λ i j n less within x y. touch_apart (get_or (starts room sizes) i 0) (get_or sizes i 0) (get_or (starts room sizes) j 0) (get_or sizes j 0) n
          (starts_apart room sizes i j less (omega (arith, length-map p.literals (λ (l : List ℕ). length l)))) (multiple j within) x y;
      both = λ i j n less within d x y. behind_texts i j n less within d x y;
      runtime = λ c i n private within less s d x y. runtime_share p g k has c i n private within less s d x y;
      texts = λ c j n less within s x y.
          let low = section_within p g k at has is c less s in
          let high = literal_within p g k at is j (omega (arith, count)) in
          touch_apart (get_or (starts room sizes) j 0) (get_or sizes j 0) (4096 * (get_or (program_sections p g k) c s).page) 4096 n (omega (arith, low.0, high.1)) (paged (get_or (program_sections p g k) c s).page) y x;
    }
  where
    behind_texts : (i j n : ℕ) → i < length p.globals → j < length p.literals → (d : GlobalSize) → Touches (get_or (program_addresses p g k) i 0) (get_or (program_objects p g k) i d).size n → Touches (get_or (literal_addresses p) j 0) (get_or (literal_sizes p) j 0) n → ⊥
    behind_texts i j n less within d x y =
        let none : Pair = record { readers = 0; writers = 0 } in
        let s : PlacedSection = record { readers = 0; writers = 0; key = 0; page = 0; pages = 0 } in
        let o : GlobalSize = get_or (program_objects p g k) i d in
        let there = (in_section p g k has i less d none none).0 in
        let low = section_within p g k (placement_of p g k) has is o.section there s in
        let home = global_in_section p g k has i less d s none in
        let high = literal_within p g k (placement_of p g k) is j (omega (arith, length-starts (empty 0x60_0000) (literal_sizes p), length-map p.literals (λ (l : List ℕ). length l))) in
        touch_apart (get_or (literal_addresses p) j 0) (get_or (literal_sizes p) j 0) (get_or (program_addresses p g k) i 0) o.size n (omega (arith, low.0, home.1, high.1)) (address_multiple p g k has i less d) y x

pub unshared : (p : TProgram) (g : Grants) (k : Config) (at : Placement) → IsPlaceable p g k → placed p g k ≡ Ok at → SharesNoGranule p g k at
unshared p g k at has is =
    let same : placement_of p g k ≡ at = placement_is p g k at is in
    subst (λ a. SharesNoGranule p g k a) same (by_placement p g k has (is ∙ ap Ok (sym same)))
