-- Globals and literals where a configuration places them.
use Rattle.std.proofs.Common.{◌≡◌, ◌≢◌, ◌⊎◌, inl, inr, ℕ, zero, suc, ◌+◌, ◌-◌, ◌*◌, ◌<◌, ◌≤◌, List, [], ◌∷◌, ◌++◌, length, map, get_or, slice_get, Some, refl, sym, ap, ◌∙◌, arith}
use Rattle.std.proofs.lemmas.Bool.{cases_order}
use Rattle.std.proofs.lemmas.List.{length-map}
use Rattle.std.proofs.lemmas.Option.{slice_get-get_or, get_or_from_slice_get}
use Rattle.fx_config.specs.declared.configuration.Config.{Config}
use Rattle.fx_c_ast.specs.declared.checked.TGlobal.{TGlobal}
use Rattle.fx_c_ast.specs.declared.checked.TProgram.{TProgram}
use Rattle.fx_c_ast.specs.CheckedTrees.{TyTree, struct_types}
use Rattle.fx_grants.specs.declared.grants.Pair.{Pair}
use Rattle.fx_grants.specs.declared.grants.Grants.{Grants}
use Rattle.fx_sections.specs.declared.placement.PlacedSection.{PlacedSection}
use Rattle.fx_sections.specs.declared.placement.Placement.{Placement}
use Rattle.fx_sections.specs.declared.regions.Room.{Room}
use Rattle.fx_sections.specs.declared.regions.GlobalSize.{GlobalSize}
use Rattle.fx_sections.specs.Regions.{empty, with_object, starts}
use Rattle.fx_sections.specs.Placement.{IsPlaceable, sized, addresses, offsets, program_pairs, program_rooms, program_objects, program_sections, program_addresses, literal_sizes, literal_addresses, placement_of}
use Rattle.fx_sections_law.proofs.Sections.{sections_apart}
use Rattle.fx_sections_law.proofs.Globals.{in_section, global_in_section, globals_apart}
use Rattle.fx_sections_law.proofs.Bounds.{placement_is, start_within, section_within, literal_within}
use Rattle.fx_c_mean_blocks.specs.declared.block.Object.{Object}
use Rattle.fx_c_mean_model.specs.Programs.{Program, GlobalVariable, global_of, program_of, size_in, global_objects, literal_objects, first_memory}
use Rattle.fx_c_mean_places_law.specs.Laws.{IsPlacedAt, AreApart}
use Rattle.fx_c_mean_places_law.proofs.Memory.{get_before, get_behind, is_within}

-- ---- lists

length-addresses : (ss : List PlacedSection) (os : List GlobalSize) (offs : List ℕ) → length offs ≡ length os → length (addresses ss os offs) ≡ length os
length-addresses ss [] offs e = refl
length-addresses ss (o ∷ os) [] e = absurd (omega arith)
length-addresses ss (o ∷ os) (at ∷ offs) e = ap suc (length-addresses ss os offs (omega arith))

length-offsets : (n : ℕ) (before os : List GlobalSize) → length (offsets n before os) ≡ length os
length-offsets n before [] = refl
length-offsets n before (o ∷ os) = ap suc (length-offsets n (before ++ o ∷ []) os)

length-sized : (ss : List (List TyTree)) (ps : List Pair) (gs : List TGlobal) (qs : List Pair) → length qs ≡ length gs → length (sized ss ps gs qs) ≡ length gs
length-sized ss ps [] qs same = refl
length-sized ss ps (g ∷ gs) [] same = absurd (omega arith)
length-sized ss ps (g ∷ gs) (q ∷ qs) same = ap suc (length-sized ss ps gs qs (omega arith))

length-starts : (r : Room) (xs : List ℕ) → length (starts r xs) ≡ length xs
length-starts r [] = refl
length-starts r (x ∷ xs) = ap suc (length-starts (with_object r x) xs)

object_behind : (r : Room) (size : ℕ) → r.next + size ≤ (with_object r size).next
object_behind r size = omega arith

starts_apart : (r : Room) (xs : List ℕ) (i j : ℕ) → i < j → j < length xs → get_or (starts r xs) i 0 + get_or xs i 0 ≤ get_or (starts r xs) j 0
starts_apart r [] i j less within = absurd (omega arith)
starts_apart r (x ∷ xs) i zero less within = absurd (omega arith)
starts_apart r (x ∷ xs) zero (suc j) less within = omega (arith, object_behind r x, (start_within (with_object r x) xs j (omega (arith, length-starts (with_object r x) xs))).0)
starts_apart r (x ∷ xs) (suc i) (suc j) less within = starts_apart (with_object r x) xs i j (omega arith) (omega arith)

count_objects : (p : Program) (n : ℕ) (gs : List GlobalVariable) → length (global_objects p n gs) ≡ length gs
count_objects p n [] = refl
count_objects p n (g ∷ gs) = ap suc (count_objects p (n + 1) gs)

count_literals : (n : ℕ) (all : List (List ℕ)) → length (literal_objects n all) ≡ length all
count_literals n [] = refl
count_literals n (bytes ∷ all) = ap suc (count_literals (n + 1) all)

object_sizes : (p : TProgram) (ps : List Pair) (n : ℕ) (gs : List TGlobal) (qs : List Pair) (i : ℕ) (d : GlobalSize) → length qs ≡ length gs → i < length gs
    → (o : Object) × (slice_get (global_objects (program_of p) n (map global_of gs)) i ≡ Some o) × (o.size ≡ (get_or (sized (struct_types p.structs) ps gs qs) i d).size)
object_sizes p ps n [] qs i d same l = absurd (omega arith)
object_sizes p ps n (g ∷ gs) [] i d same l = absurd (omega arith)
object_sizes p ps n (g ∷ gs) (q ∷ qs) zero d same l = (_, refl, refl)
object_sizes p ps n (g ∷ gs) (q ∷ qs) (suc i) d same l = object_sizes p ps (n + 1) gs qs i d (omega arith) (omega arith)

literal_bytes : (n : ℕ) (all : List (List ℕ)) (i : ℕ) → i < length all → (o : Object) × (slice_get (literal_objects n all) i ≡ Some o) × (o.size ≡ get_or (map (λ (l : List ℕ). length l) all) i 0)
literal_bytes n [] i l = absurd (omega arith)
literal_bytes n (bytes ∷ all) zero l = (_, refl, refl)
literal_bytes n (bytes ∷ all) (suc i) l = literal_bytes (n + 1) all i (omega arith)

module _ (p : TProgram) (g : Grants) (k : Config) (at : Placement) (is : IsPlacedAt p g k at) where
  has : IsPlaceable p g k
  has = is.placeable

  no_pair : Pair
  no_pair = record { readers = 0; writers = 0 }

  no_section : PlacedSection
  no_section = record { readers = 0; writers = 0; key = 0; page = 0; pages = 0 }

  abbrev no_size : GlobalSize
  no_size = record { section = 0; size = 0 }

  layout : placement_of p g k ≡ at
  layout = placement_is p g k at is.placed_at

  globals_are : at.globals ≡ program_addresses p g k
  globals_are = sym (ap (λ (x : Placement). x.globals) layout)

  literals_are : at.literals ≡ literal_addresses p
  literals_are = sym (ap (λ (x : Placement). x.literals) layout)

  sections_are : at.sections ≡ program_sections p g k
  sections_are = sym (ap (λ (x : Placement). x.sections) layout)

  pub count_globals : length at.globals ≡ length p.globals
  count_globals = ap length globals_are
      ∙ length-addresses (program_sections p g k) (program_objects p g k) (offsets (length k.compartments) [] (program_objects p g k)) (length-offsets (length k.compartments) [] (program_objects p g k))
      ∙ length-sized (struct_types p.structs) (program_pairs g k) p.globals g.globals has.same

  pub literal_count : length at.literals ≡ length p.literals
  literal_count = ap length literals_are ∙ length-starts (empty 0x60_0000) (literal_sizes p) ∙ length-map p.literals (λ (l : List ℕ). length l)

  abbrev pub global_size : ℕ → ℕ
  global_size i = (get_or (program_objects p g k) i no_size).size

  abbrev pub literal_size : ℕ → ℕ
  literal_size i = get_or (literal_sizes p) i 0

  address_at : (i a : ℕ) → slice_get at.globals i ≡ Some a → a ≡ get_or (program_addresses p g k) i 0
  address_at i a e = sym (get_or_from_slice_get at.globals i a 0 e) ∙ ap (λ l. get_or l i 0) globals_are

  start_at : (i a : ℕ) → slice_get at.literals i ≡ Some a → a ≡ get_or (literal_addresses p) i 0
  start_at i a e = sym (get_or_from_slice_get at.literals i a 0 e) ∙ ap (λ l. get_or l i 0) literals_are

  pub global_within : (i a : ℕ) → slice_get at.globals i ≡ Some a → (0x1000_0000 ≤ a) × (a + global_size i ≤ 0x2000_0000)
  global_within i a e =
      let less : i < length p.globals = omega (arith, is_within at.globals i a e, count_globals) in
      let there = (in_section p g k has i less no_size no_pair no_pair).0 in
      let home = global_in_section p g k has i less no_size no_section no_pair in
      let s = (get_or (program_objects p g k) i no_size).section in
      let bounds = section_within p g k at has is.placed_at s (omega (arith, there, ap length sections_are)) no_section in
      let element = ap (λ l. get_or l s no_section) sections_are in
      let page = ap (λ (x : PlacedSection). x.page) element in
      let pages = ap (λ (x : PlacedSection). x.pages) element in
      (omega (arith, bounds.0, home.1, address_at i a e, page), omega (arith, bounds.1, home.2, address_at i a e, page, pages))

  pub literal_there : (i a : ℕ) → slice_get at.literals i ≡ Some a → (0x60_0000 ≤ a) × (a + literal_size i ≤ 0xE0_0000)
  literal_there i a e =
      let bounds = literal_within p g k at is.placed_at i (is_within at.literals i a e) in
      let here = get_or_from_slice_get at.literals i a 0 e in
      (omega (arith, bounds.0, here), omega (arith, bounds.1, here))

  -- a section's bytes end before a later one begins
  before : (s t : ℕ) → s < t → t < length (program_sections p g k) → 4096 * ((get_or (program_sections p g k) s no_section).page + (get_or (program_sections p g k) s no_section).pages) ≤ 4096 * (get_or (program_sections p g k) t no_section).page
  before s t less within = omega (arith, sections_apart k.mechanism 0 0x10000 (program_pairs g k) (program_rooms p g k) s t no_section no_section less within)

  in_order : (i j : ℕ) → i < length p.globals → j < length p.globals → (get_or (program_objects p g k) i no_size).section < (get_or (program_objects p g k) j no_size).section
      → get_or (program_addresses p g k) i 0 + global_size i ≤ get_or (program_addresses p g k) j 0
  in_order i j less within order =
      let first = global_in_section p g k has i less no_size no_section no_pair in
      let second = global_in_section p g k has j within no_size no_section no_pair in
      let there = (in_section p g k has j within no_size no_pair no_pair).0 in
      omega (arith, first.2, second.1, before (get_or (program_objects p g k) i no_size).section (get_or (program_objects p g k) j no_size).section order there)

  ordered : (i j a b : ℕ) → i < j → slice_get at.globals i ≡ Some a → slice_get at.globals j ≡ Some b → AreApart a (global_size i) b (global_size j)
  ordered i j a b less e f =
      let within : j < length p.globals = omega (arith, is_within at.globals j b f, count_globals) in
      let first : i < length p.globals = omega arith in
      let x = address_at i a e in
      let y = address_at j b f in
      elim (cases_order (get_or (program_objects p g k) i no_size).section (get_or (program_objects p g k) j no_size).section) [
        | inl same ↦ inl (omega (arith, globals_apart p g k has i j less within no_size no_size same, x, y))
        | inr other ↦ elim other [
          | inl order ↦ inl (omega (arith, in_order i j first within order, x, y))
          | inr order ↦ inr (omega (arith, in_order j i within first order, x, y))
        ]
      ]

  turned : (a m b n : ℕ) → AreApart a m b n → AreApart b n a m
  turned a m b n (inl e) = inr e
  turned a m b n (inr e) = inl e

  pub globals_stand : (i j a b : ℕ) → i ≢ j → slice_get at.globals i ≡ Some a → slice_get at.globals j ≡ Some b → AreApart a (global_size i) b (global_size j)
  globals_stand i j a b other e f =
      elim (cases_order i j) [
        | inl same ↦ absurd (other same)
        | inr order ↦ elim order [
          | inl less ↦ ordered i j a b less e f
          | inr less ↦ turned b (global_size j) a (global_size i) (ordered j i b a less f e)
        ]
      ]

  texts : (i j a b : ℕ) → i < j → slice_get at.literals i ≡ Some a → slice_get at.literals j ≡ Some b → a + literal_size i ≤ b
  texts i j a b less e f =
      let within : j < length (literal_sizes p) = omega (arith, is_within at.literals j b f, literal_count, length-map p.literals (λ (l : List ℕ). length l)) in
      omega (arith, starts_apart (empty 0x60_0000) (literal_sizes p) i j less within, start_at i a e, start_at j b f)

  pub literals_stand : (i j a b : ℕ) → i ≢ j → slice_get at.literals i ≡ Some a → slice_get at.literals j ≡ Some b → AreApart a (literal_size i) b (literal_size j)
  literals_stand i j a b other e f =
      elim (cases_order i j) [
        | inl same ↦ absurd (other same)
        | inr order ↦ elim order [
          | inl less ↦ inl (texts i j a b less e f)
          | inr less ↦ inr (texts j i b a less f e)
        ]
      ]

  -- ---- the objects of memory before the run

  abbrev P : Program
  P = program_of p

  globals_count : length (global_objects P 0 P.globals) ≡ length p.globals
  globals_count = count_objects P 0 P.globals ∙ length-map p.globals global_of

  pub static_count : length (first_memory P) ≡ length p.globals + length p.literals
  static_count = length_both (global_objects P 0 P.globals) (literal_objects 0 P.literals) ∙ ap (λ n. n + length (literal_objects 0 P.literals)) globals_count ∙ ap (λ n. length p.globals + n) (count_literals 0 P.literals)
    where
      length_both : {A : Type 0} (xs ys : List A) → length (xs ++ ys) ≡ length xs + length ys
      length_both [] ys = omega arith
      length_both (x ∷ xs) ys = omega (arith, length_both xs ys)

  pub global_object : (i : ℕ) → i < length p.globals → (o : Object) × (slice_get (first_memory P) i ≡ Some o) × (o.size ≡ global_size i)
  global_object i less =
      let (o, e, s) = object_sizes p (program_pairs g k) 0 p.globals g.globals i no_size has.same less in
      (o, get_before (global_objects P 0 P.globals) (literal_objects 0 P.literals) i (omega (arith, globals_count)) ∙ e, s)

  pub literal_object : (i : ℕ) → i < length p.literals → (o : Object) × (slice_get (first_memory P) (length p.globals + i) ≡ Some o) × (o.size ≡ literal_size i)
  literal_object i less =
      let (o, e, s) = literal_bytes 0 p.literals i less in
      (o, ap (λ n. slice_get (first_memory P) (n + i)) (sym globals_count) ∙ get_behind (global_objects P 0 P.globals) (literal_objects 0 P.literals) i ∙ e, s)
