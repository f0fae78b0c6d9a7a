-- Where globals lie in their sections.
use Rattle.std.proofs.Common.{◌≡◌, ℕ, zero, suc, ◌+◌, ◌*◌, ◌/◌, ◌%◌, ◌<◌, ◌≤◌, Bool, true, false, not, ◌||◌, nat_eq, nat_lt, cond, if◌then◌else◌, List, [], ◌∷◌, ◌++◌, length, take, drop, get_or, Some, None, unwrap_or, refl, sym, ap, subst, ◌∙◌, append_assoc, true≢false, ◌-◌, arith, lit≤}
use Rattle.std.proofs.lemmas.Bool.{lt-ltb, and_parts, eqb-true}
use Rattle.std.proofs.lemmas.List.{take_more, take-take, take-append-drop}
use Rattle.std.specs.List.{list_any, position_or_len}
use Rattle.fx_config.specs.declared.configuration.Config.{Config}
use Rattle.fx_c_ast.specs.declared.checked.TGlobal.{TGlobal}
use Rattle.fx_c_ast.specs.declared.checked.TProgram.{TProgram}
use Rattle.fx_c_ast.specs.CheckedTrees.{TyTree, struct_types}
use Rattle.fx_c_ast.proofs.Layouts.{round_from}
use Rattle.fx_grants.specs.declared.grants.Pair.{Pair}
use Rattle.fx_grants.specs.declared.grants.Grants.{Grants}
use Rattle.fx_sections.specs.declared.placement.PlacedSection.{PlacedSection}
use Rattle.fx_sections.specs.declared.regions.Room.{Room}
use Rattle.fx_sections.specs.declared.regions.GlobalSize.{GlobalSize}
use Rattle.fx_sections.specs.Pairs.{same_pair, section_of}
use Rattle.fx_sections.specs.Regions.{empty, with_object, with_objects, page_count, sizes_in}
use Rattle.fx_sections.specs.Placement.{IsPlaceable, sized, opening, room_of, offsets, addresses, page_of, program_pairs, program_objects, program_rooms, program_sections, program_addresses}
use Rattle.fx_sections.proofs.Rooms.{with_objects-append, sizes_in-append, room_of-own, get_or-rooms_from, length-rooms_from}
use Rattle.fx_sections.proofs.Offsets.{length-offsets}
use Rattle.fx_sections_law.proofs.Differ.{pair_is_among}
use Rattle.fx_sections_law.proofs.Sections.{length-sections_from, readers_at, writers_at, pages_at}

-- ---- the section of a pair

-- a place in the list at which the test passes
abbrev Passes : (Pair → Bool) → List Pair → Pair → ℕ → Type 0
Passes t ps d n = (n < length ps) × (t (get_or ps n d) ≡ true)

found_first : (t : Pair → Bool) (ps : List Pair) (d : Pair) → list_any t ps ≡ true → Passes t ps d (position_or_len t ps)
found_first t [] d has = absurd (true≢false (sym has))
found_first t (p ∷ ps) d has = by (t p) refl (found_first t ps d)
  where
    by : (b : Bool) → t p ≡ b → (list_any t ps ≡ true → Passes t ps d (position_or_len t ps)) → Passes t (p ∷ ps) d (cond (not (t p)) (1 + position_or_len t ps) 0)
    by true e rest = subst (λ b. Passes t (p ∷ ps) d (cond (not b) (1 + position_or_len t ps) 0)) (sym e) (omega arith, e)
    by false e rest =
        let found = rest (sym (ap (λ b. b || list_any t ps) e) ∙ has) in
        let next : 1 + position_or_len t ps ≡ suc (position_or_len t ps) = omega arith in
        let there : t (get_or (p ∷ ps) (1 + position_or_len t ps) d) ≡ true = ap (λ n. t (get_or (p ∷ ps) n d)) next ∙ found.1 in
        subst (λ b. Passes t (p ∷ ps) d (cond (not b) (1 + position_or_len t ps) 0)) (sym e) (omega (arith, found.0), there)

pub section_found : (ps : List Pair) (q d : Pair) → list_any (same_pair q) ps ≡ true → (section_of ps q < length ps) × (same_pair q (get_or ps (section_of ps q) d) ≡ true)
section_found ps q d has =
    let found = found_first (same_pair q) ps d has in
    let n = position_or_len (same_pair q) ps in
    let is : section_of ps q ≡ n = ap (λ b. unwrap_or (cond b (Some n) None) 0) (lt-ltb n (length ps) found.0) in
    (subst (λ s. s < length ps) (sym is) found.0, ap (λ s. same_pair q (get_or ps s d)) is ∙ found.1)

pub same_parts : (p q : Pair) → same_pair p q ≡ true → (p.readers ≡ q.readers) × (p.writers ≡ q.writers)
same_parts p q same =
    let parts = and_parts (nat_eq p.readers q.readers) (nat_eq p.writers q.writers) same in
    (eqb-true p.readers q.readers parts.0, eqb-true p.writers q.writers parts.1)

-- ---- rooms

object_behind : (r : Room) (size : ℕ) → r.next + size + 16 ≤ (with_object r size).next
object_behind r size = round_from (r.next + size + 16) 16 (lit≤ tt)

next_grows : (r : Room) (xs : List ℕ) → r.next ≤ (with_objects r xs).next
next_grows r [] = omega arith
next_grows r (x ∷ xs) = omega (arith, next_grows (with_object r x) xs, object_behind r x)

end_grows : (r : Room) (xs : List ℕ) → r.end ≤ r.next → r.end ≤ (with_objects r xs).end
end_grows r [] le = omega arith
end_grows r (x ∷ xs) le =
    let ordered : (with_object r x).end ≤ (with_object r x).next = omega (arith, object_behind r x) in
    omega (arith, end_grows (with_object r x) xs ordered)

sixteens : (n : ℕ) → n * 16 % 16 ≡ 0
sixteens n = omega arith

next_multiple : (r : Room) (xs : List ℕ) → r.next % 16 ≡ 0 → (with_objects r xs).next % 16 ≡ 0
next_multiple r [] h = h
next_multiple r (x ∷ xs) h = next_multiple (with_object r x) xs (sixteens ((r.next + x + 16 + (16 - 1)) / 16))

opening_multiple : (n k : ℕ) → (opening n k).next % 16 ≡ 0
opening_multiple n k = by (nat_lt k n)
  where
    by : (b : Bool) → (if b then with_object (empty 0) 4096 else empty 0).next % 16 ≡ 0
    by true = refl
    by false = refl

room_of-append : (n : ℕ) (xs ys : List GlobalSize) (k : ℕ) → room_of n (xs ++ ys) k ≡ with_objects (room_of n xs k) (sizes_in k ys)
room_of-append n xs ys k = ap (with_objects (opening n k)) (sizes_in-append k xs ys) ∙ with_objects-append (opening n k) (sizes_in k xs) (sizes_in k ys)

-- the room of a section behind one of its objects and others
room_behind : (n : ℕ) (xs ys : List GlobalSize) (o : GlobalSize) → ((room_of n xs o.section).next + o.size + 16 ≤ (room_of n ((xs ++ o ∷ []) ++ ys) o.section).next) × ((room_of n xs o.section).next + o.size ≤ (room_of n ((xs ++ o ∷ []) ++ ys) o.section).end)
room_behind n xs ys o =
    let r : Room = room_of n xs o.section in
    let s : Room = with_object r o.size in
    let whole : room_of n ((xs ++ o ∷ []) ++ ys) o.section ≡ with_objects s (sizes_in o.section ys) =
    room_of-append n (xs ++ o ∷ []) ys o.section ∙ ap (λ q. with_objects q (sizes_in o.section ys)) (room_of-own n xs o o.section refl) in
    let ordered : s.end ≤ s.next = omega (arith, object_behind r o.size) in
    let nexts : (room_of n ((xs ++ o ∷ []) ++ ys) o.section).next ≡ (with_objects s (sizes_in o.section ys)).next = ap (λ (q : Room). q.next) whole in
    let ends : (room_of n ((xs ++ o ∷ []) ++ ys) o.section).end ≡ (with_objects s (sizes_in o.section ys)).end = ap (λ (q : Room). q.end) whole in
    (omega (arith, next_grows s (sizes_in o.section ys), object_behind r o.size), omega (arith, end_grows s (sizes_in o.section ys) ordered))

-- a longer front of a list, around an object of it
front : (os : List GlobalSize) (i j : ℕ) (d : GlobalSize) → i < j → j ≤ length os → take j os ≡ (take i os ++ get_or os i d ∷ []) ++ drop (i + 1) (take j os)
front os i j d less within =
    sym (take-append-drop (i + 1) (take j os))
    ∙ ap (λ l. l ++ drop (i + 1) (take j os)) (take-take (i + 1) j os (omega arith) ∙ take_more os i d (omega arith))

whole_list : (os : List GlobalSize) (i : ℕ) (d : GlobalSize) → i < length os → os ≡ (take i os ++ get_or os i d ∷ []) ++ drop (i + 1) os
whole_list os i d less = sym (take-append-drop (i + 1) os) ∙ ap (λ l. l ++ drop (i + 1) os) (take_more os i d less)

-- ---- offsets and addresses

abbrev pub offset_at : ℕ → List GlobalSize → ℕ → GlobalSize → ℕ
offset_at n os i d = (room_of n (take i os) (get_or os i d).section).next

get_or-offsets : (n : ℕ) (before os : List GlobalSize) (i : ℕ) (d : GlobalSize) → i < length os → get_or (offsets n before os) i 0 ≡ (room_of n (before ++ take i os) (get_or os i d).section).next
get_or-offsets n before [] i d less = absurd (omega arith)
get_or-offsets n before (o ∷ os) zero d less = ap (λ l. (room_of n l o.section).next) (sym (append_nothing before))
  where
    append_nothing : (xs : List GlobalSize) → xs ++ [] ≡ xs
    append_nothing [] = refl
    append_nothing (x ∷ xs) = ap (λ l. x ∷ l) (append_nothing xs)
get_or-offsets n before (o ∷ os) (suc i) d less =
    get_or-offsets n (before ++ o ∷ []) os i d (omega arith)
    ∙ ap (λ l. (room_of n l (get_or os i d).section).next) (append_assoc before (o ∷ []) (take i os))

get_or-addresses : (ss : List PlacedSection) (os : List GlobalSize) (offs : List ℕ) (i : ℕ) (d : GlobalSize) → length offs ≡ length os → i < length os → get_or (addresses ss os offs) i 0 ≡ 4096 * page_of ss (get_or os i d).section + get_or offs i 0
get_or-addresses ss [] offs i d same less = absurd (omega arith)
get_or-addresses ss (o ∷ os) [] i d same less = absurd (omega arith)
get_or-addresses ss (o ∷ os) (at ∷ offs) zero d same less = refl
get_or-addresses ss (o ∷ os) (at ∷ offs) (suc i) d same less = get_or-addresses ss os offs i d (omega arith) (omega arith)

pub page_at : (ss : List PlacedSection) (s : ℕ) (d : PlacedSection) → s < length ss → page_of ss s ≡ (get_or ss s d).page
page_at [] s d less = absurd (omega arith)
page_at (x ∷ xs) zero d less = refl
page_at (x ∷ xs) (suc s) d less = page_at xs s d (omega arith)

-- ---- the objects of a program

length-sized : (ss : List (List TyTree)) (ps : List Pair) (gs : List TGlobal) (qs : List Pair) → length qs ≡ length gs → length (sized ss ps gs qs) ≡ length gs
length-sized ss ps [] qs same = refl
length-sized ss ps (g ∷ gs) [] same = absurd (omega arith)
length-sized ss ps (g ∷ gs) (q ∷ qs) same = ap suc (length-sized ss ps gs qs (omega arith))

section_at : (ss : List (List TyTree)) (ps : List Pair) (gs : List TGlobal) (qs : List Pair) (i : ℕ) (d : GlobalSize) (e : Pair) → length qs ≡ length gs → i < length gs → (get_or (sized ss ps gs qs) i d).section ≡ section_of ps (get_or qs i e)
section_at ss ps [] qs i d e same less = absurd (omega arith)
section_at ss ps (g ∷ gs) [] i d e same less = absurd (omega arith)
section_at ss ps (g ∷ gs) (q ∷ qs) zero d e same less = refl
section_at ss ps (g ∷ gs) (q ∷ qs) (suc i) d e same less = section_at ss ps gs qs i d e (omega arith) (omega arith)

within_pages : (bytes : ℕ) → bytes ≤ 4096 * page_count bytes
within_pages bytes = omega arith

module _ (p : TProgram) (g : Grants) (k : Config) (has : IsPlaceable p g k) where
  pub count_is : length (program_objects p g k) ≡ length p.globals
  count_is = length-sized (struct_types p.structs) (program_pairs g k) p.globals g.globals has.same

  pub sections_are : length (program_sections p g k) ≡ length (program_pairs g k)
  sections_are = length-sections_from k.mechanism 0 0x10000 (program_pairs g k) (program_rooms p g k) (length-rooms_from (length k.compartments) (program_objects p g k) 0 (length (program_pairs g k)))

  -- the section of a global, and that its pair is the global's
  pub in_section : (i : ℕ) → i < length p.globals → (d : GlobalSize) (e q : Pair) → ((get_or (program_objects p g k) i d).section < length (program_sections p g k)) × (same_pair (get_or g.globals i e) (get_or (program_pairs g k) (get_or (program_objects p g k) i d).section q) ≡ true)
  in_section i less d e q =
      let among = pair_is_among (length k.compartments) g.globals i e (omega (arith, has.same)) in
      let found = section_found (program_pairs g k) (get_or g.globals i e) q among in
      let is = section_at (struct_types p.structs) (program_pairs g k) p.globals g.globals i d e has.same less in
      (subst (λ s. s < length (program_sections p g k)) (sym is) (omega (arith, found.0, sections_are)), ap (λ s. same_pair (get_or g.globals i e) (get_or (program_pairs g k) s q)) is ∙ found.1)

  pub address_is : (i : ℕ) → i < length p.globals → (d : GlobalSize) → get_or (program_addresses p g k) i 0 ≡ 4096 * page_of (program_sections p g k) (get_or (program_objects p g k) i d).section + offset_at (length k.compartments) (program_objects p g k) i d
  address_is i less d =
      let os = program_objects p g k in
      let n = length k.compartments in
      let within : i < length os = omega (arith, count_is) in
      get_or-addresses (program_sections p g k) os (offsets n [] os) i d (length-offsets n [] os) within
      ∙ ap (λ o. 4096 * page_of (program_sections p g k) (get_or os i d).section + o) (get_or-offsets n [] os i d within)

  pub global_in_section : (i : ℕ) → i < length p.globals → (d : GlobalSize) (s : PlacedSection) (e : Pair)
      → let o = get_or (program_objects p g k) i d in
      let t = get_or (program_sections p g k) o.section s in
      ((t.readers ≡ (get_or g.globals i e).readers) × (t.writers ≡ (get_or g.globals i e).writers))
      × (4096 * t.page ≤ get_or (program_addresses p g k) i 0)
      × (get_or (program_addresses p g k) i 0 + o.size ≤ 4096 * (t.page + t.pages))
  global_in_section i less d s e =
      let n = length k.compartments in
      let os = program_objects p g k in
      let o : GlobalSize = get_or os i d in
      let ss = program_sections p g k in
      let t : PlacedSection = get_or ss o.section s in
      let inside = in_section i less d e e in
      let parts = same_parts (get_or g.globals i e) (get_or (program_pairs g k) o.section e) inside.1 in
      let rooms = program_rooms p g k in
      let room : Room = get_or rooms o.section (empty 0) in
      let room_is : room ≡ room_of n os o.section = get_or-rooms_from n os 0 (length (program_pairs g k)) o.section (empty 0) (omega (arith, inside.0, sections_are)) ∙ ap (room_of n os) (omega arith) in
      let pages : t.pages ≡ page_count room.end = pages_at k.mechanism 0 0x10000 (program_pairs g k) rooms o.section s (empty 0) inside.0 in
      let address = address_is i less d in
      let page = page_at ss o.section s inside.0 in
      let behind = room_behind n (take i os) (drop (i + 1) os) o in
      let whole : room_of n ((take i os ++ o ∷ []) ++ drop (i + 1) os) o.section ≡ room_of n os o.section = ap (λ l. room_of n l o.section) (sym (whole_list os i d (omega (arith, count_is)))) in
      let ends : room.end ≡ (room_of n ((take i os ++ o ∷ []) ++ drop (i + 1) os) o.section).end = ap (λ (r : Room). r.end) (room_is ∙ sym whole) in
      let enough = within_pages room.end in
      let sums : 4096 * (t.page + t.pages) ≡ 4096 * t.page + 4096 * page_count room.end = ap (λ m. 4096 * (t.page + m)) pages ∙ omega arith in
      let same_page : 4096 * page_of ss o.section ≡ 4096 * t.page = ap (λ m. 4096 * m) page in
      ((readers_at k.mechanism 0 0x10000 (program_pairs g k) rooms o.section s e inside.0 ∙ sym parts.0, writers_at k.mechanism 0 0x10000 (program_pairs g k) rooms o.section s e inside.0 ∙ sym parts.1), omega arith, omega arith)

  pub globals_apart : (i j : ℕ) → i < j → j < length p.globals → (d e : GlobalSize) → (get_or (program_objects p g k) i d).section ≡ (get_or (program_objects p g k) j e).section
      → get_or (program_addresses p g k) i 0 + (get_or (program_objects p g k) i d).size + 16 ≤ get_or (program_addresses p g k) j 0
  globals_apart i j less within d e same =
      let n = length k.compartments in
      let os = program_objects p g k in
      let o : GlobalSize = get_or os i d in
      let first = address_is i (omega arith) d in
      let second = address_is j within e in
      let behind = room_behind n (take i os) (drop (i + 1) (take j os)) o in
      let upto : room_of n (take j os) o.section ≡ room_of n ((take i os ++ o ∷ []) ++ drop (i + 1) (take j os)) o.section = ap (λ l. room_of n l o.section) (front os i j d less (omega (arith, count_is))) in
      let nexts : (room_of n (take j os) (get_or os j e).section).next ≡ (room_of n ((take i os ++ o ∷ []) ++ drop (i + 1) (take j os)) o.section).next = ap (λ s. (room_of n (take j os) s).next) (sym same) ∙ ap (λ (r : Room). r.next) upto in
      let pages : 4096 * page_of (program_sections p g k) (get_or os j e).section ≡ 4096 * page_of (program_sections p g k) o.section = ap (λ s. 4096 * page_of (program_sections p g k) s) (sym same) in
      omega arith

  pub address_multiple : (i : ℕ) → i < length p.globals → (d : GlobalSize) → get_or (program_addresses p g k) i 0 % 16 ≡ 0
  address_multiple i less d =
      let n = length k.compartments in
      let os = program_objects p g k in
      let s = (get_or os i d).section in
      let multiple : offset_at n os i d % 16 ≡ 0 = next_multiple (opening n s) (sizes_in s (take i os)) (opening_multiple n s) in
      ap (λ a. a % 16) (address_is i less d) ∙ paged (page_of (program_sections p g k) s) (offset_at n os i d) multiple
    where
      paged : (m o : ℕ) → o % 16 ≡ 0 → (4096 * m + o) % 16 ≡ 0
      paged m o h = omega arith

  pub behind_runtime : (i : ℕ) → i < length p.globals → (d : GlobalSize) → (get_or (program_objects p g k) i d).section < length k.compartments → (s : PlacedSection) → 4096 * (get_or (program_sections p g k) (get_or (program_objects p g k) i d).section s).page + 4096 + 16 ≤ get_or (program_addresses p g k) i 0
  behind_runtime i less d private s =
      let n = length k.compartments in
      let os = program_objects p g k in
      let o : GlobalSize = get_or os i d in
      let inside = in_section i less d first_of first_of in
      let page = page_at (program_sections p g k) o.section s inside.0 in
      let same_page : 4096 * page_of (program_sections p g k) o.section ≡ 4096 * (get_or (program_sections p g k) o.section s).page = ap (λ m. 4096 * m) page in
      let opened : (opening n o.section).next ≡ 4112 = ap (λ b. (if b then with_object (empty 0) 4096 else empty 0).next) (lt-ltb o.section n private) in
      let grows = next_grows (opening n o.section) (sizes_in o.section (take i os)) in
      let address = address_is i less d in
      omega arith
    where
      first_of : Pair
      first_of = record { readers = 0; writers = 0 }
