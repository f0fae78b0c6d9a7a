-- How many objects of an image have a name that passes a test: no more than tables and globals.
use Rattle.std.proofs.Common.{◌≡◌, ◌≤◌, ◌<◌, ℕ, zero, suc, ◌+◌, ◌*◌, Bool, true, false, ◌&&◌, ◌==◌, nat_le, nat_lt, List, [], ◌∷◌, ◌++◌, map, drop, refl, ap, arith, add-one}
use Rattle.std.specs.Prelude.{slice_index, slice_index_or, slice_get, codes, if◌then◌else◌}
use Rattle.std.proofs.lemmas.Bool.{and_parts, and_left, eqb-true, lt-leb, leb-true, ltb-true}
use Rattle.fx_config.specs.declared.configuration.Compartment.{Compartment}
use Rattle.fx_c_ast.specs.declared.checked.TGlobal.{TGlobal}
use Rattle.fx_c_ast.specs.CheckedTrees.{TyTree}
use Rattle.fx_sections.specs.declared.placement.PlacedSection.{PlacedSection}
use Rattle.fx_image.specs.declared.forms.Obj.{Obj}
use Rattle.fx_image.specs.Rules.{are_spread}
use Rattle.fx_linker.specs.Data.{section_of, has_address, table_object, global_object, global_in, global_objects, section_objects, objects_from}

abbrev pub one : Bool → ℕ
one true = 1
one false = 0

-- the objects whose names pass
abbrev pub tally : (List ℕ → Bool) → List Obj → ℕ
tally t [] = 0
tally t (o ∷ os) = one (t o.name) + tally t os

tally_append : (t : List ℕ → Bool) (xs ys : List Obj) → tally t (xs ++ ys) ≡ tally t xs + tally t ys
tally_append t [] ys = omega arith
tally_append t (x ∷ xs) ys = omega (arith, tally_append t xs ys)

-- the compartments whose tables' names pass
abbrev pub tables_named : (List ℕ → Bool) → List Compartment → ℕ
tables_named t [] = 0
tables_named t (c ∷ cs) = one (t (codes ".rt." ++ c.name)) + tables_named t cs

abbrev pub globals_named : (List ℕ → Bool) → List TGlobal → ℕ
globals_named t [] = 0
globals_named t (g ∷ gs) = one (t g.name) + globals_named t gs

-- the sections that have an address, where the test passes
abbrev hits : Bool → ℕ → List PlacedSection → ℕ
hits b a [] = 0
hits b a (s ∷ ss) = one (has_address s a && b) + hits b a ss

-- where a section begins, and what follows it
pub first_page : (page : ℕ) (s : PlacedSection) (ss : List PlacedSection) → are_spread page (map section_of (s ∷ ss)) ≡ true
    → (s.page ≡ page) × (0 < s.pages) × (are_spread (s.page + s.pages + 1) (map section_of ss) ≡ true)
first_page page s ss spread =
    let outer = and_parts (s.page == page && nat_lt 0 s.pages) (are_spread (s.page + s.pages + 1) (map section_of ss)) spread in
    let inner = and_parts (s.page == page) (nat_lt 0 s.pages) outer.0 in
    (eqb-true s.page page inner.0, ltb-true 0 s.pages inner.1, outer.1)

pub addressed : (s : PlacedSection) (a : ℕ) → has_address s a ≡ true → (4096 * s.page ≤ a) × (a < 4096 * s.page + 4096 * s.pages)
addressed s a h =
    let parts = and_parts (nat_le (4096 * s.page) a) (nat_lt a (4096 * s.page + 4096 * s.pages)) h in
    (leb-true (4096 * s.page) a parts.0, ltb-true a (4096 * s.page + 4096 * s.pages) parts.1)

-- no section has an address before all of them
none_before : (b : Bool) (a page : ℕ) (ss : List PlacedSection) → are_spread page (map section_of ss) ≡ true → a < 4096 * page → hits b a ss ≡ 0
none_before b a page [] spread less = refl
none_before b a page (s ∷ ss) spread less =
    let first = first_page page s ss spread in
    let before : has_address s a ≡ false = and_left (nat_le (4096 * s.page) a) (nat_lt a (4096 * s.page + 4096 * s.pages)) (lt-leb (4096 * s.page) a (omega (arith, first.0))) in
    let rest = none_before b a (s.page + s.pages + 1) ss first.2 (omega (arith, first.0)) in
    let here : one (has_address s a && b) ≡ 0 = ap (λ c. one (c && b)) before in
    omega (arith, here, rest)

-- at most one has it
hits_few : (b : Bool) (a page : ℕ) (ss : List PlacedSection) → are_spread page (map section_of ss) ≡ true → hits b a ss ≤ one b
hits_few b a page [] spread = omega arith
hits_few b a page (s ∷ ss) spread =
    let first = first_page page s ss spread in
    by (has_address s a) refl first.2 (hits_few b a (s.page + s.pages + 1) ss first.2)
  where
    by : (h : Bool) → has_address s a ≡ h → are_spread (s.page + s.pages + 1) (map section_of ss) ≡ true → hits b a ss ≤ one b
        → one (has_address s a && b) + hits b a ss ≤ one b
    by true e behind few =
        let within = addressed s a e in
        let here : one (has_address s a && b) ≡ one b = ap (λ c. one (c && b)) e in
        let rest = none_before b a (s.page + s.pages + 1) ss behind (omega (arith, within.1)) in
        omega (arith, here, rest)
    by false e behind few =
        let here : one (has_address s a && b) ≡ 0 = ap (λ c. one (c && b)) e in
        omega (arith, here, few)

module _ (structs : List (List TyTree)) (comps : List Compartment) (initials : List (List ℕ)) (globals : List TGlobal) (addresses : List ℕ) (t : List ℕ → Bool) where
  -- globals in sections
  abbrev in_sections : (number i : ℕ) → List TGlobal → List PlacedSection → ℕ
  in_sections number i gs [] = 0
  in_sections number i gs (s ∷ ss) = tally t (global_objects structs number s addresses i gs) + in_sections (number + 1) i gs ss

  abbrev table_at : (number : ℕ) → PlacedSection → List Obj
  table_at number s = table_object number s (slice_index_or initials number []) (slice_get comps number)

  abbrev in_tables : (number : ℕ) → List PlacedSection → ℕ
  in_tables number [] = 0
  in_tables number (s ∷ ss) = tally t (table_at number s) + in_tables (number + 1) ss

  no_globals : (number i : ℕ) (ss : List PlacedSection) → in_sections number i [] ss ≡ 0
  no_globals number i [] = refl
  no_globals number i (s ∷ ss) = omega (arith, no_globals (number + 1) i ss)

  one_global : (number : ℕ) (s : PlacedSection) (a : ℕ) (g : TGlobal) → tally t (global_in structs number s a g) ≡ one (has_address s a && t g.name)
  one_global number s a g = by (has_address s a)
    where
      by : (b : Bool) → tally t (if b then global_object structs number a g ∷ [] else []) ≡ one (b && t g.name)
      by true = omega arith
      by false = omega arith

  one_more : (number i : ℕ) (g : TGlobal) (gs : List TGlobal) (ss : List PlacedSection)
      → in_sections number i (g ∷ gs) ss ≡ hits (t g.name) (slice_index addresses i) ss + in_sections number (i + 1) gs ss
  one_more number i g gs [] = omega arith
  one_more number i g gs (s ∷ ss) =
      let a = slice_index addresses i in
      let both = tally_append t (global_in structs number s a g) (global_objects structs number s addresses (i + 1) gs) in
      omega (arith, both, one_global number s a g, one_more (number + 1) i g gs ss)

  globals_few : (number i page : ℕ) (gs : List TGlobal) (ss : List PlacedSection) → are_spread page (map section_of ss) ≡ true → in_sections number i gs ss ≤ globals_named t gs
  globals_few number i page [] ss spread = omega (arith, no_globals number i ss)
  globals_few number i page (g ∷ gs) ss spread =
      omega (arith, one_more number i g gs ss, hits_few (t g.name) (slice_index addresses i) page ss spread, globals_few number (i + 1) page gs ss spread)

  one_table : (number n : ℕ) (s : PlacedSection) (initial : List ℕ) (cs : List Compartment)
      → tally t (table_object number s initial (slice_get cs n)) + tables_named t (drop (suc n) cs) ≡ tables_named t (drop n cs)
  one_table number zero s initial [] = omega arith
  one_table number (suc n) s initial [] = omega arith
  one_table number zero s initial (c ∷ cs) = omega arith
  one_table number (suc n) s initial (c ∷ cs) = one_table number n s initial cs

  tables_few : (number : ℕ) (ss : List PlacedSection) → in_tables number ss ≤ tables_named t (drop number comps)
  tables_few number [] = omega arith
  tables_few number (s ∷ ss) =
      let next : tables_named t (drop (number + 1) comps) ≡ tables_named t (drop (suc number) comps) = ap (λ n. tables_named t (drop n comps)) (add-one number) in
      omega (arith, one_table number number s (slice_index_or initials number []) comps, tables_few (number + 1) ss, next)

  parted : (number : ℕ) (ss : List PlacedSection) → tally t (objects_from structs comps initials globals addresses number ss) ≡ in_tables number ss + in_sections number 0 globals ss
  parted number [] = omega arith
  parted number (s ∷ ss) =
      let others = objects_from structs comps initials globals addresses (number + 1) ss in
      let own = global_objects structs number s addresses 0 globals in
      let outer = tally_append t (section_objects structs comps initials globals addresses number s) others in
      let inner = tally_append t (table_at number s) own in
      omega (arith, outer, inner, parted (number + 1) ss)

  pub objects_few : (page : ℕ) (ss : List PlacedSection) → are_spread page (map section_of ss) ≡ true
      → tally t (objects_from structs comps initials globals addresses 0 ss) ≤ tables_named t comps + globals_named t globals
  objects_few page ss spread = omega (arith, parted 0 ss, tables_few 0 ss, globals_few 0 0 page globals ss spread)
