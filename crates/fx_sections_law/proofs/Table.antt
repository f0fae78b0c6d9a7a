-- The rows of a program's table.
use Rattle.std.proofs.Common.{◌≡◌, ℕ, zero, suc, ◌+◌, ◌*◌, ◌<◌, ◌≤◌, List, [], ◌∷◌, length, get_or, All, AllPairs, Ok, refl, sym, ap, subst, ◌∙◌, arith, length-append}
use Rattle.std.proofs.lemmas.List.Elements.{All-nil, All-cons, All-append, All-weaker}
use Rattle.std.proofs.lemmas.List.Kept.{AllPairs-cons}
use Rattle.std.proofs.lemmas.List.Sorted.{length_permutation}
use Rattle.fx_config.specs.declared.configuration.Compartment.{Compartment}
use Rattle.fx_config.specs.declared.configuration.Config.{Config}
use Rattle.fx_c_ast.specs.declared.checked.TGlobal.{TGlobal}
use Rattle.fx_c_ast.specs.declared.checked.TProgram.{TProgram}
use Rattle.fx_grants.specs.declared.grants.Pair.{Pair}
use Rattle.fx_grants.specs.declared.grants.Grants.{Grants}
use Rattle.fx_sections.specs.declared.placement.PlacedSection.{PlacedSection}
use Rattle.fx_sections.specs.declared.placement.Placement.{Placement}
use Rattle.fx_sections.specs.declared.regions.GlobalSize.{GlobalSize}
use Rattle.fx_sections.specs.Placement.{IsPlaceable, offsets, addresses, program_pairs, program_rooms, program_objects, program_sections, program_addresses, placement_of, placed}
use Rattle.fx_sections.proofs.Offsets.{length-offsets}
use Rattle.fx_sections_law.specs.Table.{Row, runtime_row, runtime_rows, global_rows, object_rows, table_rows, EndsBefore, HasOneRowEach}
use Rattle.fx_sections_law.proofs.Sections.{some_pages, sections_apart}
use Rattle.fx_sections_law.proofs.Globals.{page_at, count_is, sections_are, global_in_section, in_section, globals_apart, behind_runtime}
use Rattle.fx_sections_law.proofs.Privates.{each_has_a_section}
use Rattle.fx_sections_law.proofs.Bounds.{placement_is}
use Rattle.fx_sections_law.proofs.Rows.{IsAmong, each_once, pairs_append, all_in_order}

-- a row's bytes lie in the pages of its section
abbrev Stands : List PlacedSection → Row → Type 0
Stands ss r =
    (r.section < length ss)
    × ((d : PlacedSection) → (4096 * (get_or ss r.section d).page ≤ r.address)
    × (r.address + r.size ≤ 4096 * ((get_or ss r.section d).page + (get_or ss r.section d).pages)))

-- of one section, in order
abbrev InOrder : Row → Row → Type 0
InOrder r t = r.section ≡ t.section → EndsBefore r t

-- ---- lists of rows

length-runtime_rows : (ss : List PlacedSection) (c : ℕ) (cs : List Compartment) → length (runtime_rows ss c cs) ≡ length cs
length-runtime_rows ss c [] = refl
length-runtime_rows ss c (x ∷ cs) = ap suc (length-runtime_rows ss (c + 1) cs)

runtime_from : (ss : List PlacedSection) (c : ℕ) (cs : List Compartment) → All (λ (r : Row). c ≤ r.section) (runtime_rows ss c cs)
runtime_from ss c [] = All-nil (λ (r : Row). c ≤ r.section)
runtime_from ss c (x ∷ cs) =
    All-cons (λ (r : Row). c ≤ r.section) (runtime_row ss c x) (runtime_rows ss (c + 1) cs) (omega arith)
    (All-weaker (λ (r : Row). c + 1 ≤ r.section) (λ (r : Row). c ≤ r.section) (λ r le. omega arith) (runtime_rows ss (c + 1) cs) (runtime_from ss (c + 1) cs))

runtime_pairs : (ss : List PlacedSection) (c : ℕ) (cs : List Compartment) → AllPairs InOrder (runtime_rows ss c cs)
runtime_pairs ss c [] = λ i j d less within. absurd (omega arith)
runtime_pairs ss c (x ∷ cs) =
    AllPairs-cons InOrder (runtime_row ss c x) (runtime_rows ss (c + 1) cs)
    (All-weaker (λ (r : Row). c + 1 ≤ r.section) (InOrder (runtime_row ss c x)) (λ r le same. absurd (omega (arith, same))) (runtime_rows ss (c + 1) cs) (runtime_from ss (c + 1) cs))
    (runtime_pairs ss (c + 1) cs)

length-global_rows : (ss : List PlacedSection) (os : List GlobalSize) (froms : List ℕ) (gs : List TGlobal) → length os ≡ length gs → length froms ≡ length gs → length (global_rows ss os froms gs) ≡ length gs
length-global_rows ss os froms [] same each = refl
length-global_rows ss [] froms (g ∷ gs) same each = absurd (omega arith)
length-global_rows ss (o ∷ os) [] (g ∷ gs) same each = absurd (omega arith)
length-global_rows ss (o ∷ os) (a ∷ froms) (g ∷ gs) same each = ap suc (length-global_rows ss os froms gs (omega arith) (omega arith))

-- a global's row has its section, its address and its size
record IsRowOf (r : Row) (o : GlobalSize) (first : ℕ) : Type 0 where
  pub section : r.section ≡ o.section
  pub address : r.address ≡ first
  pub size : r.size ≡ o.size

global_at : (ss : List PlacedSection) (os : List GlobalSize) (froms : List ℕ) (gs : List TGlobal) (i : ℕ) (d : Row) (o : GlobalSize) → length os ≡ length gs → length froms ≡ length gs → i < length gs → IsRowOf (get_or (global_rows ss os froms gs) i d) (get_or os i o) (get_or froms i 0)
global_at ss os froms [] i d o same each less = absurd (omega arith)
global_at ss [] froms (g ∷ gs) i d o same each less = absurd (omega arith)
global_at ss (x ∷ os) [] (g ∷ gs) i d o same each less = absurd (omega arith)
global_at ss (x ∷ os) (a ∷ froms) (g ∷ gs) zero d o same each less = record { section = refl; address = refl; size = refl }
global_at ss (x ∷ os) (a ∷ froms) (g ∷ gs) (suc i) d o same each less = global_at ss os froms gs i d o (omega arith) (omega arith) (omega arith)

length-addresses : (ss : List PlacedSection) (os : List GlobalSize) (offs : List ℕ) → length offs ≡ length os → length (addresses ss os offs) ≡ length os
length-addresses ss [] offs same = refl
length-addresses ss (o ∷ os) [] same = absurd (omega arith)
length-addresses ss (o ∷ os) (a ∷ offs) same = ap suc (length-addresses ss os offs (omega arith))

no_pair : Pair
no_pair = record { readers = 0; writers = 0 }

no_section : PlacedSection
no_section = record { readers = 0; writers = 0; key = 0; page = 0; pages = 0 }

no_object : GlobalSize
no_object = record { section = 0; size = 0 }

-- ---- the rows of a program

module _ (p : TProgram) (g : Grants) (k : Config) (has : IsPlaceable p g k) where
  abbrev sections : List PlacedSection
  sections = program_sections p g k

  abbrev globals : List Row
  globals = global_rows sections (program_objects p g k) (program_addresses p g k) p.globals

  pub addresses_are : length (program_addresses p g k) ≡ length p.globals
  addresses_are =
      let os : List GlobalSize = program_objects p g k in
      let n : ℕ = length k.compartments in
      length-addresses sections os (offsets n [] os) (length-offsets n [] os) ∙ count_is p g k has

  globals_are : length globals ≡ length p.globals
  globals_are = length-global_rows sections (program_objects p g k) (program_addresses p g k) p.globals (count_is p g k has) addresses_are

  row_at : (i : ℕ) (d : Row) → i < length p.globals → IsRowOf (get_or globals i d) (get_or (program_objects p g k) i no_object) (get_or (program_addresses p g k) i 0)
  row_at i d less = global_at sections (program_objects p g k) (program_addresses p g k) p.globals i d no_object (count_is p g k has) addresses_are less

  private_there : length k.compartments ≤ length sections
  private_there = omega (arith, sections_are p g k has, each_has_a_section (length k.compartments) g.globals)

  runtime_stands : (c : ℕ) (cs : List Compartment) → c + length cs ≤ length k.compartments → All (Stands sections) (runtime_rows sections c cs)
  runtime_stands c [] le = All-nil (Stands sections)
  runtime_stands c (x ∷ cs) le =
      let less : c < length sections = omega (arith, private_there) in
      All-cons (Stands sections) (runtime_row sections c x) (runtime_rows sections (c + 1) cs) (
        less,
        λ d.
            let page = page_at sections c d less in
            let some = some_pages k.mechanism 0 0x10000 (program_pairs g k) (program_rooms p g k) c d less in
            (omega (arith, page), omega (arith, page, some)),
      )
      (runtime_stands (c + 1) cs (omega arith))

  global_stands : All (Stands sections) globals
  global_stands i d less =
      let within : i < length p.globals = omega (arith, globals_are) in
      let o : GlobalSize = get_or (program_objects p g k) i no_object in
      let is = row_at i d within in
      let there = (in_section p g k has i within no_object no_pair no_pair).0 in (
        omega (arith, is.section, there),
        λ s.
            let pages = global_in_section p g k has i within no_object s no_pair in
            let page : (get_or sections (get_or globals i d).section s) ≡ (get_or sections o.section s) = ap (λ n. get_or sections n s) is.section in
            let first : (get_or sections (get_or globals i d).section s).page ≡ (get_or sections o.section s).page = ap (λ (t : PlacedSection). t.page) page in
            let count : (get_or sections (get_or globals i d).section s).pages ≡ (get_or sections o.section s).pages = ap (λ (t : PlacedSection). t.pages) page in
            (omega (arith, first, is.address, pages.1), omega (arith, first, count, is.address, is.size, pages.2)),
      )

  -- the runtime's objects stand before the globals of their sections
  runtime_first : (c : ℕ) (cs : List Compartment) → c + length cs ≤ length k.compartments → All (λ r. All (InOrder r) globals) (runtime_rows sections c cs)
  runtime_first c [] le = All-nil (λ r. All (InOrder r) globals)
  runtime_first c (x ∷ cs) le =
      All-cons (λ r. All (InOrder r) globals) (runtime_row sections c x) (runtime_rows sections (c + 1) cs)
      (λ i d less same.
      let within : i < length p.globals = omega (arith, globals_are) in
      let is = row_at i d within in
      let private : (get_or (program_objects p g k) i no_object).section < length k.compartments = omega (arith, same, is.section) in
      let page = page_at sections c no_section (omega (arith, private_there)) in
      let here : (get_or sections c no_section).page ≡ (get_or sections (get_or (program_objects p g k) i no_object).section no_section).page = ap (λ n. (get_or sections n no_section).page) (same ∙ is.section) in
      omega (arith, page, here, is.address, behind_runtime p g k has i within no_object private no_section))
      (runtime_first (c + 1) cs (omega arith))

  global_pairs : AllPairs InOrder globals
  global_pairs i j d less within same =
      let last : j < length p.globals = omega (arith, globals_are) in
      let first = row_at i d (omega arith) in
      let second = row_at j d last in
      let one : (get_or (program_objects p g k) i no_object).section ≡ (get_or (program_objects p g k) j no_object).section = sym first.section ∙ same ∙ second.section in
      omega (arith, first.address, first.size, second.address, globals_apart p g k has i j less last no_object no_object one)

  across : (r t : Row) → Stands sections r → Stands sections t → r.section < t.section → EndsBefore r t
  across r t here there less =
      let first = here.1 no_section in
      let second = there.1 no_section in
      let apart = sections_apart k.mechanism 0 0x10000 (program_pairs g k) (program_rooms p g k) r.section t.section no_section no_section less there.0 in
      omega (arith, first.1, second.0, apart.1)

  abbrev objects : List Row
  objects = object_rows p g k (placement_of p g k)

  objects_stand : All (Stands sections) objects
  objects_stand = All-append (Stands sections) (runtime_rows sections 0 k.compartments) globals (runtime_stands 0 k.compartments (omega arith)) global_stands

  objects_in_order : AllPairs InOrder objects
  objects_in_order = pairs_append InOrder (runtime_rows sections 0 k.compartments) globals (runtime_pairs sections 0 k.compartments) global_pairs (runtime_first 0 k.compartments (omega arith))

  one_row_each : HasOneRowEach p g k (placement_of p g k)
  one_row_each =
      let once = each_once 0 (length sections) objects (All-weaker (Stands sections) (IsAmong 0 (length sections)) (λ r stands. (omega arith, omega (arith, stands.0))) objects objects_stand) in
      record {
        each = once;
        count = length_permutation objects (table_rows p g k (placement_of p g k)) once
            ∙ omega (arith, length-append (runtime_rows sections 0 k.compartments) globals, length-runtime_rows sections 0 k.compartments, globals_are);
        ascending = all_in_order EndsBefore (Stands sections) across 0 (length sections) objects objects_stand objects_in_order;
      }

pub table_ascends : (p : TProgram) (g : Grants) (k : Config) (at : Placement) → IsPlaceable p g k → placed p g k ≡ Ok at → HasOneRowEach p g k at
table_ascends p g k at has is = subst (HasOneRowEach p g k) (placement_is p g k at is) (one_row_each p g k has)
