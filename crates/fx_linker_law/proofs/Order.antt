-- The objects of an image ascend, each in its section's pages.
use Rattle.std.proofs.Common.{◌≡◌, ◌≤◌, ◌<◌, ℕ, suc, ◌+◌, ◌*◌, Bool, true, false, nat_le, List, [], ◌∷◌, ◌++◌, length, map, get_or, All, refl, sym, ap, subst, ◌∙◌, arith}
use Rattle.std.specs.Prelude.{slice_index, slice_index_or, slice_get, Option, Some, None, codes, if◌then◌else◌}
use Rattle.std.specs.List.{list_all}
use Rattle.std.proofs.lemmas.Bool.{and_from, and_parts, or_left, or_right, le-leb, leb-true}
use Rattle.std.proofs.lemmas.List.Elements.{All-nil, All-cons, All-head, All-tail, All-append}
use Rattle.std.proofs.lemmas.List.Folds.{list_all-append}
use Rattle.std.proofs.lemmas.List.Sums.{list_all-from_AllPass}
use Rattle.fx_config.specs.declared.configuration.Compartment.{Compartment}
use Rattle.fx_c_ast.specs.declared.checked.TGlobal.{TGlobal}
use Rattle.fx_c_ast.specs.CheckedTrees.{TyTree}
use Rattle.fx_sections.specs.declared.placement.PlacedSection.{PlacedSection}
use Rattle.fx_sections.specs.Placement.{global_size}
use Rattle.fx_sections.specs.Initials.{used_bytes}
use Rattle.fx_image.specs.declared.forms.Obj.{Obj}
use Rattle.fx_image.specs.declared.forms.Section.{Section}
use Rattle.fx_image.specs.Rules.{is_c_name, is_object_name, is_inside, is_trimmed, is_object, are_apart, are_spread}
use Rattle.fx_linker.specs.Data.{section_of, has_address, table_object, global_object, global_objects, section_objects, objects_from}
use Rattle.fx_linker_law.specs.Premises.{HasInitial}
use Rattle.fx_linker_law.proofs.Tests.{four}
use Rattle.fx_linker_law.proofs.Trimmed.{used_length, initial_trimmed, used_trimmed}
use Rattle.fx_linker_law.proofs.Tally.{addressed, first_page}

-- ---- lists of objects

-- an object that is one of section `number`, whose pages are these
pub record IsIn (number : ℕ) (s : PlacedSection) (o : Obj) : Type 0 where
  pub section : o.section ≡ number
  pub first : 4096 * s.page ≤ o.address
  pub last : o.address + o.size ≤ 4096 * (s.page + s.pages)
  pub name : is_object_name o.name ≡ true
  pub initial : length o.initial ≤ o.size
  pub trimmed : is_trimmed o.initial ≡ true

abbrev EndsBy : ℕ → Obj → Type 0
EndsBy limit o = o.address + o.size + 16 ≤ limit

apart_lower : (least mid : ℕ) (os : List Obj) → least ≤ mid → are_apart mid os ≡ true → are_apart least os ≡ true
apart_lower least mid [] le h = refl
apart_lower least mid (o ∷ os) le h =
    let parts = and_parts (nat_le mid o.address) (are_apart (o.address + o.size + 16) os) h in
    and_from (nat_le least o.address) (are_apart (o.address + o.size + 16) os)
    (le-leb least o.address (omega (arith, leb-true mid o.address parts.0))) parts.1

apart_append : (least mid : ℕ) (xs ys : List Obj) → least ≤ mid → are_apart least xs ≡ true → All (EndsBy mid) xs → are_apart mid ys ≡ true → are_apart least (xs ++ ys) ≡ true
apart_append least mid [] ys le first ends second = apart_lower least mid ys le second
apart_append least mid (x ∷ xs) ys le first ends second =
    let parts = and_parts (nat_le least x.address) (are_apart (x.address + x.size + 16) xs) first in
    and_from (nat_le least x.address) (are_apart (x.address + x.size + 16) (xs ++ ys)) parts.0
    (apart_append (x.address + x.size + 16) mid xs ys (All-head (EndsBy mid) x xs ends) parts.1 (All-tail (EndsBy mid) x xs ends) second)

-- an object of a section passes the test
passes : (all : List Section) (number : ℕ) (s : PlacedSection) (o : Obj) → slice_get all number ≡ Some (section_of s) → IsIn number s o → is_object all o ≡ true
passes all number s o there is =
    let found : slice_get all o.section ≡ Some (section_of s) = ap (slice_get all) is.section ∙ there in
    four (is_object_name o.name) (is_inside (slice_get all o.section) o) (nat_le (length o.initial) o.size) (is_trimmed o.initial)
    is.name
    (ap (λ x. is_inside x o) found
    ∙ and_from (nat_le (4096 * s.page) o.address) (nat_le (o.address + o.size) (4096 * (s.page + s.pages)))
    (le-leb (4096 * s.page) o.address is.first) (le-leb (o.address + o.size) (4096 * (s.page + s.pages)) is.last))
    (le-leb (length o.initial) o.size is.initial)
    is.trimmed

abbrev Named : TGlobal → Type 0
Named g = is_c_name g.name ≡ true

module _ (structs : List (List TyTree)) (addresses : List ℕ) where
  -- ---- globals from a number on, by what is known of those that have an address in a section

  -- they end in it
  abbrev pub Ends : PlacedSection → ℕ → List TGlobal → Type 0
  Ends s i gs = (j : ℕ) (d : TGlobal) → j < length gs → has_address s (slice_index addresses (i + j)) ≡ true
      → slice_index addresses (i + j) + global_size structs (get_or gs j d) ≤ 4096 * (s.page + s.pages)

  -- each ends 16 bytes or more before a later one begins
  abbrev pub Ascend : PlacedSection → ℕ → List TGlobal → Type 0
  Ascend s i gs = (j l : ℕ) (d : TGlobal) → j < l → l < length gs
      → has_address s (slice_index addresses (i + j)) ≡ true → has_address s (slice_index addresses (i + l)) ≡ true
      → slice_index addresses (i + j) + global_size structs (get_or gs j d) + 16 ≤ slice_index addresses (i + l)

  -- they begin behind a place
  abbrev pub Behind : PlacedSection → (least i : ℕ) → List TGlobal → Type 0
  Behind s least i gs = (j : ℕ) → j < length gs → has_address s (slice_index addresses (i + j)) ≡ true → least ≤ slice_index addresses (i + j)

  next : (i j : ℕ) → i + suc j ≡ i + 1 + j
  next i j = omega arith

  here : (i : ℕ) → i + 0 ≡ i
  here i = omega arith

  ends_next : (s : PlacedSection) (i : ℕ) (g : TGlobal) (gs : List TGlobal) → Ends s i (g ∷ gs) → Ends s (i + 1) gs
  ends_next s i g gs ends j d less =
      subst (λ (n : ℕ). has_address s (slice_index addresses n) ≡ true → slice_index addresses n + global_size structs (get_or gs j d) ≤ 4096 * (s.page + s.pages)) (next i j)
      (ends (suc j) d (omega arith))

  ascend_next : (s : PlacedSection) (i : ℕ) (g : TGlobal) (gs : List TGlobal) → Ascend s i (g ∷ gs) → Ascend s (i + 1) gs
  ascend_next s i g gs ascend j l d less within =
      subst (λ (n : ℕ). has_address s (slice_index addresses n) ≡ true → has_address s (slice_index addresses (i + 1 + l)) ≡ true
      → slice_index addresses n + global_size structs (get_or gs j d) + 16 ≤ slice_index addresses (i + 1 + l)) (next i j)
      (subst (λ (m : ℕ). has_address s (slice_index addresses (i + suc j)) ≡ true → has_address s (slice_index addresses m) ≡ true
      → slice_index addresses (i + suc j) + global_size structs (get_or gs j d) + 16 ≤ slice_index addresses m) (next i l)
      (ascend (suc j) (suc l) d (omega arith) (omega arith)))

  behind_next : (s : PlacedSection) (least i : ℕ) (g : TGlobal) (gs : List TGlobal) → Behind s least i (g ∷ gs) → Behind s least (i + 1) gs
  behind_next s least i g gs behind j less =
      subst (λ (n : ℕ). has_address s (slice_index addresses n) ≡ true → least ≤ slice_index addresses n) (next i j) (behind (suc j) (omega arith))

  -- those behind one that is in the section
  behind_first : (s : PlacedSection) (i : ℕ) (g : TGlobal) (gs : List TGlobal) → Ascend s i (g ∷ gs) → has_address s (slice_index addresses i) ≡ true
      → Behind s (slice_index addresses i + global_size structs g + 16) (i + 1) gs
  behind_first s i g gs ascend e j less =
      subst (λ (n : ℕ). has_address s (slice_index addresses n) ≡ true → slice_index addresses i + global_size structs g + 16 ≤ slice_index addresses n) (next i j)
      (subst (λ (m : ℕ). has_address s (slice_index addresses m) ≡ true → has_address s (slice_index addresses (i + suc j)) ≡ true
      → slice_index addresses m + global_size structs g + 16 ≤ slice_index addresses (i + suc j)) (here i)
      (ascend 0 (suc j) g (omega arith) (omega arith)) e)

  globals_apart : (number : ℕ) (s : PlacedSection) (least i : ℕ) (gs : List TGlobal) → Ascend s i gs → Behind s least i gs → are_apart least (global_objects structs number s addresses i gs) ≡ true
  globals_apart number s least i [] ascend behind = refl
  globals_apart number s least i (g ∷ gs) ascend behind =
      by (has_address s (slice_index addresses i)) refl
      (λ from is. globals_apart number s from (i + 1) gs (ascend_next s i g gs ascend) is)
    where
      rest : List Obj
      rest = global_objects structs number s addresses (i + 1) gs

      by : (b : Bool) → has_address s (slice_index addresses i) ≡ b
          → ((from : ℕ) → Behind s from (i + 1) gs → are_apart from rest ≡ true)
          → are_apart least ((if b then global_object structs number (slice_index addresses i) g ∷ [] else []) ++ rest) ≡ true
      by true e others =
          let a = slice_index addresses i in
          let from : least ≤ a =
          subst (λ (n : ℕ). has_address s (slice_index addresses n) ≡ true → least ≤ slice_index addresses n) (here i) (behind 0 (omega arith)) e in
          and_from (nat_le least a) (are_apart (a + global_size structs g + 16) rest) (le-leb least a from)
          (others (a + global_size structs g + 16) (behind_first s i g gs ascend e))
      by false e others = others least (behind_next s least i g gs behind)

  globals_in : (number : ℕ) (s : PlacedSection) (i : ℕ) (gs : List TGlobal) → Ends s i gs → All Named gs → All (HasInitial structs) gs → All (IsIn number s) (global_objects structs number s addresses i gs)
  globals_in number s i [] ends names initials = All-nil (IsIn number s)
  globals_in number s i (g ∷ gs) ends names initials =
      by (has_address s (slice_index addresses i)) refl
      (globals_in number s (i + 1) gs (ends_next s i g gs ends) (All-tail Named g gs names) (All-tail (HasInitial structs) g gs initials))
    where
      rest : List Obj
      rest = global_objects structs number s addresses (i + 1) gs

      by : (b : Bool) → has_address s (slice_index addresses i) ≡ b → All (IsIn number s) rest
          → All (IsIn number s) ((if b then global_object structs number (slice_index addresses i) g ∷ [] else []) ++ rest)
      by true e others =
          let a = slice_index addresses i in
          let ends_here : a + global_size structs g ≤ 4096 * (s.page + s.pages) =
          subst (λ (n : ℕ). has_address s (slice_index addresses n) ≡ true → slice_index addresses n + global_size structs g ≤ 4096 * (s.page + s.pages)) (here i) (ends 0 g (omega arith)) e in
          All-cons (IsIn number s) (global_object structs number a g) rest
          (record {
            section = refl;
            first = (addressed s a e).0;
            last = ends_here;
            name = or_left (is_c_name g.name) _ (All-head Named g gs names);
            initial = All-head (HasInitial structs) g gs initials;
            trimmed = initial_trimmed (global_size structs g) g.init;
          })
          others
      by false e others = others

  module _ (comps : List Compartment) (initials : List (List ℕ)) (globals : List TGlobal) where
    abbrev initial_of : ℕ → List ℕ
    initial_of number = slice_index_or initials number []

    table_in : (number : ℕ) (s : PlacedSection) (initial : List ℕ) (c : Option Compartment) → 0 < s.pages → length initial ≤ 4096
        → ((x : Compartment) → c ≡ Some x → is_c_name x.name ≡ true) → All (IsIn number s) (table_object number s initial c)
    table_in number s initial None some few names = All-nil (IsIn number s)
    table_in number s initial (Some c) some few names =
        All-cons (IsIn number s) (record { name = codes ".rt." ++ c.name; section = number; address = 4096 * s.page; size = 4096; initial = used_bytes initial }) []
        (record {
          section = refl;
          first = omega arith;
          last = omega arith;
          name = or_right (is_c_name (codes ".rt." ++ c.name)) (is_c_name c.name) (names c refl);
          initial = omega (arith, used_length initial);
          trimmed = used_trimmed initial;
        })
        (All-nil (IsIn number s))

    -- what is known of section `number`
    pub record IsKnown (all : List Section) (number : ℕ) (s : PlacedSection) : Type 0 where
      pub there : slice_get all number ≡ Some (section_of s)
      pub ends : Ends s 0 globals
      pub ascend : Ascend s 0 globals
      pub behind : (c : Compartment) → slice_get comps number ≡ Some c → Behind s (4096 * s.page + 4096 + 16) 0 globals

    section_apart : (all : List Section) (number : ℕ) (s : PlacedSection) → IsKnown all number s
        → are_apart (4096 * s.page) (section_objects structs comps initials globals addresses number s) ≡ true
    section_apart all number s known = by (slice_get comps number) refl
      where
        by : (c : Option Compartment) → slice_get comps number ≡ c
            → are_apart (4096 * s.page) (table_object number s (initial_of number) c ++ global_objects structs number s addresses 0 globals) ≡ true
        by None e = globals_apart number s (4096 * s.page) 0 globals known.ascend (λ j less h. (addressed s (slice_index addresses (0 + j)) h).0)
        by (Some c) e =
            and_from (nat_le (4096 * s.page) (4096 * s.page)) (are_apart (4096 * s.page + 4096 + 16) (global_objects structs number s addresses 0 globals))
            (le-leb (4096 * s.page) (4096 * s.page) (omega arith))
            (globals_apart number s (4096 * s.page + 4096 + 16) 0 globals known.ascend (known.behind c e))

    module _ (tables : (n : ℕ) → length (initial_of n) ≤ 4096) (comps_named : (n : ℕ) (x : Compartment) → slice_get comps n ≡ Some x → is_c_name x.name ≡ true)
        (named : All Named globals) (fits : All (HasInitial structs) globals) (all : List Section) where
      section_in : (number : ℕ) (s : PlacedSection) → 0 < s.pages → IsKnown all number s → All (IsIn number s) (section_objects structs comps initials globals addresses number s)
      section_in number s some known =
          All-append (IsIn number s) (table_object number s (initial_of number) (slice_get comps number)) (global_objects structs number s addresses 0 globals)
          (table_in number s (initial_of number) (slice_get comps number) some (tables number) (comps_named number))
          (globals_in number s 0 globals known.ends named fits)

      -- the sections from number `number` on
      abbrev pub AllKnown : ℕ → List PlacedSection → Type 0
      AllKnown number ss = (j : ℕ) (d : PlacedSection) → j < length ss → IsKnown all (number + j) (get_or ss j d)

      first_known : (number : ℕ) (s : PlacedSection) (ss : List PlacedSection) → AllKnown number (s ∷ ss) → IsKnown all number s
      first_known number s ss known = subst (λ (n : ℕ). IsKnown all n s) (here number) (known 0 s (omega arith))

      known_next : (number : ℕ) (s : PlacedSection) (ss : List PlacedSection) → AllKnown number (s ∷ ss) → AllKnown (number + 1) ss
      known_next number s ss known j d less = subst (λ (n : ℕ). IsKnown all n (get_or ss j d)) (next number j) (known (suc j) d (omega arith))

      pub objects_pass : (number page : ℕ) (ss : List PlacedSection) → are_spread page (map section_of ss) ≡ true → AllKnown number ss
          → list_all (is_object all) (objects_from structs comps initials globals addresses number ss) ≡ true
      objects_pass number page [] spread known = refl
      objects_pass number page (s ∷ ss) spread known =
          let first = first_page page s ss spread in
          let own = section_objects structs comps initials globals addresses number s in
          let is = first_known number s ss known in
          let inside = section_in number s first.1 is in
          list_all-append (is_object all) own (objects_from structs comps initials globals addresses (number + 1) ss)
          ∙ and_from (list_all (is_object all) own) (list_all (is_object all) (objects_from structs comps initials globals addresses (number + 1) ss))
          (list_all-from_AllPass (is_object all) own (λ j d less. passes all number s (get_or own j d) is.there (inside j d less)))
          (objects_pass (number + 1) (s.page + s.pages + 1) ss first.2 (known_next number s ss known))

      pub objects_apart : (number page : ℕ) (ss : List PlacedSection) → are_spread page (map section_of ss) ≡ true → AllKnown number ss
          → are_apart (4096 * page) (objects_from structs comps initials globals addresses number ss) ≡ true
      objects_apart number page [] spread known = refl
      objects_apart number page (s ∷ ss) spread known =
          let first = first_page page s ss spread in
          let own = section_objects structs comps initials globals addresses number s in
          let is = first_known number s ss known in
          let inside = section_in number s first.1 is in
          let low : are_apart (4096 * page) own ≡ true = ap (λ n. are_apart (4096 * n) own) (sym first.0) ∙ section_apart all number s is in
          apart_append (4096 * page) (4096 * (s.page + s.pages + 1)) own (objects_from structs comps initials globals addresses (number + 1) ss)
          (omega (arith, first.0)) low (λ j d less. omega (arith, (inside j d less).last))
          (objects_apart (number + 1) (s.page + s.pages + 1) ss first.2 (known_next number s ss known))

pub apart_from_start : (least : ℕ) (os : List Obj) → are_apart least os ≡ true → are_apart 0 os ≡ true
apart_from_start least os h = apart_lower 0 least os (omega arith) h
