-- What is known of the sections of a placed program, by the objects that have addresses in them.
use Rattle.std.proofs.Common.{◌≡◌, ◌≤◌, ◌<◌, ◌⊎◌, ℕ, zero, suc, ◌+◌, ◌*◌, true, List, [], ◌∷◌, length, map, get_or, refl, sym, ap, subst, ◌∙◌, inl, inr, arith}
use Rattle.std.specs.Prelude.{slice_index, slice_get, Some}
use Rattle.std.proofs.lemmas.Bool.{cases_order}
use Rattle.std.proofs.lemmas.Option.{slice_get_within}
use Rattle.fx_config.specs.declared.configuration.Config.{Config}
use Rattle.fx_c_ast.specs.declared.checked.TGlobal.{TGlobal}
use Rattle.fx_c_ast.specs.declared.checked.TProgram.{TProgram}
use Rattle.fx_c_ast.specs.CheckedTrees.{TyTree, struct_types}
use Rattle.fx_grants.specs.declared.grants.Pair.{Pair}
use Rattle.fx_grants.specs.declared.grants.Grants.{Grants}
use Rattle.fx_sections.specs.declared.placement.PlacedSection.{PlacedSection}
use Rattle.fx_sections.specs.declared.regions.GlobalSize.{GlobalSize}
use Rattle.fx_sections.specs.Placement.{IsPlaceable, sized, global_size, program_pairs, program_rooms, program_objects, program_sections, program_addresses}
use Rattle.fx_sections_law.proofs.Sections.{sections_apart}
use Rattle.fx_sections_law.proofs.Globals.{in_section, global_in_section, globals_apart, behind_runtime}
use Rattle.fx_linker.specs.Data.{section_of, has_address}
use Rattle.fx_linker_law.proofs.Tally.{addressed}
use Rattle.fx_linker_law.proofs.Order.{IsKnown}

no_object : GlobalSize
no_object = record { section = 0; size = 0 }

no_pair : Pair
no_pair = record { readers = 0; writers = 0 }

no_section : PlacedSection
no_section = record { readers = 0; writers = 0; key = 0; page = 0; pages = 0 }

size_at : (ss : List (List TyTree)) (ps : List Pair) (gs : List TGlobal) (qs : List Pair) (i : ℕ) (d : GlobalSize) (e : TGlobal) → length qs ≡ length gs → i < length gs
    → (get_or (sized ss ps gs qs) i d).size ≡ global_size ss (get_or gs i e)
size_at ss ps [] qs i d e same less = absurd (omega arith)
size_at ss ps (g ∷ gs) [] i d e same less = absurd (omega arith)
size_at ss ps (g ∷ gs) (q ∷ qs) zero d e same less = refl
size_at ss ps (g ∷ gs) (q ∷ qs) (suc i) d e same less = size_at ss ps gs qs i d e (omega arith) (omega arith)

section_there : (ss : List PlacedSection) (j : ℕ) (d : PlacedSection) → j < length ss → slice_get (map section_of ss) j ≡ Some (section_of (get_or ss j d))
section_there [] j d less = absurd (omega arith)
section_there (s ∷ ss) zero d less = refl
section_there (s ∷ ss) (suc j) d less = section_there ss j d (omega arith)

module _ (p : TProgram) (g : Grants) (k : Config) (has : IsPlaceable p g k) where
  abbrev sections : List PlacedSection
  sections = program_sections p g k

  abbrev places : List ℕ
  places = program_addresses p g k

  -- the section of a global
  abbrev section_at : ℕ → ℕ
  section_at i = (get_or (program_objects p g k) i no_object).section

  size_is : (i : ℕ) (d : TGlobal) → i < length p.globals → (get_or (program_objects p g k) i no_object).size ≡ global_size (struct_types p.structs) (get_or p.globals i d)
  size_is i d less = size_at (struct_types p.structs) (program_pairs g k) p.globals g.globals i no_object d has.same less

  -- a global that has an address in a section is one of that section
  belongs : (j i : ℕ) (d : PlacedSection) → j < length sections → i < length p.globals → has_address (get_or sections j d) (slice_index places i) ≡ true → section_at i ≡ j
  belongs j i d less within h =
      let found = addressed (get_or sections j d) (slice_index places i) h in
      let own = global_in_section p g k has i within no_object d no_pair in
      let there = (in_section p g k has i within no_object no_pair no_pair).0 in
      by found own there (cases_order (section_at i) j)
    where
      s : PlacedSection
      s = get_or sections j d

      t : PlacedSection
      t = get_or sections (section_at i) d

      size : ℕ
      size = (get_or (program_objects p g k) i no_object).size

      by : (4096 * s.page ≤ slice_index places i) × (slice_index places i < 4096 * s.page + 4096 * s.pages)
          → ((t.readers ≡ (get_or g.globals i no_pair).readers) × (t.writers ≡ (get_or g.globals i no_pair).writers))
          × (4096 * t.page ≤ slice_index places i) × (slice_index places i + size ≤ 4096 * (t.page + t.pages))
          → section_at i < length sections → (section_at i ≡ j) ⊎ ((section_at i < j) ⊎ (j < section_at i)) → section_at i ≡ j
      by found own there (inl same) = same
      by found own there (inr (inl before)) =
          absurd (omega (arith, found.0, own.2, (sections_apart k.mechanism 0 0x10000 (program_pairs g k) (program_rooms p g k) (section_at i) j d d before less).1))
      by found own there (inr (inr after)) =
          absurd (omega (arith, found.1, own.1, (sections_apart k.mechanism 0 0x10000 (program_pairs g k) (program_rooms p g k) j (section_at i) d d after there).1))

  ends_at : (j i : ℕ) (d : PlacedSection) (e : TGlobal) → j < length sections → i < length p.globals → has_address (get_or sections j d) (slice_index places i) ≡ true
      → slice_index places i + global_size (struct_types p.structs) (get_or p.globals i e) ≤ 4096 * ((get_or sections j d).page + (get_or sections j d).pages)
  ends_at j i d e less within h =
      let same : section_at i ≡ j = belongs j i d less within h in
      let own = global_in_section p g k has i within no_object d no_pair in
      let end : 4096 * ((get_or sections (section_at i) d).page + (get_or sections (section_at i) d).pages) ≡ 4096 * ((get_or sections j d).page + (get_or sections j d).pages) =
      ap (λ n. 4096 * ((get_or sections n d).page + (get_or sections n d).pages)) same in
      omega (arith, own.2, end, size_is i e within)

  ascend_at : (j i l : ℕ) (d : PlacedSection) (e : TGlobal) → j < length sections → i < l → l < length p.globals
      → has_address (get_or sections j d) (slice_index places i) ≡ true → has_address (get_or sections j d) (slice_index places l) ≡ true
      → slice_index places i + global_size (struct_types p.structs) (get_or p.globals i e) + 16 ≤ slice_index places l
  ascend_at j i l d e less before within first second =
      let here : i < length p.globals = omega arith in
      let same : section_at i ≡ section_at l = belongs j i d less here first ∙ sym (belongs j l d less within second) in
      omega (arith, globals_apart p g k has i l before within no_object no_object same, size_is i e here)

  behind_at : (j i : ℕ) (d : PlacedSection) → j < length sections → j < length k.compartments → i < length p.globals → has_address (get_or sections j d) (slice_index places i) ≡ true
      → 4096 * (get_or sections j d).page + 4096 + 16 ≤ slice_index places i
  behind_at j i d less private within h =
      let same : section_at i ≡ j = belongs j i d less within h in
      let page : 4096 * (get_or sections (section_at i) d).page ≡ 4096 * (get_or sections j d).page = ap (λ n. 4096 * (get_or sections n d).page) same in
      omega (arith, page, behind_runtime p g k has i within no_object (omega (arith, same)) d)

  from_first : (i : ℕ) → i ≡ 0 + i
  from_first i = omega arith

  -- what is known of a section by its number, whatever the compartments' tables have
  pub known : (initials : List (List ℕ)) (j : ℕ) (d : PlacedSection) → j < length sections
      → IsKnown (struct_types p.structs) places k.compartments initials p.globals (map section_of sections) (0 + j) (get_or sections j d)
  known initials j d less = subst (λ (n : ℕ). IsKnown (struct_types p.structs) places k.compartments initials p.globals (map section_of sections) n (get_or sections j d)) (from_first j)
      (record {
        there = section_there sections j d less;
        ends = λ i e within.
            subst (λ (n : ℕ). has_address (get_or sections j d) (slice_index places n) ≡ true
            → slice_index places n + global_size (struct_types p.structs) (get_or p.globals i e) ≤ 4096 * ((get_or sections j d).page + (get_or sections j d).pages)) (from_first i)
            (ends_at j i d e less within);
        ascend = λ i l e before within.
            subst (λ (n : ℕ). has_address (get_or sections j d) (slice_index places n) ≡ true → has_address (get_or sections j d) (slice_index places (0 + l)) ≡ true
            → slice_index places n + global_size (struct_types p.structs) (get_or p.globals i e) + 16 ≤ slice_index places (0 + l)) (from_first i)
            (subst (λ (m : ℕ). has_address (get_or sections j d) (slice_index places i) ≡ true → has_address (get_or sections j d) (slice_index places m) ≡ true
            → slice_index places i + global_size (struct_types p.structs) (get_or p.globals i e) + 16 ≤ slice_index places m) (from_first l)
            (ascend_at j i l d e less before within));
        behind = λ c e i within.
            subst (λ (n : ℕ). has_address (get_or sections j d) (slice_index places n) ≡ true
            → 4096 * (get_or sections j d).page + 4096 + 16 ≤ slice_index places n) (from_first i)
            (behind_at j i d less (slice_get_within k.compartments j c e) within);
      })
