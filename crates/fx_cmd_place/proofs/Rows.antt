-- The lines of a table are those of its rows.
use Rattle.std.proofs.Common.{◌≡◌, ◌⊎◌, ℕ, zero, suc, ◌+◌, ◌*◌, ◌<◌, true, false, cond}
use Rattle.std.proofs.Common.{nat_eq, List, [], ◌∷◌, ◌++◌, codes, length, map, arith}
use Rattle.std.proofs.Common.{flat_map, slice_get, refl, sym, ap, ◌∙◌, inl, inr, append_assoc}
use Rattle.std.proofs.lemmas.Bool.{cases_Bool, eqb-true, eq-eqb, ne_eqb}
use Rattle.std.proofs.lemmas.List.Concat.{flat_map-append}
use Rattle.std.proofs.lemmas.List.Elements.{filter-append}
use Rattle.fx_config.specs.declared.configuration.Compartment.{Compartment}
use Rattle.fx_config.specs.declared.configuration.Config.{Config}
use Rattle.fx_c_ast.specs.declared.checked.TGlobal.{TGlobal}
use Rattle.fx_c_ast.specs.declared.checked.TProgram.{TProgram}
use Rattle.fx_c_ast.specs.CheckedTrees.{TyTree, struct_types}
use Rattle.fx_grants.specs.declared.grants.Pair.{Pair}
use Rattle.fx_grants.specs.declared.grants.Grants.{Grants}
use Rattle.fx_sections.specs.declared.placement.PlacedSection.{PlacedSection}
use Rattle.fx_sections.specs.declared.placement.Placement.{Placement}
use Rattle.fx_sections.specs.Pairs.{section_of}
use Rattle.fx_sections.specs.Placement.{sized, global_size, page_of, program_pairs}
use Rattle.fx_sections_law.specs.Table.{Row, key_of, runtime_row, runtime_rows, global_rows}
use Rattle.fx_sections_law.specs.Table.{object_rows, rows_in, rows_by_section}
use Rattle.fx_cmd_place.specs.Table.{line, runtime_line, global_line, global_lines}
use Rattle.fx_cmd_place.specs.Table.{section_lines, lines_of, row_line, table_of}

abbrev text : List Row → List ℕ
text rows = flat_map row_line rows

nothing_more : (xs : List ℕ) → xs ++ [] ≡ xs
nothing_more [] = refl
nothing_more (x ∷ xs) = ap (λ l. x ∷ l) (nothing_more xs)

-- ---- the runtime's objects

none_before : (ss : List PlacedSection) (s c : ℕ) (cs : List Compartment) → s < c
    → text (rows_in s (runtime_rows ss c cs)) ≡ []
none_before ss s c [] less = refl
none_before ss s c (x ∷ cs) less =
    let rest : List Row = rows_in s (runtime_rows ss (c + 1) cs) in
    ap (λ b. text (cond b (runtime_row ss c x ∷ rest) rest))
    (ne_eqb c s (λ e. absurd (omega (arith, e))))
    ∙ none_before ss s (c + 1) cs (omega arith)

runtime_text : (ss : List PlacedSection) (t : PlacedSection) (s c i : ℕ) (cs : List Compartment)
    → page_of ss s ≡ t.page → key_of ss s ≡ t.key → c + i ≡ s
    → text (rows_in s (runtime_rows ss c cs)) ≡ runtime_line t (slice_get cs i)
runtime_text ss t s c i [] page key is = refl
runtime_text ss t s c zero (x ∷ cs) page key is =
    let same : c ≡ s = omega (arith, is) in
    let rest : List Row = rows_in s (runtime_rows ss (c + 1) cs) in
    let name : List ℕ = codes ".rt." ++ x.name in
    ap (λ b. text (cond b (runtime_row ss c x ∷ rest) rest)) (eq-eqb c s same)
    ∙ ap (λ l. row_line (runtime_row ss c x) ++ l)
    (none_before ss s (c + 1) cs (omega (arith, same)))
    ∙ nothing_more (row_line (runtime_row ss c x))
    ∙ ap (λ n. line (4096 * n) (key_of ss c) 4096 name) (ap (page_of ss) same ∙ page)
    ∙ ap (λ n. line (4096 * t.page) n 4096 name) (ap (key_of ss) same ∙ key)
runtime_text ss t s c (suc i) (x ∷ cs) page key is =
    let rest : List Row = rows_in s (runtime_rows ss (c + 1) cs) in
    ap (λ b. text (cond b (runtime_row ss c x ∷ rest) rest))
    (ne_eqb c s (λ e. absurd (omega (arith, e, is))))
    ∙ runtime_text ss t s (c + 1) i cs page key (omega (arith, is))

-- ---- the globals

module _ (ss : List PlacedSection) (structs : List (List TyTree)) (ps : List Pair) (s key : ℕ)
    (has : key_of ss s ≡ key) where
  global_text : (gs : List TGlobal) (qs : List Pair) (froms : List ℕ)
      → text (rows_in s (global_rows ss (sized structs ps gs qs) froms gs))
      ≡ global_lines structs s key gs (map (section_of ps) qs) froms
  global_text [] qs froms = refl
  global_text (g ∷ gs) [] froms = refl
  global_text (g ∷ gs) (q ∷ qs) [] = refl
  global_text (g ∷ gs) (q ∷ qs) (a ∷ froms) =
      by (cases_Bool (nat_eq at s)) (global_text gs qs froms)
    where
      at : ℕ
      at = section_of ps q

      rest : List Row
      rest = rows_in s (global_rows ss (sized structs ps gs qs) froms gs)

      row : Row
      row = record {
        section = at;
        address = a;
        key = key_of ss at;
        size = global_size structs g;
        name = g.name;
      }

      after : List ℕ
      after = global_lines structs s key gs (map (section_of ps) qs) froms

      by : (nat_eq at s ≡ true) ⊎ (nat_eq at s ≡ false) → text rest ≡ after
          → text (cond (nat_eq at s) (row ∷ rest) rest)
          ≡ global_line structs (nat_eq at s) key a g ++ after
      by (inl same) so_far =
          ap (λ b. text (cond b (row ∷ rest) rest)) same
          ∙ ap (λ n. line a n (global_size structs g) g.name ++ text rest)
          (ap (key_of ss) (eqb-true at s same) ∙ has)
          ∙ ap (λ l. line a key (global_size structs g) g.name ++ l) so_far
          ∙ sym (ap (λ b. global_line structs b key a g ++ after) same)
      by (inr other) so_far =
          ap (λ b. text (cond b (row ∷ rest) rest)) other ∙ so_far
          ∙ sym (ap (λ b. global_line structs b key a g ++ after) other)

-- ---- section after section

page_there : (front rest : List PlacedSection) (t : PlacedSection)
    → page_of (front ++ t ∷ rest) (length front) ≡ t.page
page_there [] rest t = refl
page_there (x ∷ front) rest t = page_there front rest t

key_there : (front rest : List PlacedSection) (t : PlacedSection)
    → key_of (front ++ t ∷ rest) (length front) ≡ t.key
key_there [] rest t = refl
key_there (x ∷ front) rest t = key_there front rest t

length_more : (front : List PlacedSection) (t : PlacedSection)
    → length (front ++ t ∷ []) ≡ length front + 1
length_more [] t = refl
length_more (x ∷ front) t = omega (arith, length_more front t)

module _ (p : TProgram) (g : Grants) (k : Config) (at : Placement) where
  abbrev structs : List (List TyTree)
  structs = struct_types p.structs

  abbrev homes : List ℕ
  homes = map (section_of (program_pairs g k)) g.globals

  abbrev objects : List Row
  objects = object_rows p g k at

  abbrev globals : List Row
  globals =
      global_rows at.sections (sized structs (program_pairs g k) p.globals g.globals) at.globals
      p.globals

  -- what a section has in the table
  abbrev written : ℕ → PlacedSection → List ℕ
  written s t =
      runtime_line t (slice_get k.compartments s)
      ++ global_lines structs s t.key p.globals homes at.globals

  section_text : (s : ℕ) (t : PlacedSection)
      → page_of at.sections s ≡ t.page → key_of at.sections s ≡ t.key
      → text (rows_in s objects) ≡ written s t
  section_text s t page key =
      let own : List Row = runtime_rows at.sections 0 k.compartments in
      ap text (filter-append (λ (r : Row). nat_eq r.section s) own globals)
      ∙ flat_map-append row_line (rows_in s own) (rows_in s globals)
      ∙ ap (λ l. l ++ text (rows_in s globals))
      (runtime_text at.sections t s 0 s k.compartments page key (omega arith))
      ∙ ap (λ l. runtime_line t (slice_get k.compartments s) ++ l)
      (global_text at.sections structs (program_pairs g k) s t.key key p.globals g.globals
      at.globals)

  sections_text : (front rest : List PlacedSection) (s : ℕ)
      → at.sections ≡ front ++ rest → length front ≡ s
      → text (rows_by_section s (length rest) objects)
      ≡ section_lines structs k.compartments p.globals homes at.globals s rest
  sections_text front [] s is count = refl
  sections_text front (t ∷ rest) s is count =
      let all : List PlacedSection = front ++ t ∷ rest in
      let page : page_of at.sections s ≡ t.page =
      ap (λ l. page_of l s) is ∙ ap (page_of all) (sym count) ∙ page_there front rest t in
      let key : key_of at.sections s ≡ t.key =
      ap (λ l. key_of l s) is ∙ ap (key_of all) (sym count) ∙ key_there front rest t in
      let behind : List Row = rows_by_section (s + 1) (length rest) objects in
      let more : length (front ++ t ∷ []) ≡ s + 1 = length_more front t ∙ ap (λ n. n + 1) count in
      flat_map-append row_line (rows_in s objects) behind
      ∙ ap (λ l. l ++ text behind) (section_text s t page key)
      ∙ ap (λ l. written s t ++ l)
      (sections_text (front ++ t ∷ []) rest (s + 1) (is ∙ sym (append_assoc front (t ∷ []) rest))
      more)

  pub table_is : lines_of p g k at ≡ table_of p g k at
  table_is = sym (sections_text [] at.sections 0 refl refl)
