-- The lines behind a place of a list, one step on.
use Rattle.std.proofs.Common.{◌≡◌, ℕ, ◌+◌, ◌<◌, List, ◌∷◌, ◌++◌, length, drop, get_or, slice_get, nat_eq, sym, ap, ◌∙◌, append_assoc}
use Rattle.std.proofs.lemmas.List.{drop_more}
use Rattle.fx_config.specs.declared.configuration.Compartment.{Compartment}
use Rattle.fx_c_ast.specs.declared.checked.TGlobal.{TGlobal}
use Rattle.fx_c_ast.specs.CheckedTrees.{TyTree}
use Rattle.fx_sections.specs.declared.placement.PlacedSection.{PlacedSection}
use Rattle.fx_cmd_place.specs.Table.{global_line, global_lines, runtime_line, section_lines}

split : {A : Type 0} (xs : List A) (i : ℕ) (x : A) → i < length xs → x ≡ get_or xs i x → drop i xs ≡ x ∷ drop (i + 1) xs
split xs i x less is = drop_more xs i x less ∙ ap (λ z. z ∷ drop (i + 1) xs) (sym is)

pub globals_step : (ss : List (List TyTree)) (number key : ℕ) (gs : List TGlobal) (sections addresses : List ℕ) (i : ℕ) (g : TGlobal) (out new total : List ℕ) → i < length gs → g ≡ get_or gs i g → i < length sections → i < length addresses
    → new ≡ out ++ global_line ss (nat_eq (get_or sections i 0) number) key (get_or addresses i 0) g
    → out ++ global_lines ss number key (drop i gs) (drop i sections) (drop i addresses) ≡ total
    → new ++ global_lines ss number key (drop (i + 1) gs) (drop (i + 1) sections) (drop (i + 1) addresses) ≡ total
globals_step ss number key gs sections addresses i g out new total less is within inside put so_far =
    let piece = global_line ss (nat_eq (get_or sections i 0) number) key (get_or addresses i 0) g in
    let rest = global_lines ss number key (drop (i + 1) gs) (drop (i + 1) sections) (drop (i + 1) addresses) in
    ap (λ l. l ++ rest) put ∙ append_assoc out piece rest
    ∙ sym (ap (λ l. out ++ global_lines ss number key l (drop i sections) (drop i addresses)) (split gs i g less is)
    ∙ ap (λ l. out ++ global_lines ss number key (g ∷ drop (i + 1) gs) l (drop i addresses)) (drop_more sections i 0 within)
    ∙ ap (λ l. out ++ global_lines ss number key (g ∷ drop (i + 1) gs) (get_or sections i 0 ∷ drop (i + 1) sections) l) (drop_more addresses i 0 inside))
    ∙ so_far

pub sections_step : (ss : List (List TyTree)) (comps : List Compartment) (gs : List TGlobal) (sections addresses : List ℕ) (number : ℕ) (placed : List PlacedSection) (s : PlacedSection) (out middle new total : List ℕ) → number < length placed → s ≡ get_or placed number s
    → middle ≡ out ++ runtime_line s (slice_get comps number) → new ≡ middle ++ global_lines ss number s.key gs sections addresses
    → out ++ section_lines ss comps gs sections addresses number (drop number placed) ≡ total
    → new ++ section_lines ss comps gs sections addresses (number + 1) (drop (number + 1) placed) ≡ total
sections_step ss comps gs sections addresses number placed s out middle new total less is first second so_far =
    let own = runtime_line s (slice_get comps number) in
    let globals = global_lines ss number s.key gs sections addresses in
    let rest = section_lines ss comps gs sections addresses (number + 1) (drop (number + 1) placed) in
    ap (λ l. l ++ rest) (second ∙ ap (λ l. l ++ globals) first ∙ append_assoc out own globals)
    ∙ append_assoc out (own ++ globals) rest
    ∙ sym (ap (λ l. out ++ section_lines ss comps gs sections addresses number l) (split placed number s less is))
    ∙ so_far
