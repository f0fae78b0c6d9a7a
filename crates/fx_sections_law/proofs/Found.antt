-- Which section has a key.
use Rattle.std.proofs.Common.{◌≡◌, ℕ, zero, suc, ◌+◌, ◌<◌, ◌≤◌, Bool, true, false, ◌&&◌, ◌||◌, nat_eq, if◌then◌else◌, List, [], ◌∷◌, length, map, get_or, refl, ap, ◌∙◌, arith}
use Rattle.std.proofs.lemmas.Bool.{eq-eqb, ne_eqb}
use Rattle.std.specs.List.{list_any}
use Rattle.fx_config.specs.declared.configuration.Mechanism.{Mechanism}
use Rattle.fx_grants.specs.declared.grants.Pair.{Pair}
use Rattle.fx_image.specs.declared.forms.Section.{Section}
use Rattle.fx_sections.specs.declared.regions.Room.{Room}
use Rattle.fx_sections.specs.Pairs.{is_keyed}
use Rattle.fx_sections.specs.Regions.{page_count}
use Rattle.fx_sections.specs.Placement.{sections_from}
use Rattle.fx_sections_law.specs.Permits.{image_section}

-- whether a section of this key passes a test
abbrev pub passes : (Section → Bool) → ℕ → List Section → Bool
passes t key ss = list_any (λ (s : Section). nat_eq s.key key && t s) ss

abbrev pub shown : Mechanism → ℕ → ℕ → List Pair → List Room → List Section
shown m k page ps rs = map image_section (sections_from m k page ps rs)

-- a section as it is seen by its pair
abbrev pub first_of : Mechanism → ℕ → ℕ → Pair → Room → Section
first_of m k page p r = record { readers = p.readers; writers = p.writers; key = if is_keyed m then k + 2 else 0; page = page; pages = page_count r.end }

none_below : (t : Section → Bool) (m : Mechanism) (k page key : ℕ) (ps : List Pair) (rs : List Room) → is_keyed m ≡ true → key < k + 2 → passes t key (shown m k page ps rs) ≡ false
none_below t m k page key [] rs keyed less = refl
none_below t m k page key (p ∷ ps) [] keyed less = refl
none_below t m k page key (p ∷ ps) (r ∷ rs) keyed less =
    let here : nat_eq (if is_keyed m then k + 2 else 0) key ≡ false = ap (λ b. nat_eq (if b then k + 2 else 0) key) keyed ∙ ne_eqb (k + 2) key (λ e. absurd (omega (arith, e))) in
    ap (λ b. (b && t (first_of m k page p r)) || passes t key (shown m (k + 1) (page + page_count r.end + 1) ps rs)) here
    ∙ none_below t m (k + 1) (page + page_count r.end + 1) key ps rs keyed (omega arith)

pub none_above : (t : Section → Bool) (m : Mechanism) (k page key : ℕ) (ps : List Pair) (rs : List Room) → is_keyed m ≡ true → k + 2 + length ps ≤ key → passes t key (shown m k page ps rs) ≡ false
none_above t m k page key [] rs keyed le = refl
none_above t m k page key (p ∷ ps) [] keyed le = refl
none_above t m k page key (p ∷ ps) (r ∷ rs) keyed le =
    let here : nat_eq (if is_keyed m then k + 2 else 0) key ≡ false = ap (λ b. nat_eq (if b then k + 2 else 0) key) keyed ∙ ne_eqb (k + 2) key (λ e. absurd (omega (arith, e))) in
    ap (λ b. (b && t (first_of m k page p r)) || passes t key (shown m (k + 1) (page + page_count r.end + 1) ps rs)) here
    ∙ none_above t m (k + 1) (page + page_count r.end + 1) key ps rs keyed (omega arith)

or_false : (a : Bool) → (a || false) ≡ a
or_false true = refl
or_false false = refl

-- the section of a key is the one of the key's number, where the test asks of its pair alone
pub one_there : (t : Section → Bool) (u : Pair → Bool) → ((m : Mechanism) (k page : ℕ) (p : Pair) (r : Room) → t (first_of m k page p r) ≡ u p)
    → (m : Mechanism) (k page i : ℕ) (ps : List Pair) (rs : List Room) (d : Pair) → is_keyed m ≡ true → length rs ≡ length ps → i < length ps → passes t (k + (i + 2)) (shown m k page ps rs) ≡ u (get_or ps i d)
one_there t u asks m k page i [] rs d keyed same less = absurd (omega arith)
one_there t u asks m k page i (p ∷ ps) [] d keyed same less = absurd (omega arith)
one_there t u asks m k page zero (p ∷ ps) (r ∷ rs) d keyed same less =
    let here : nat_eq (if is_keyed m then k + 2 else 0) (k + (zero + 2)) ≡ true = ap (λ b. nat_eq (if b then k + 2 else 0) (k + (zero + 2))) keyed ∙ eq-eqb (k + 2) (k + (zero + 2)) (omega arith) in
    ap (λ b. (b && t (first_of m k page p r)) || passes t (k + (zero + 2)) (shown m (k + 1) (page + page_count r.end + 1) ps rs)) here
    ∙ ap (λ b. t (first_of m k page p r) || b) (none_below t m (k + 1) (page + page_count r.end + 1) (k + (zero + 2)) ps rs keyed (omega arith))
    ∙ or_false (t (first_of m k page p r)) ∙ asks m k page p r
one_there t u asks m k page (suc i) (p ∷ ps) (r ∷ rs) d keyed same less =
    let here : nat_eq (if is_keyed m then k + 2 else 0) (k + (suc i + 2)) ≡ false = ap (λ b. nat_eq (if b then k + 2 else 0) (k + (suc i + 2))) keyed ∙ ne_eqb (k + 2) (k + (suc i + 2)) (λ e. absurd (omega (arith, e))) in
    ap (λ b. (b && t (first_of m k page p r)) || passes t (k + (suc i + 2)) (shown m (k + 1) (page + page_count r.end + 1) ps rs)) here
    ∙ ap (λ n. passes t n (shown m (k + 1) (page + page_count r.end + 1) ps rs)) (omega arith)
    ∙ one_there t u asks m (k + 1) (page + page_count r.end + 1) i ps rs d keyed (omega arith) (omega arith)
