-- Sections one behind the other.
use Rattle.std.proofs.Common.{◌≡◌, ℕ, zero, suc, ◌+◌, ◌<◌, ◌≤◌, List, [], ◌∷◌, length, get_or, refl, ap, arith}
use Rattle.fx_config.specs.declared.configuration.Mechanism.{Mechanism}
use Rattle.fx_grants.specs.declared.grants.Pair.{Pair}
use Rattle.fx_sections.specs.declared.placement.PlacedSection.{PlacedSection}
use Rattle.fx_sections.specs.declared.regions.Room.{Room}
use Rattle.fx_sections.specs.Regions.{page_count}
use Rattle.fx_sections.specs.Placement.{sections_from}

pub length-sections_from : (m : Mechanism) (k page : ℕ) (ps : List Pair) (rs : List Room) → length rs ≡ length ps → length (sections_from m k page ps rs) ≡ length ps
length-sections_from m k page [] rs same = refl
length-sections_from m k page (p ∷ ps) [] same = absurd (omega arith)
length-sections_from m k page (p ∷ ps) (r ∷ rs) same = ap suc (length-sections_from m (k + 1) (page + page_count r.end + 1) ps rs (omega arith))

-- what a section is, by its pair and its room
pub readers_at : (m : Mechanism) (k page : ℕ) (ps : List Pair) (rs : List Room) (j : ℕ) (d : PlacedSection) (e : Pair) → j < length (sections_from m k page ps rs) → (get_or (sections_from m k page ps rs) j d).readers ≡ (get_or ps j e).readers
readers_at m k page [] rs j d e less = absurd (omega arith)
readers_at m k page (p ∷ ps) [] j d e less = absurd (omega arith)
readers_at m k page (p ∷ ps) (r ∷ rs) zero d e less = refl
readers_at m k page (p ∷ ps) (r ∷ rs) (suc j) d e less = readers_at m (k + 1) (page + page_count r.end + 1) ps rs j d e (omega arith)

pub writers_at : (m : Mechanism) (k page : ℕ) (ps : List Pair) (rs : List Room) (j : ℕ) (d : PlacedSection) (e : Pair) → j < length (sections_from m k page ps rs) → (get_or (sections_from m k page ps rs) j d).writers ≡ (get_or ps j e).writers
writers_at m k page [] rs j d e less = absurd (omega arith)
writers_at m k page (p ∷ ps) [] j d e less = absurd (omega arith)
writers_at m k page (p ∷ ps) (r ∷ rs) zero d e less = refl
writers_at m k page (p ∷ ps) (r ∷ rs) (suc j) d e less = writers_at m (k + 1) (page + page_count r.end + 1) ps rs j d e (omega arith)

pub pages_at : (m : Mechanism) (k page : ℕ) (ps : List Pair) (rs : List Room) (j : ℕ) (d : PlacedSection) (e : Room) → j < length (sections_from m k page ps rs) → (get_or (sections_from m k page ps rs) j d).pages ≡ page_count (get_or rs j e).end
pages_at m k page [] rs j d e less = absurd (omega arith)
pages_at m k page (p ∷ ps) [] j d e less = absurd (omega arith)
pages_at m k page (p ∷ ps) (r ∷ rs) zero d e less = refl
pages_at m k page (p ∷ ps) (r ∷ rs) (suc j) d e less = pages_at m (k + 1) (page + page_count r.end + 1) ps rs j d e (omega arith)

pub some_pages : (m : Mechanism) (k page : ℕ) (ps : List Pair) (rs : List Room) (j : ℕ) (d : PlacedSection) → j < length (sections_from m k page ps rs) → 1 ≤ (get_or (sections_from m k page ps rs) j d).pages
some_pages m k page [] rs j d less = absurd (omega arith)
some_pages m k page (p ∷ ps) [] j d less = absurd (omega arith)
some_pages m k page (p ∷ ps) (r ∷ rs) zero d less = omega arith
some_pages m k page (p ∷ ps) (r ∷ rs) (suc j) d less = some_pages m (k + 1) (page + page_count r.end + 1) ps rs j d (omega arith)

pub starts_behind : (m : Mechanism) (k page : ℕ) (ps : List Pair) (rs : List Room) (j : ℕ) (d : PlacedSection) → j < length (sections_from m k page ps rs) → page ≤ (get_or (sections_from m k page ps rs) j d).page
starts_behind m k page [] rs j d less = absurd (omega arith)
starts_behind m k page (p ∷ ps) [] j d less = absurd (omega arith)
starts_behind m k page (p ∷ ps) (r ∷ rs) zero d less = omega arith
starts_behind m k page (p ∷ ps) (r ∷ rs) (suc j) d less = omega (arith, starts_behind m (k + 1) (page + page_count r.end + 1) ps rs j d (omega arith))

pub sections_apart : (m : Mechanism) (k page : ℕ) (ps : List Pair) (rs : List Room) (i j : ℕ) (d e : PlacedSection) → i < j → j < length (sections_from m k page ps rs)
    → (1 ≤ (get_or (sections_from m k page ps rs) i d).pages) × ((get_or (sections_from m k page ps rs) i d).page + (get_or (sections_from m k page ps rs) i d).pages + 1 ≤ (get_or (sections_from m k page ps rs) j e).page)
sections_apart m k page [] rs i j d e less within = absurd (omega arith)
sections_apart m k page (p ∷ ps) [] i j d e less within = absurd (omega arith)
sections_apart m k page (p ∷ ps) (r ∷ rs) i zero d e less within = absurd (omega arith)
sections_apart m k page (p ∷ ps) (r ∷ rs) zero (suc j) d e less within = (omega arith, starts_behind m (k + 1) (page + page_count r.end + 1) ps rs j e (omega arith))
sections_apart m k page (p ∷ ps) (r ∷ rs) (suc i) (suc j) d e less within = sections_apart m (k + 1) (page + page_count r.end + 1) ps rs i j d e (omega arith) (omega arith)
