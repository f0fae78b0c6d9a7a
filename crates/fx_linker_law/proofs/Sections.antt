-- The sections of an image of parts.
use Rattle.std.proofs.Common.{◌≡◌, ℕ, ◌+◌, ◌<◌, Bool, true, ◌&&◌, ◌||◌, not, ◌==◌, nat_lt, List, [], ◌∷◌, length, map, if◌then◌else◌, refl, sym, ap, ◌∙◌, arith}
use Rattle.std.specs.Prelude.{cond, sum_by}
use Rattle.std.specs.List.{list_all, list_any}
use Rattle.std.proofs.lemmas.Bool.{and_from, and_parts, eq-eqb, lt-ltb}
use Rattle.std.proofs.lemmas.List.Sums.{sum_by-cons}
use Rattle.fx_config.specs.declared.configuration.Compartment.{Compartment}
use Rattle.fx_config.specs.declared.configuration.Config.{Config}
use Rattle.fx_config.specs.declared.configuration.Mechanism.{Mechanism}
use Rattle.fx_config.specs.declared.configuration.Mechanism.TheVariants.{Call, Light, Full, Ept}
use Rattle.fx_grants.specs.declared.grants.Pair.{Pair}
use Rattle.fx_image.specs.declared.forms.Comp.{Comp}
use Rattle.fx_image.specs.declared.forms.Section.{Section}
use Rattle.fx_image.specs.Keys as keys
use Rattle.fx_image.specs.Rules as image
use Rattle.fx_sections.specs.declared.regions.Room.{Room}
use Rattle.fx_sections.specs.Pairs.{same_pair, is_keyed}
use Rattle.fx_sections.specs.Regions.{page_count}
use Rattle.fx_sections.specs.Placement.{sections_from, total_pages}
use Rattle.fx_linker.specs.Data.{mechanism_number, section_of, comps_from}
use Rattle.fx_linker_law.proofs.Pairs.{is_good, leads}

-- an image's mechanism goes by keys where the configuration's does
pub same_keyed : (m : Mechanism) → keys.is_keyed (mechanism_number m) ≡ is_keyed m
same_keyed Call = refl
same_keyed Light = refl
same_keyed Full = refl
same_keyed Ept = refl

-- the sections of pairs and rooms, from number k on, as an image has them
abbrev pub made : Mechanism → (k page : ℕ) → List Pair → List Room → List Section
made m k page ps rs = map section_of (sections_from m k page ps rs)

pub spread : (m : Mechanism) (k page : ℕ) (ps : List Pair) (rs : List Room) → image.are_spread page (made m k page ps rs) ≡ true
spread m k page [] rs = refl
spread m k page (p ∷ ps) [] = refl
spread m k page (p ∷ ps) (r ∷ rs) =
    let some : 0 < page_count r.end = omega arith in
    and_from (page == page && nat_lt 0 (page_count r.end)) (image.are_spread (page + page_count r.end + 1) (made m (k + 1) (page + page_count r.end + 1) ps rs))
    (and_from (page == page) (nat_lt 0 (page_count r.end)) (eq-eqb page page refl) (lt-ltb 0 (page_count r.end) some))
    (spread m (k + 1) (page + page_count r.end + 1) ps rs)

abbrev pages_of : Section → ℕ
pages_of s = s.pages

pub pages_sum : (m : Mechanism) (k page : ℕ) (ps : List Pair) (rs : List Room) → length rs ≡ length ps → sum_by pages_of (made m k page ps rs) ≡ total_pages rs
pages_sum m k page [] [] same = refl
pages_sum m k page [] (r ∷ rs) same = absurd (omega arith)
pages_sum m k page (p ∷ ps) [] same = absurd (omega arith)
pages_sum m k page (p ∷ ps) (r ∷ rs) same =
    let first : Section = record { readers = p.readers; writers = p.writers; key = if is_keyed m then k + 2 else 0; page = page; pages = page_count r.end } in
    let rest = made m (k + 1) (page + page_count r.end + 1) ps rs in
    sum_by-cons pages_of first rest ∙ ap (λ n. page_count r.end + n) (pages_sum m (k + 1) (page + page_count r.end + 1) ps rs (omega arith))

-- tests of pairs alone
pub goods : (n : ℕ) (m : Mechanism) (k page : ℕ) (ps : List Pair) (rs : List Room) → list_all (is_good n) ps ≡ true → list_all (image.is_pair 2 n) (made m k page ps rs) ≡ true
goods n m k page [] rs has = refl
goods n m k page (p ∷ ps) [] has = refl
goods n m k page (p ∷ ps) (r ∷ rs) has =
    let parts = and_parts (is_good n p) (list_all (is_good n) ps) has in
    and_from (is_good n p) (list_all (image.is_pair 2 n) (made m (k + 1) (page + page_count r.end + 1) ps rs)) parts.0 (goods n m (k + 1) (page + page_count r.end + 1) ps rs parts.1)

pub led : (n i : ℕ) (m : Mechanism) (k page : ℕ) (ps : List Pair) (rs : List Room) → image.all_numbered (leads n) i ps ≡ true → image.all_numbered (image.leads n) i (made m k page ps rs) ≡ true
led n i m k page [] rs has = refl
led n i m k page (p ∷ ps) [] has = refl
led n i m k page (p ∷ ps) (r ∷ rs) has =
    let parts = and_parts (leads n i p) (image.all_numbered (leads n) (i + 1) ps) has in
    and_from (leads n i p) (image.all_numbered (image.leads n) (i + 1) (made m (k + 1) (page + page_count r.end + 1) ps rs)) parts.0
    (led n (i + 1) m (k + 1) (page + page_count r.end + 1) ps rs parts.1)

pub keyed : (m : Mechanism) (k page : ℕ) (ps : List Pair) (rs : List Room) → image.all_numbered (image.has_key (mechanism_number m)) k (made m k page ps rs) ≡ true
keyed m k page [] rs = refl
keyed m k page (p ∷ ps) [] = refl
keyed m k page (p ∷ ps) (r ∷ rs) =
    let turned : k + 2 ≡ 2 + k = omega arith in
    let same : (if is_keyed m then k + 2 else 0) ≡ (if keys.is_keyed (mechanism_number m) then 2 + k else 0) =
    ap (λ n. cond (is_keyed m) n 0) turned ∙ ap (λ b. cond b (2 + k) 0) (sym (same_keyed m)) in
    and_from ((if is_keyed m then k + 2 else 0) == (if keys.is_keyed (mechanism_number m) then 2 + k else 0)) (image.all_numbered (image.has_key (mechanism_number m)) (k + 1) (made m (k + 1) (page + page_count r.end + 1) ps rs))
    (eq-eqb (if is_keyed m then k + 2 else 0) (if keys.is_keyed (mechanism_number m) then 2 + k else 0) same)
    (keyed m (k + 1) (page + page_count r.end + 1) ps rs)

any_made : (s : Section) (q : Pair) (m : Mechanism) (k page : ℕ) (ps : List Pair) (rs : List Room) → s.readers ≡ q.readers → s.writers ≡ q.writers → length rs ≡ length ps
    → list_any (image.same_pair s) (made m k page ps rs) ≡ list_any (same_pair q) ps
any_made s q m k page [] rs reads writes same = refl
any_made s q m k page (p ∷ ps) [] reads writes same = absurd (omega arith)
any_made s q m k page (p ∷ ps) (r ∷ rs) reads writes same =
    ap (λ n. (n == p.readers && s.writers == p.writers) || list_any (image.same_pair s) (made m (k + 1) (page + page_count r.end + 1) ps rs)) reads
    ∙ ap (λ n. (q.readers == p.readers && n == p.writers) || list_any (image.same_pair s) (made m (k + 1) (page + page_count r.end + 1) ps rs)) writes
    ∙ ap (λ b. same_pair q p || b) (any_made s q m (k + 1) (page + page_count r.end + 1) ps rs reads writes (omega arith))

pub distinct_made : (m : Mechanism) (k page : ℕ) (ps : List Pair) (rs : List Room) → length rs ≡ length ps → image.is_distinct_by same_pair ps ≡ true → image.is_distinct_by image.same_pair (made m k page ps rs) ≡ true
distinct_made m k page [] rs same has = refl
distinct_made m k page (p ∷ ps) [] same has = refl
distinct_made m k page (p ∷ ps) (r ∷ rs) same has =
    let first : Section = record { readers = p.readers; writers = p.writers; key = if is_keyed m then k + 2 else 0; page = page; pages = page_count r.end } in
    let rest = made m (k + 1) (page + page_count r.end + 1) ps rs in
    let parts = and_parts (not (list_any (same_pair p) ps)) (image.is_distinct_by same_pair ps) has in
    and_from (not (list_any (image.same_pair first) rest)) (image.is_distinct_by image.same_pair rest)
    (ap not (any_made first p m (k + 1) (page + page_count r.end + 1) ps rs refl refl (omega arith)) ∙ parts.0)
    (distinct_made m (k + 1) (page + page_count r.end + 1) ps rs (omega arith) parts.1)

-- ---- the compartments' rights

abbrev has_rights : Mechanism → List Section → ℕ → ℕ → Comp → Bool
has_rights m ss scheduler c comp = comp.pkru == (if keys.is_keyed (mechanism_number m) then keys.pkru_of ss scheduler c else 0)

pub rightly : (k : Config) (ss : List Section) (starts : List ℕ) (c : ℕ) (cs : List Compartment) → image.all_numbered (has_rights k.mechanism ss k.scheduler) c (comps_from k ss starts c cs) ≡ true
rightly k ss starts c [] = refl
rightly k ss starts c (x ∷ cs) =
    let value = keys.pkru_of ss k.scheduler c in
    let same : (if is_keyed k.mechanism then value else 0) ≡ (if keys.is_keyed (mechanism_number k.mechanism) then value else 0) = ap (λ b. cond b value 0) (sym (same_keyed k.mechanism)) in
    and_from ((if is_keyed k.mechanism then value else 0) == (if keys.is_keyed (mechanism_number k.mechanism) then value else 0)) (image.all_numbered (has_rights k.mechanism ss k.scheduler) (c + 1) (comps_from k ss starts (c + 1) cs))
    (eq-eqb (if is_keyed k.mechanism then value else 0) (if keys.is_keyed (mechanism_number k.mechanism) then value else 0) same)
    (rightly k ss starts (c + 1) cs)
