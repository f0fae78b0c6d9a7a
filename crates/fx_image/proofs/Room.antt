-- The lengths and counts of an image that meets the rules have room in their fields.
use Rattle.std.proofs.Common.{◌≡◌, ℕ, zero, suc, ◌+◌, ◌*◌, ◌^◌, ◌<◌, ◌≤◌, Bool, true, not, ◌&&◌, leb, ltb, ◌||◌, cond, eqb, List, [], ◌∷◌, length, drop, Option, Some, None, refl, ap, arith, inl, inr}
use Rattle.std.specs.Prelude.{sum_by, slice_get}
use Rattle.std.specs.List.{All, AllByRecursion, list_all, starts_with}
use Rattle.std.specs.Char.{is_ascii_alphabetic, is_ascii_alphanumeric}
use Rattle.std.proofs.lemmas.Bool.{and_parts, or_cases, leb-true, ltb-true, cases_cond}
use Rattle.std.proofs.lemmas.List.Elements.{All-from_recursion}
use Rattle.std.proofs.lemmas.List.{length-drop}
use Rattle.std.proofs.lemmas.List.Sums.{sum_by-cons}
use Rattle.fx_image.specs.Spelling.{HasRoom}
use Rattle.fx_image.specs.Rules.{IsImage, is_c_name, is_object_name, is_object, is_inside, is_trimmed, table_prefix, are_spread, are_few, is_entry, has_room, are_counted, are_apart, are_ranges, is_distinct_by, is_pair}
use Rattle.fx_image.specs.Keys.{is_keyed}
use Rattle.std.specs.Str.{bytes_eq}
use Rattle.fx_image.specs.declared.forms.Comp.{Comp}
use Rattle.fx_image.specs.declared.forms.Section.{Section}
use Rattle.fx_image.specs.declared.forms.Obj.{Obj}
use Rattle.fx_image.specs.declared.forms.EntryRec.{EntryRec}
use Rattle.fx_image.specs.declared.forms.Image.{Image}

-- what a test of each element gives of each element
pub each_of_test : {X : Type 0} (p : X → Bool) (Q : X → Type 0) → ((x : X) → p x ≡ true → Q x) → (xs : List X) → list_all p xs ≡ true → AllByRecursion Q xs
each_of_test p Q gives [] e = tt
each_of_test p Q gives (x ∷ xs) e =
    let both = and_parts (p x) (list_all p xs) e in
    (gives x both.0, each_of_test p Q gives xs both.1)

pub all_of_test : {X : Type 0} (p : X → Bool) (Q : X → Type 0) → ((x : X) → p x ≡ true → Q x) → (xs : List X) → list_all p xs ≡ true → All Q xs
all_of_test p Q gives xs e = All-from_recursion Q xs (each_of_test p Q gives xs e)

pub short_c_name : (name : List ℕ) → is_c_name name ≡ true → length name < 64
short_c_name [] e = absurd cc
short_c_name (c ∷ cs) e =
    let few : leb (length cs) 62 ≡ true = (and_parts ((is_ascii_alphabetic c || eqb c 95) && list_all (λ d. is_ascii_alphanumeric d || eqb d 95) cs) (leb (length cs) 62) e).1 in
    omega (arith, leb-true (length cs) 62 few)

pub short_object_name : (name : List ℕ) → is_object_name name ≡ true → length name < 68
short_object_name name e =
    elim (or_cases (is_c_name name) (starts_with eqb name table_prefix && is_c_name (drop 4 name)) e) [
      | inl plain ↦ omega (arith, short_c_name name plain)
      | inr table ↦
          let rest = short_c_name (drop 4 name) (and_parts (starts_with eqb name table_prefix) (is_c_name (drop 4 name)) table).1 in
          omega (arith, rest, length-drop 4 name)
    ]

-- sections have pages, so there are no more of them than pages
pub few_sections : (page : ℕ) (ss : List Section) → are_spread page ss ≡ true → length ss ≤ sum_by (λ s. s.pages) ss
few_sections page [] e = omega arith
few_sections page (s ∷ ss) e =
    let both = and_parts (eqb s.page page && ltb 0 s.pages) (are_spread (s.page + s.pages + 1) ss) e in
    let some = ltb-true 0 s.pages (and_parts (eqb s.page page) (ltb 0 s.pages) both.0).1 in
    omega (arith, some, few_sections (s.page + s.pages + 1) ss both.1, sum_by-cons (λ (x : Section). x.pages) s ss)

pub few_pages : (ss : List Section) (k : ℕ) (s : Section) → slice_get ss k ≡ Some s → s.pages ≤ sum_by (λ s. s.pages) ss
few_pages [] k s e = absurd cc
few_pages (t ∷ ss) zero s e =
    let same : t ≡ s = cc in
    omega (arith, ap (λ (x : Section). x.pages) same, sum_by-cons (λ (x : Section). x.pages) t ss)
few_pages (t ∷ ss) (suc k) s e = omega (arith, few_pages ss k s e, sum_by-cons (λ (x : Section). x.pages) t ss)

-- what lies in a section is no longer than all sections
size_within : (s : Option Section) (ss : List Section) (k : ℕ) (o : Obj) → slice_get ss k ≡ s → is_inside s o ≡ true → o.size ≤ 4096 * sum_by (λ s. s.pages) ss
size_within None ss k o at e = absurd cc
size_within (Some s) ss k o at e =
    let both = and_parts (leb (4096 * s.page) o.address) (leb (o.address + o.size) (4096 * (s.page + s.pages))) e in
    omega (arith, leb-true _ _ both.0, leb-true _ _ both.1, few_pages ss k s at)

pub object_room : (ss : List Section) (o : Obj) → sum_by (λ s. s.pages) ss ≤ 16384 → is_object ss o ≡ true → HasRoom o
object_room ss o few e =
    let a = and_parts ((is_object_name o.name && is_inside (slice_get ss o.section) o) && leb (length o.initial) o.size) (is_trimmed o.initial) e in
    let b = and_parts (is_object_name o.name && is_inside (slice_get ss o.section) o) (leb (length o.initial) o.size) a.0 in
    let c = and_parts (is_object_name o.name) (is_inside (slice_get ss o.section) o) b.0 in
    let short = short_object_name o.name c.0 in
    let small = size_within (slice_get ss o.section) ss o.section o refl c.1 in
    record { name = omega (arith, short); initial = omega (arith, small, leb-true _ _ b.1, few) }

entry_room : (comps : List Comp) (e : EntryRec) → is_entry comps e ≡ true → length e.name < 256
entry_room comps e h =
    let a = and_parts (is_c_name e.name && has_room (slice_get comps e.compartment) e.number) (ltb e.callers (2 ^ length comps)) h in
    let b = and_parts (is_c_name e.name) (has_room (slice_get comps e.compartment) e.number) a.0 in
    let short = short_c_name e.name b.0 in
    omega (arith, short)

-- what is known of the lengths in an image
pub record Roomy (i : Image) : Type 0 where
  pub compartments : length i.compartments < 17
  pub names : All (λ c. length c.name < 256) i.compartments
  pub pages : sum_by (λ s. s.pages) i.sections ≤ 16384
  pub sections : length i.sections < 2 ^ 16
  pub count : length i.objects < 2 ^ 32
  pub objects : All HasRoom i.objects
  pub entries : All (λ e. length e.name < 256) i.entries

-- the tests of the sections that are needed
pub record SectionsTests (i : Image) : Type 0 where
  pub spread : are_spread 0x10000 i.sections ≡ true
  pub few : are_few i.mechanism i.sections ≡ true
  pub pairs : list_all (is_pair i.version (length i.compartments)) i.sections ≡ true

taken_apart : (a b c d e f g h : Bool) → (((((((a && b) && c) && d) && e) && f) && g) && h) ≡ true → (a ≡ true) × (b ≡ true) × (d ≡ true)
taken_apart a b c d e f g h all =
    let p1 = and_parts ((((((a && b) && c) && d) && e) && f) && g) h all in
    let p2 = and_parts (((((a && b) && c) && d) && e) && f) g p1.0 in
    let p3 = and_parts ((((a && b) && c) && d) && e) f p2.0 in
    let p4 = and_parts (((a && b) && c) && d) e p3.0 in
    let p5 = and_parts ((a && b) && c) d p4.0 in
    let p6 = and_parts a b (and_parts (a && b) c p5.0).0 in
    (p6.0, p6.1, p5.1)

pub sections_tests : (i : Image) → IsImage i → SectionsTests i
sections_tests i is =
    let all = taken_apart _ _ _ _ _ _ _ _ is.sections in
    record { spread = all.0; few = all.1; pairs = all.2 }

pub most_compartments : (i : Image) → IsImage i → length i.compartments < 17
most_compartments i is =
    let n = length i.compartments in
    let few = (and_parts (leb 1 n) (leb n (cond (eqb i.mechanism 3) 16 8)) is.count).1 in
    let at : n ≤ cond (eqb i.mechanism 3) 16 8 = leb-true _ _ few in
    elim (cases_cond {X = ℕ} (eqb i.mechanism 3) 16 8 (cond (eqb i.mechanism 3) 16 8) refl) [ inl e ↦ omega (arith, at, e) | inr e ↦ omega (arith, at, e) ]

pub roomy : (i : Image) → IsImage i → Roomy i
roomy i is =
    let named = and_parts (list_all (λ c. is_c_name c.name) i.compartments && is_distinct_by (λ a b. bytes_eq a.name b.name) i.compartments) (are_ranges 0 i.compartments) is.compartments in
    let names = and_parts (list_all (λ c. is_c_name c.name) i.compartments) (is_distinct_by (λ a b. bytes_eq a.name b.name) i.compartments) named.0 in
    let s = sections_tests i is in
    let pages : sum_by (λ s. s.pages) i.sections ≤ 16384 = leb-true _ _ (and_parts (leb (sum_by (λ s. s.pages) i.sections) 16384) (not (is_keyed i.mechanism) || leb (length i.sections) 14) s.few).0 in
    let o1 = and_parts ((leb (length i.objects) 32016 && list_all (is_object i.sections) i.objects) && are_apart 0 i.objects) (is_distinct_by (λ a b. bytes_eq a.name b.name) i.objects) is.objects in
    let o2 = and_parts (leb (length i.objects) 32016 && list_all (is_object i.sections) i.objects) (are_apart 0 i.objects) o1.0 in
    let o3 = and_parts (leb (length i.objects) 32016) (list_all (is_object i.sections) i.objects) o2.0 in
    let e1 = and_parts (ltb (length i.entries) (2 ^ 16) && list_all (is_entry i.compartments) i.entries) (are_counted 0 0 i.entries) is.entries in
    let e2 = and_parts (ltb (length i.entries) (2 ^ 16)) (list_all (is_entry i.compartments) i.entries) e1.0 in
    record {
      compartments = most_compartments i is;
      names = all_of_test (λ c. is_c_name c.name) (λ c. length c.name < 256) (λ c e. let short = short_c_name c.name e in omega (arith, short)) i.compartments names.0;
      pages = pages;
      sections = let few = few_sections 0x10000 i.sections s.spread in omega (arith, few, pages);
      count = omega (arith, leb-true _ _ o3.0);
      objects = all_of_test (is_object i.sections) HasRoom (λ o e. object_room i.sections o pages e) i.objects o3.1;
      entries = all_of_test (is_entry i.compartments) (λ e. length e.name < 256) (λ e h. entry_room i.compartments e h) i.entries e2.1;
    }
