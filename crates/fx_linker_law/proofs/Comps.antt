-- The compartments of an image of parts.
use Rattle.std.proofs.Common.{◌≡◌, ◌≤◌, ℕ, suc, ◌+◌, ◌-◌, ◌%◌, Bool, true, ◌&&◌, ◌||◌, not, ◌==◌, nat_le, List, [], ◌∷◌, length, map, refl, ap, ◌∙◌, arith}
use Rattle.std.specs.Prelude.{slice_index}
use Rattle.std.specs.List.{list_all, list_any}
use Rattle.std.specs.Str.{bytes_eq}
use Rattle.std.proofs.lemmas.Bool.{and_from, and_parts, eq-eqb, leb-true, le-leb}
use Rattle.std.proofs.lemmas.List.Sums.{sum_by-cons}
use Rattle.fx_x64_forms.specs.declared.piece.Piece.{Piece}
use Rattle.fx_config.specs.declared.configuration.Compartment.{Compartment}
use Rattle.fx_config.specs.declared.configuration.Config.{Config}
use Rattle.fx_config.specs.Names as config
use Rattle.fx_image.specs.declared.forms.Comp.{Comp}
use Rattle.fx_image.specs.declared.forms.Section.{Section}
use Rattle.fx_image.specs.Rules as image
use Rattle.fx_linker.specs.Places.{pieces_size, whole_pages, range_starts, ranges_size}
use Rattle.fx_linker.specs.Data.{comps_from, rights}
use Rattle.fx_linker_law.proofs.Lengths.{page_whole}

pub comps_length : (k : Config) (ss : List Section) (starts : List ℕ) (c : ℕ) (cs : List Compartment) → length (comps_from k ss starts c cs) ≡ length cs
comps_length k ss starts c [] = refl
comps_length k ss starts c (x ∷ cs) = ap suc (comps_length k ss starts (c + 1) cs)

-- ---- names

-- a name of a configuration is one of an image
pub same_name : (name : List ℕ) → config.is_c_name name ≡ true → image.is_c_name name ≡ true
same_name [] h = absurd cc
same_name (c ∷ cs) h =
    let outer = and_parts (config.may_begin c && nat_le (suc (length cs)) 63) (list_all config.may_follow (c ∷ cs)) h in
    let inner = and_parts (config.may_begin c) (nat_le (suc (length cs)) 63) outer.0 in
    let short : suc (length cs) ≤ 63 = leb-true (suc (length cs)) 63 inner.1 in
    let others = and_parts (config.may_follow c) (list_all config.may_follow cs) outer.1 in
    and_from (config.may_begin c && list_all config.may_follow cs) (nat_le (length cs) 62)
    (and_from (config.may_begin c) (list_all config.may_follow cs) inner.0 others.1)
    (le-leb (length cs) 62 (omega arith))

abbrev has_name : Comp → Bool
has_name c = image.is_c_name c.name

pub named : (k : Config) (ss : List Section) (starts : List ℕ) (c : ℕ) (cs : List Compartment) → list_all (λ (x : Compartment). config.is_c_name x.name) cs ≡ true → list_all has_name (comps_from k ss starts c cs) ≡ true
named k ss starts c [] h = refl
named k ss starts c (x ∷ cs) h =
    let parts = and_parts (config.is_c_name x.name) (list_all (λ (y : Compartment). config.is_c_name y.name) cs) h in
    and_from (image.is_c_name x.name) (list_all has_name (comps_from k ss starts (c + 1) cs))
    (same_name x.name parts.0) (named k ss starts (c + 1) cs parts.1)

abbrev names_of : List Compartment → List (List ℕ)
names_of cs = map (λ (x : Compartment). x.name) cs

any_named : (name : List ℕ) (k : Config) (ss : List Section) (starts : List ℕ) (c : ℕ) (cs : List Compartment) → list_any (λ (y : Comp). bytes_eq name y.name) (comps_from k ss starts c cs) ≡ list_any (bytes_eq name) (names_of cs)
any_named name k ss starts c [] = refl
any_named name k ss starts c (x ∷ cs) = ap (λ b. bytes_eq name x.name || b) (any_named name k ss starts (c + 1) cs)

abbrev same_names : Comp → Comp → Bool
same_names a b = bytes_eq a.name b.name

pub distinct : (k : Config) (ss : List Section) (starts : List ℕ) (c : ℕ) (cs : List Compartment) → config.all_differ bytes_eq (names_of cs) ≡ true → image.is_distinct_by same_names (comps_from k ss starts c cs) ≡ true
distinct k ss starts c [] h = refl
distinct k ss starts c (x ∷ cs) h =
    let parts = and_parts (not (list_any (bytes_eq x.name) (names_of cs))) (config.all_differ bytes_eq (names_of cs)) h in
    and_from (not (list_any (λ (y : Comp). bytes_eq x.name y.name) (comps_from k ss starts (c + 1) cs))) (image.is_distinct_by same_names (comps_from k ss starts (c + 1) cs))
    (ap not (any_named x.name k ss starts (c + 1) cs) ∙ parts.0) (distinct k ss starts (c + 1) cs parts.1)

-- ---- ranges: from a place on the starts are those of these ranges

abbrev pub Follow : List ℕ → ℕ → ℕ → List (List Piece) → Type 0
Follow starts c at rs = (j : ℕ) → slice_index starts (c + j) ≡ slice_index (range_starts at rs) j

first_start : (at : ℕ) (rs : List (List Piece)) → slice_index (range_starts at rs) 0 ≡ at
first_start at [] = refl
first_start at (r ∷ rs) = refl

here : (starts : List ℕ) (c at : ℕ) (rs : List (List Piece)) → Follow starts c at rs → slice_index starts c ≡ at
here starts c at rs from =
    let e : c ≡ c + 0 = omega arith in
    ap (slice_index starts) e ∙ from 0 ∙ first_start at rs

pub onward : (starts : List ℕ) (c at : ℕ) (r : List Piece) (rs : List (List Piece)) → Follow starts c at (r ∷ rs) → Follow starts (c + 1) (at + whole_pages (pieces_size r)) rs
onward starts c at r rs from j =
    let e : c + 1 + j ≡ c + suc j = omega arith in
    ap (slice_index starts) e ∙ from (suc j)

-- where a range begins, and how many bytes it has
pub size_here : (starts : List ℕ) (c at : ℕ) (r : List Piece) (rs : List (List Piece)) → Follow starts c at (r ∷ rs) → slice_index starts (c + 1) - slice_index starts c ≡ whole_pages (pieces_size r)
size_here starts c at r rs from =
    let a = here starts c at (r ∷ rs) from in
    let b = here starts (c + 1) (at + whole_pages (pieces_size r)) rs (onward starts c at r rs from) in
    omega (arith, a, b)

pub ranged : (k : Config) (ss : List Section) (starts : List ℕ) (c at : ℕ) (rs : List (List Piece)) (cs : List Compartment) → length rs ≡ length cs → Follow starts c at rs → image.are_ranges at (comps_from k ss starts c cs) ≡ true
ranged k ss starts c at rs [] same from = refl
ranged k ss starts c at [] (x ∷ cs) same from = absurd (omega arith)
ranged k ss starts c at (r ∷ rs) (x ∷ cs) same from =
    let size = size_here starts c at r rs from in
    let len = slice_index starts (c + 1) - slice_index starts c in
    let whole : len % 4096 ≡ 0 = ap (λ n. n % 4096) size ∙ page_whole (pieces_size r) in
    let rest = ranged k ss starts (c + 1) (at + whole_pages (pieces_size r)) rs cs (omega arith) (onward starts c at r rs from) in
    and_from (slice_index starts c == at && len % 4096 == 0) (image.are_ranges (at + len) (comps_from k ss starts (c + 1) cs))
    (and_from (slice_index starts c == at) (len % 4096 == 0) (eq-eqb (slice_index starts c) at (here starts c at (r ∷ rs) from)) (eq-eqb (len % 4096) 0 whole))
    (ap (λ n. image.are_ranges (at + n) (comps_from k ss starts (c + 1) cs)) size ∙ rest)

abbrev bytes_of : Comp → ℕ
bytes_of c = c.len

pub ranges_sum : (k : Config) (ss : List Section) (starts : List ℕ) (c at : ℕ) (rs : List (List Piece)) (cs : List Compartment) → length rs ≡ length cs → Follow starts c at rs → image.ranges_end (comps_from k ss starts c cs) ≡ ranges_size rs
ranges_sum k ss starts c at [] [] same from = refl
ranges_sum k ss starts c at (r ∷ rs) [] same from = absurd (omega arith)
ranges_sum k ss starts c at [] (x ∷ cs) same from = absurd (omega arith)
ranges_sum k ss starts c at (r ∷ rs) (x ∷ cs) same from =
    let first : Comp = record { name = x.name; start = slice_index starts c; len = slice_index starts (c + 1) - slice_index starts c; pkru = rights k.mechanism ss k.scheduler c } in
    sum_by-cons bytes_of first (comps_from k ss starts (c + 1) cs)
    ∙ ap (λ n. n + image.ranges_end (comps_from k ss starts (c + 1) cs)) (size_here starts c at r rs from)
    ∙ ap (λ n. whole_pages (pieces_size r) + n) (ranges_sum k ss starts (c + 1) (at + whole_pages (pieces_size r)) rs cs (omega arith) (onward starts c at r rs from))

-- from the first range on
pub all_follow : (rs : List (List Piece)) → Follow (range_starts 0 rs) 0 0 rs
all_follow rs j =
    let e : 0 + j ≡ j = omega arith in
    ap (slice_index (range_starts 0 rs)) e
