use Rattle.std.specs.Prelude.{ℕ, ◌+◌, ◌-◌, ◌*◌, ◌%◌, ◌^◌, Bool, true, false, not, ◌==◌, nat_lt}
use Rattle.std.specs.Prelude.{nat_le, nat_eq, ◌&&◌, ◌||◌, if◌then◌else◌, List, [], ◌∷◌, length}
use Rattle.std.specs.Prelude.{drop, Option, Some, None, IsTrue, slice_index, slice_get, sum_by}
use Rattle.std.specs.Prelude.{count_by, bit_and}
use Rattle.std.specs.List.{list_any, list_all, starts_with}
use Rattle.std.specs.Str.{bytes_eq}
use Rattle.std.specs.Char.{is_ascii_alphabetic, is_ascii_alphanumeric}
use Rattle.fx_image.specs.Keys.{is_keyed, pkru_of}
use Rattle.fx_image.specs.Layout.{code_start, is_in_stack}
use Rattle.fx_image.specs.declared.forms.Comp.{Comp}
use Rattle.fx_image.specs.declared.forms.Section.{Section}
use Rattle.fx_image.specs.declared.forms.Obj.{Obj}
use Rattle.fx_image.specs.declared.forms.EntryRec.{EntryRec}
use Rattle.fx_image.specs.declared.forms.Stub.{Stub}
use Rattle.fx_image.specs.declared.forms.Start.{Start}
use Rattle.fx_image.specs.declared.forms.Image.{Image}

-- The rules that an image's fields meet, in the order in which they are tried. Each is a test.

-- a letter or an underscore, then letters, digits and underscores, 63 bytes at most
abbrev pub is_c_name : List ℕ → Bool
is_c_name [] = false
is_c_name (c ∷ cs) =
    (is_ascii_alphabetic c || c == 95) && list_all (λ d. is_ascii_alphanumeric d || d == 95) cs
    && nat_le (length cs) 62

-- .rt.
abbrev pub table_prefix : List ℕ
table_prefix = 46 ∷ 114 ∷ 116 ∷ 46 ∷ []

-- an object's name: a C name, or the name of a compartment's table, which is .rt. and a C name
abbrev pub is_object_name : List ℕ → Bool
is_object_name name =
    is_c_name name || (starts_with nat_eq name table_prefix && is_c_name (drop 4 name))

-- no two of them are the same
abbrev pub is_distinct_by : {X : Type 0} → (X → X → Bool) → List X → Bool
is_distinct_by same [] = true
is_distinct_by same (x ∷ xs) = not (list_any (same x) xs) && is_distinct_by same xs

-- a test of each element with its number, from k on
abbrev pub all_numbered : {X : Type 0} → (ℕ → X → Bool) → ℕ → List X → Bool
all_numbered test k [] = true
all_numbered test k (x ∷ xs) = test k x && all_numbered test (k + 1) xs

abbrev pub is_version : ℕ → Bool
is_version version = version == 1 || version == 2

-- call 0, light 1, full 2, ept 3
abbrev pub is_mechanism : ℕ → Bool
is_mechanism mechanism = nat_le mechanism 3

-- the number of compartments
abbrev pub is_count : ℕ → ℕ → Bool
is_count mechanism n = nat_le 1 n && nat_le n (if mechanism == 3 then 16 else 8)

-- version 1 has 8 threads
abbrev pub are_stacks : ℕ → ℕ → ℕ → Bool
are_stacks version pages threads =
    nat_le 1 pages && nat_le pages 64 && (threads == 8 || (threads == 16 && not (version == 1)))

-- whole pages, one range after the other from `start` on
abbrev pub are_ranges : ℕ → List Comp → Bool
are_ranges start [] = true
are_ranges start (c ∷ cs) = (c.start == start && c.len % 4096 == 0) && are_ranges (start + c.len) cs

-- the end of the compartments' ranges, where the runtime's range starts
abbrev pub ranges_end : List Comp → ℕ
ranges_end comps = sum_by (λ c. c.len) comps

abbrev pub are_compartments : List Comp → Bool
are_compartments comps =
    list_all (λ c. is_c_name c.name) comps && is_distinct_by (λ a b. bytes_eq a.name b.name) comps
    && are_ranges 0 comps

-- a set of readers with a set of writers inside it that isn't empty; version 1 has one set for both
abbrev pub is_pair : ℕ → ℕ → Section → Bool
is_pair version n s =
    nat_lt 0 s.writers && bit_and s.writers s.readers == s.writers && nat_lt s.readers (2 ^ n)
    && (not (version == 1) || s.readers == s.writers)

abbrev pub has_set : ℕ → Section → Bool
has_set set s = s.readers == set && s.writers == set

-- Section k of the first: the compartments' private sets in order, and then the set of all where there
-- are several compartments. The others may stand in any order.
abbrev pub leads : ℕ → ℕ → Section → Bool
leads n k s =
    if nat_lt k n then has_set (2 ^ k) s
    else if k == n && nat_lt 1 n then has_set (2 ^ n - 1) s
    else true

-- how many sections there are at least
abbrev pub leading : ℕ → ℕ
leading n = if nat_lt 1 n then n + 1 else n

abbrev pub same_pair : Section → Section → Bool
same_pair a b = a.readers == b.readers && a.writers == b.writers

-- the key of section k
abbrev pub has_key : ℕ → ℕ → Section → Bool
has_key mechanism k s = s.key == (if is_keyed mechanism then 2 + k else 0)

-- each section has pages, the first of them `page`, with one unmapped page between two sections
abbrev pub are_spread : ℕ → List Section → Bool
are_spread page [] = true
are_spread page (s ∷ ss) = (s.page == page && nat_lt 0 s.pages) && are_spread (s.page + s.pages + 1) ss

-- the number of sections, and of their pages
abbrev pub are_few : ℕ → List Section → Bool
are_few mechanism sections =
    nat_le (sum_by (λ s. s.pages) sections) 16384 && (not (is_keyed mechanism) || nat_le (length sections) 14)

-- each compartment has its PKRU value under protection keys, and 0 elsewhere
abbrev pub have_rights : ℕ → List Section → ℕ → List Comp → Bool
have_rights mechanism sections scheduler comps =
    all_numbered (λ c comp. comp.pkru == (if is_keyed mechanism then pkru_of sections scheduler c else 0)) 0 comps

-- the sections, and with them the compartments' PKRU values
abbrev pub are_sections : ℕ → ℕ → ℕ → List Comp → List Section → Bool
are_sections version mechanism scheduler comps sections =
    are_spread 0x10000 sections && are_few mechanism sections
    && nat_le (leading (length comps)) (length sections)
    && list_all (is_pair version (length comps)) sections
    && all_numbered (leads (length comps)) 0 sections
    && all_numbered (has_key mechanism) 0 sections
    && is_distinct_by same_pair sections
    && have_rights mechanism sections scheduler comps

-- whole pages, 1 MiB at most, that hold the compartments' ranges
abbrev pub is_code : List Comp → List ℕ → Bool
is_code comps code =
    length code % 4096 == 0 && nat_le (length code) 1048576 && nat_le (ranges_end comps) (length code)

abbrev pub are_literals : List ℕ → Bool
are_literals literals = nat_le (length literals) 8388608

-- whether the object lies in the pages of the section
abbrev pub is_inside : Option Section → Obj → Bool
is_inside None o = false
is_inside (Some s) o =
    nat_le (4096 * s.page) o.address && nat_le (o.address + o.size) (4096 * (s.page + s.pages))

-- no zeros at the end
abbrev pub is_trimmed : List ℕ → Bool
is_trimmed bytes = length bytes == 0 || nat_lt 0 (slice_index bytes (length bytes - 1))

abbrev pub is_object : List Section → Obj → Bool
is_object sections o =
    is_object_name o.name && is_inside (slice_get sections o.section) o
    && nat_le (length o.initial) o.size && is_trimmed o.initial

-- ascending from `least` on, each at least 16 bytes past the former's end
abbrev pub are_apart : ℕ → List Obj → Bool
are_apart least [] = true
are_apart least (o ∷ os) = nat_le least o.address && are_apart (o.address + o.size + 16) os

abbrev pub are_objects : List Section → List Obj → Bool
are_objects sections objects =
    nat_le (length objects) 32016 && list_all (is_object sections) objects && are_apart 0 objects
    && is_distinct_by (λ a b. bytes_eq a.name b.name) objects

-- by compartment, and each compartment's numbers from 0 without a gap; `number` is the next one of
-- compartment c
abbrev pub are_counted : ℕ → ℕ → List EntryRec → Bool
are_counted c number [] = true
are_counted c number (e ∷ es) =
    ((e.compartment == c && e.number == number) || (nat_lt c e.compartment && e.number == 0))
    && are_counted e.compartment (e.number + 1) es

-- whether 16 * number is inside the compartment's range
abbrev pub has_room : Option Comp → ℕ → Bool
has_room None number = false
has_room (Some c) number = nat_lt (16 * number) c.len

abbrev pub is_entry : List Comp → EntryRec → Bool
is_entry comps e =
    is_c_name e.name && has_room (slice_get comps e.compartment) e.number
    && nat_lt e.callers (2 ^ length comps)

abbrev pub are_entries : List Comp → List EntryRec → Bool
are_entries comps entries =
    nat_lt (length entries) (2 ^ 16) && list_all (is_entry comps) entries && are_counted 0 0 entries

-- the number of a compartment's entries
abbrev pub entry_count : List EntryRec → ℕ → ℕ
entry_count entries c = count_by (λ e. e.compartment == c) entries

-- the bytes of WRPKRU
abbrev pub key_sequence : List ℕ
key_sequence = 0x0f ∷ 0x01 ∷ 0xef ∷ []

-- whether WRPKRU stands at this place
abbrev pub is_key_sequence : List ℕ → ℕ → Bool
is_key_sequence code at = starts_with nat_eq (drop at code) key_sequence

-- a place in the runtime's range
abbrev pub is_in_runtime : List Comp → List ℕ → ℕ → Bool
is_in_runtime comps code at = nat_le (ranges_end comps) at && nat_lt at (length code)

-- from one of n compartments to another
abbrev pub is_between : ℕ → Stub → Bool
is_between n s = not (s.from == s.to) && nat_lt s.from n && nat_lt s.to n

-- in the runtime's range, with a WRPKRU at both of its places
abbrev pub is_placed : List Comp → List ℕ → Stub → Bool
is_placed comps code s =
    is_in_runtime comps code s.offset && nat_lt s.offset s.first && nat_lt s.first s.second
    && is_in_runtime comps code s.second && is_key_sequence code s.first && is_key_sequence code s.second

abbrev pub is_stub : List Comp → List ℕ → List EntryRec → Stub → Bool
is_stub comps code entries s =
    is_between (length comps) s && nat_lt s.entry (entry_count entries s.to) && is_placed comps code s

abbrev pub are_stubs : ℕ → List Comp → List ℕ → List EntryRec → List Stub → Bool
are_stubs mechanism comps code entries stubs =
    nat_lt (length stubs) (2 ^ 16)
    && (if is_keyed mechanism then list_all (is_stub comps code entries) stubs else length stubs == 0)

abbrev pub are_owners : ℕ → List ℕ → Bool
are_owners n owners = list_all (λ c. nat_lt c n) owners

abbrev pub is_start : Image → Start → Bool
is_start i s =
    nat_le code_start s.rip && nat_lt s.rip (code_start + length i.code) && s.rsp % 16 == 0
    && is_in_stack i s.rsp

-- one for each vCPU: as many as compartments under ept, elsewhere one
abbrev pub are_starts : Image → Bool
are_starts i =
    length i.starts == (if i.mechanism == 3 then length i.compartments else 1)
    && list_all (is_start i) i.starts

-- whether a stub lists the place
abbrev pub is_listed : List Stub → ℕ → Bool
is_listed stubs at = list_any (λ s. s.first == at || s.second == at) stubs

-- the first place from k on, in code that begins there, where WRPKRU's bytes stand and no stub lists it
abbrev pub unlisted_from : List Stub → ℕ → List ℕ → Option ℕ
unlisted_from stubs k [] = None
unlisted_from stubs k (b ∷ bs) =
    if is_key_sequence (b ∷ bs) 0 && not (is_listed stubs k) then Some k
    else unlisted_from stubs (k + 1) bs

-- the first place in the code where WRPKRU's bytes stand and no stub lists it
unfoldable pub first_unlisted : List Stub → List ℕ → Option ℕ
first_unlisted stubs code = unlisted_from stubs 0 code

-- whether there is no such place
abbrev pub has_none : Option ℕ → Bool
has_none None = true
has_none (Some at) = false

-- An image: each field meets its rule, and WRPKRU's bytes stand in the code where a stub lists them,
-- and nowhere else.
pub record IsImage (i : Image) : Type 0 where
  pub version : IsTrue (is_version i.version)
  pub mechanism : IsTrue (is_mechanism i.mechanism)
  pub count : IsTrue (is_count i.mechanism (length i.compartments))
  pub stacks : IsTrue (are_stacks i.version i.stack_pages i.threads)
  pub scheduler : IsTrue (nat_lt i.scheduler (length i.compartments))
  pub home : IsTrue (nat_lt i.home (length i.compartments))
  pub compartments : IsTrue (are_compartments i.compartments)
  pub sections : IsTrue (are_sections i.version i.mechanism i.scheduler i.compartments i.sections)
  pub code : IsTrue (is_code i.compartments i.code)
  pub literals : IsTrue (are_literals i.literals)
  pub objects : IsTrue (are_objects i.sections i.objects)
  pub entries : IsTrue (are_entries i.compartments i.entries)
  pub stubs : IsTrue (are_stubs i.mechanism i.compartments i.code i.entries i.stubs)
  pub abort : IsTrue (is_in_runtime i.compartments i.code i.abort)
  pub owners : IsTrue (are_owners (length i.compartments) i.owners)
  pub starts : IsTrue (are_starts i)
  pub sequences : IsTrue (has_none (first_unlisted i.stubs i.code))
