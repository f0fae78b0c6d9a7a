-- Files in memory as the entries of a map by name.
use Rattle.std.proofs.Common.{◌≡◌, ◌≢◌, ℕ, List, [], ◌∷◌, Option, Some, Bool, true, false, cond, refl, ap, sym, ◌∙◌, map, String, Global, Vec}
use Rattle.std.specs.Ordering.{nat_cmp, is_eq}
use Rattle.std.specs.Cmp.Lexicographic.{slice_cmp}
use Rattle.std.specs.Option.{option_map}
use Rattle.std.specs.Str.{bytes_eq}
use Rattle.std.specs.String.{string_bytes}
use Rattle.std.specs.Map.{lookup}
use Rattle.std.specs.BTreeMap.{BTreeMap, UpdatesBy, get_by_text}
use Rattle.std.specs.String.{string_cmp}
use Rattle.std.proofs.lemmas.Map.Text.{is_eq-slice_cmp, btree_map_updates_text}
use Rattle.std.proofs.lemmas.Slice.Eq.{bytes_eq-Decides}
use Rattle.std.proofs.lemmas.Bool.{cond-true, cond-false, false_from_ne_true}
use Rattle.fx_base.specs.MemFiles.{content_of}

-- one entry, as a clause sees it
abbrev pub plain_file : String Global × Vec ℕ Global → List ℕ × List ℕ
plain_file file = (string_bytes file.0, file.1.items)

-- the first entry or one behind it
by_test : (test : Bool) (first : Vec ℕ Global) (rest : Option (List ℕ)) (found : Option (Vec ℕ Global)) → rest ≡ option_map (λ v. v.items) found → cond test (Some first.items) rest ≡ option_map (λ v. v.items) (cond test (Some first) found)
by_test true first rest found same = refl
by_test false first rest found same = same

-- what stands under a name is what the map finds there
pub content_of-entries : (entries : List (String Global × Vec ℕ Global)) (name : List ℕ) → content_of (map plain_file entries) name ≡ option_map (λ v. v.items) (lookup (λ k. is_eq (slice_cmp nat_cmp name (string_bytes k))) entries)
content_of-entries [] name = refl
content_of-entries (entry ∷ entries) name =
    rw is_eq-slice_cmp (by_test (bytes_eq name (string_bytes entry.0)) entry.1 _ _ (content_of-entries entries name))

-- the named file's bytes after an insertion under the name
pub content_of-same : (old new : BTreeMap (String Global) (Vec ℕ Global)) (key : String Global) (v : Vec ℕ Global) (name : List ℕ) → string_bytes key ≡ name → UpdatesBy string_cmp (string_cmp key) old new (Some v) → content_of (map plain_file new.entries) name ≡ Some v.items
content_of-same old new key v name same updates =
    content_of-entries new.entries name
    ∙ ap (option_map (λ w. w.items)) (btree_map_updates_text (string_bytes key) old new (Some v) updates name ∙ cond-true (bytes_eq (string_bytes key) name) (Some v) (get_by_text old name) ((bytes_eq-Decides (string_bytes key) name).1 same))

-- another file's bytes after it
pub content_of-other : (old new : BTreeMap (String Global) (Vec ℕ Global)) (key : String Global) (v : Vec ℕ Global) (name : List ℕ) → name ≢ string_bytes key → UpdatesBy string_cmp (string_cmp key) old new (Some v) → content_of (map plain_file new.entries) name ≡ content_of (map plain_file old.entries) name
content_of-other old new key v name other updates =
    content_of-entries new.entries name
    ∙ ap (option_map (λ w. w.items)) (btree_map_updates_text (string_bytes key) old new (Some v) updates name ∙ cond-false (bytes_eq (string_bytes key) name) (Some v) (get_by_text old name) (false_from_ne_true _ (λ found. other (sym ((bytes_eq-Decides (string_bytes key) name).0 found)))))
    ∙ sym (content_of-entries old.entries name)
