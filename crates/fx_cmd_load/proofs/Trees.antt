-- Texts that are parsed one after the other.
use Rattle.std.proofs.Common.{◌≡◌, ℕ, zero, suc, ◌+◌, ◌<◌, ◌≤◌, All, List, [], ◌∷◌, ◌++◌, length, take, drop, get_or, map, Option, drop-cons, refl, sym, ap, subst, ◌∙◌, arith}
use Rattle.std.proofs.lemmas.List.{take_more, take-append-drop, map-append, length-map, length-append}
use Rattle.fx_base.specs.Files.{Held}
use Rattle.fx_config.specs.declared.configuration.Library.{Library}
use Rattle.fx_config.specs.Reading.{files_of}
use Rattle.fx_cmd_load.specs.declared.error.LoadError.{LoadError}
use Rattle.fx_cmd_load.specs.declared.error.LoadError.TheVariants.{File, Config, Parse, OutOfMemory}
use Rattle.fx_cmd_load.specs.declared.named.SourceName.{SourceName}
use Rattle.fx_cmd_load.specs.declared.reading.SourceText.{SourceText}
use Rattle.fx_cmd_load.specs.declared.parsing.ParsedFile.{ParsedFile}
use Rattle.fx_cmd_load.specs.Named.{Named, source_file, source_files, in_library, from_library}
use Rattle.fx_cmd_load.specs.Reading.{texts_of, AreRead}
use Rattle.fx_cmd_load.specs.Parsing.{HasTree, AreParsed, HaveTrees, HasNoTree, OneHasNoTree}

parsed_more : (ns : List Named) (ts : List (List ℕ)) (fs : List ParsedFile) (n : Named) (t : List ℕ) (f : ParsedFile) → AreParsed ns ts fs → f.library ≡ n.library → HasTree t f.unit → AreParsed (ns ++ n ∷ []) (ts ++ t ∷ []) (fs ++ f ∷ [])
parsed_more [] [] [] n t f all library tree = (library, tree, tt)
parsed_more [] [] (g ∷ fs) n t f all library tree = absurd all
parsed_more [] (u ∷ ts) fs n t f all library tree = absurd all
parsed_more (m ∷ ns) [] fs n t f all library tree = absurd all
parsed_more (m ∷ ns) (u ∷ ts) [] n t f all library tree = absurd all
parsed_more (m ∷ ns) (u ∷ ts) (g ∷ fs) n t f all library tree = (all.0, all.1, parsed_more ns ts fs n t f all.2 library tree)

have_trees : (ns : List Named) (ts : List (List ℕ)) (fs : List ParsedFile) → AreParsed ns ts fs → HaveTrees ts
have_trees [] [] [] all = tt
have_trees [] [] (g ∷ fs) all = absurd all
have_trees [] (u ∷ ts) fs all = absurd all
have_trees (m ∷ ns) [] fs all = absurd all
have_trees (m ∷ ns) (u ∷ ts) [] all = absurd all
have_trees (m ∷ ns) (u ∷ ts) (g ∷ fs) all = ((_, all.1), have_trees ns ts fs all.2)

-- one more element of what a list means
taken : {A B : Type 0} → (f : A → B) (xs : List A) (i : ℕ) (x : A) → i < length xs → x ≡ get_or xs i x → map f (take (i + 1) xs) ≡ map f (take i xs) ++ f x ∷ []
taken f xs i x less is =
    let whole : take (i + 1) xs ≡ take i xs ++ x ∷ [] = take_more xs i x less ∙ ap (λ y. take i xs ++ y ∷ []) (sym is) in
    ap (map f) whole ∙ map-append f (take i xs) (x ∷ [])

split : {A B : Type 0} → (f : A → B) (xs : List A) (i : ℕ) (x : A) → i < length xs → x ≡ get_or xs i x → map f xs ≡ map f (take i xs) ++ f x ∷ map f (drop (suc i) xs)
split f xs i x less is =
    let rest : drop i xs ≡ x ∷ drop (suc i) xs = drop-cons xs i x less ∙ ap (λ y. y ∷ drop (suc i) xs) (sym is) in
    let whole : xs ≡ take i xs ++ x ∷ drop (suc i) xs = sym (take-append-drop i xs) ∙ ap (λ l. take i xs ++ l) rest in
    ap (map f) whole ∙ map-append f (take i xs) (x ∷ drop (suc i) xs)

pub next_parsed : (names : List SourceName) (texts : List SourceText) (all new : List ParsedFile) (i : ℕ) (n : SourceName) (t : SourceText) (f : ParsedFile) (text : List ℕ)
    → i < length names → i < length texts → n ≡ get_or names i n → t ≡ get_or texts i t → new ≡ all ++ f ∷ [] → text ≡ t.bytes.items → f.library ≡ n.library
    → AreParsed (source_files (take i names)) (texts_of (take i texts)) all → HasTree text f.unit → AreParsed (source_files (take (i + 1) names)) (texts_of (take (i + 1) texts)) new
next_parsed names texts all new i n t f text less within is same pushed value library parsed tree =
    let more = parsed_more (source_files (take i names)) (texts_of (take i texts)) all (source_file n) t.bytes.items f parsed library (subst (λ u. HasTree u f.unit) value tree) in
    let first = taken source_file names i n less is in
    let second = taken (λ (s : SourceText). s.bytes.items) texts i t within same in
    subst (λ ns. AreParsed ns (texts_of (take (i + 1) texts)) new) (sym first)
    (subst (λ ts. AreParsed (source_files (take i names) ++ source_file n ∷ []) ts new) (sym second)
    (subst (AreParsed (source_files (take i names) ++ source_file n ∷ []) (texts_of (take i texts) ++ t.bytes.items ∷ [])) (sym pushed) more))

stops : (first : List (List ℕ)) (next : List ℕ) (rest : List (List ℕ)) (number : ℕ) (error : LoadError) → length first ≡ number → HaveTrees first → HasNoTree next number error → OneHasNoTree (first ++ next ∷ rest) error
stops first next rest number (Parse file error) count trees none = record { first = first; next = next; rest = rest; order = refl; number = count ∙ sym none.0; trees = trees; none = none.1 }
stops first next rest number (File name error) count trees none = absurd none
stops first next rest number (Config error) count trees none = absurd none
stops first next rest number OutOfMemory count trees none = tt

pub stops_parsing : (names : List SourceName) (texts : List SourceText) (all : List ParsedFile) (i : ℕ) (t : SourceText) (text : List ℕ) (error : LoadError)
    → i < length texts → t ≡ get_or texts i t → text ≡ t.bytes.items → AreParsed (source_files (take i names)) (texts_of (take i texts)) all → HasNoTree text i error → OneHasNoTree (texts_of texts) error
stops_parsing names texts all i t text error within same value parsed none =
    let first : List (List ℕ) = texts_of (take i texts) in
    let trees = have_trees (source_files (take i names)) first all parsed in
    let count : length first ≡ i = length-map (take i texts) (λ (s : SourceText). s.bytes.items) ∙ taken_count texts i within in
    subst (λ ts. OneHasNoTree ts error) (sym (split (λ (s : SourceText). s.bytes.items) texts i t within same))
    (stops first t.bytes.items (texts_of (drop (suc i) texts)) i error count trees (subst (λ u. HasNoTree u i error) value none))
  where
    taken_count : (xs : List SourceText) (n : ℕ) → n < length xs → length (take n xs) ≡ n
    taken_count [] n h = absurd (omega arith)
    taken_count (x ∷ xs) zero h = refl
    taken_count (x ∷ xs) (suc n) h = ap suc (taken_count xs n (omega arith))

-- ---- what was read, for parsing

pub as_many : (held : Option Held) (names : List SourceName) (texts : List SourceText) → AreRead held (source_files names) (texts_of texts) → length names ≡ length texts
as_many held [] [] read = refl
as_many held [] (t ∷ ts) read = absurd read
as_many held (n ∷ ns) [] read = absurd read
as_many held (n ∷ ns) (t ∷ ts) read = ap suc (as_many held ns ts read.2)

pub short_texts : (held : Option Held) (names : List SourceName) (texts : List SourceText) → AreRead held (source_files names) (texts_of texts) → All (λ (t : SourceText). length t.bytes.items ≤ 1048576) texts
short_texts held names texts read = λ k d less. short_at held names texts k d less read
  where
    short_at : (held : Option Held) (names : List SourceName) (texts : List SourceText) (k : ℕ) (d : SourceText) → k < length texts → AreRead held (source_files names) (texts_of texts) → length (get_or texts k d).bytes.items ≤ 1048576
    short_at held names [] k d less read = absurd (omega arith)
    short_at held [] (t ∷ ts) k d less read = absurd read
    short_at held (n ∷ ns) (t ∷ ts) zero d less read = read.1
    short_at held (n ∷ ns) (t ∷ ts) (suc k) d less read = short_at held ns ts k d (omega arith) read.2

pub named_count : (n : ℕ) (ls : List Library) → length (from_library n ls) ≡ length (files_of ls)
named_count n [] = refl
named_count n (l ∷ ls) = omega (arith, length-append (in_library n l.files) (from_library (n + 1) ls), length-map l.files (λ (name : List ℕ). named n name), length-append l.files (files_of ls), named_count (n + 1) ls)
  where
    named : ℕ → List ℕ → Named
    named n name = record { library = n; name = name }

pub few_names : (names : List SourceName) (ls : List Library) → source_files names ≡ from_library 0 ls → length (files_of ls) ≤ 64 → length names ≤ 64
few_names names ls same few = omega (arith, length-map names source_file, ap length same, named_count 0 ls)
