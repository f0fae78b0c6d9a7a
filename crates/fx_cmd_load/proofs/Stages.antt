-- Files that are read one after the other.
use Rattle.std.proofs.Common.{◌≡◌, ℕ, suc, ◌+◌, ◌<◌, ◌≤◌, List, [], ◌∷◌, ◌++◌, length, take, drop, get_or, Option, Some, None, IsSome, drop-cons, refl, sym, ap, subst, ◌∙◌, arith}
use Rattle.fx_base.specs.Told.{Told}
use Rattle.fx_base.specs.Files.{Held, SameFiles, IsLonger}
use Rattle.fx_base.specs.declared.files.FileError.{FileError}
use Rattle.fx_base.specs.declared.files.FileError.TheVariants as files
use Rattle.fx_cmd_load.specs.declared.error.LoadError.{LoadError}
use Rattle.fx_cmd_load.specs.declared.error.LoadError.TheVariants.{File, Config, Parse, OutOfMemory}
use Rattle.std.proofs.lemmas.List.{take_more, take-append-drop, map-append}
use Rattle.fx_cmd_load.specs.declared.named.SourceName.{SourceName}
use Rattle.fx_cmd_load.specs.declared.reading.SourceText.{SourceText}
use Rattle.fx_cmd_load.specs.Named.{Named, source_file, source_files}
use Rattle.fx_cmd_load.specs.Reading.{source_limit, HasContent, WasRead, LeavesCount, FaultLeaves, ErrorLeaves, ReadingFault, WasNotRead, texts_of, AreRead, OneWasNotRead}

pub same_twice : (a b c : Option Held) → Told SameFiles a b → Told SameFiles b c → Told SameFiles a c
same_twice None None None p q = tt
same_twice None None (Some z) p q = absurd q
same_twice None (Some y) c p q = absurd p
same_twice (Some x) None c p q = absurd p
same_twice (Some x) (Some y) None p q = absurd q
same_twice (Some x) (Some y) (Some z) p q = λ name. q name ∙ p name

-- what stands after nothing changed stood before
pub content_before : (a b : Option Held) (name bytes : List ℕ) → Told SameFiles a b → HasContent b name bytes → HasContent a name bytes
content_before None None name bytes same content = content
content_before None (Some y) name bytes same content = absurd same
content_before (Some x) None name bytes same content = absurd same
content_before (Some x) (Some y) name bytes same content = sym (same name) ∙ content

pub was_before : (limit : ℕ) (a b : Option Held) (name bytes : List ℕ) → Told SameFiles a b → WasRead limit b name bytes → WasRead limit a name bytes
was_before limit a b name bytes same read = (content_before a b name bytes same read.0, read.1)

none_told : IsSome {T = Held} None → ⊥
none_told told = cc

-- a count that two readings left
pub counted_twice : (a b : Option Held) (first before now : ℕ) → Told SameFiles a b → LeavesCount a first before → LeavesCount b before now → LeavesCount a first now
counted_twice None b first before now same p q = λ told. absurd (none_told told)
counted_twice (Some x) None first before now same p q = absurd same
counted_twice (Some x) (Some y) first before now same p q = λ told. q told ∙ p told

pub fault_leaves : (error : FileError) (a b : Option Held) (first before now : ℕ) → Told SameFiles a b → LeavesCount a first before → FaultLeaves error b before now → FaultLeaves error a first now
fault_leaves files.Failed a b first before now same p q = tt
fault_leaves files.Missing a b first before now same p q = counted_twice a b first before now same p q
fault_leaves files.TooLong a b first before now same p q = counted_twice a b first before now same p q
fault_leaves files.OutOfMemory a b first before now same p q = counted_twice a b first before now same p q

pub error_leaves : (a b : Option Held) (first before now : ℕ) (error : LoadError) → Told SameFiles a b → LeavesCount a first before → ErrorLeaves b before now error → ErrorLeaves a first now error
error_leaves a b first before now (File name error) same p q = fault_leaves error a b first before now same p q
error_leaves a b first before now (Config error) same p q = counted_twice a b first before now same p q
error_leaves a b first before now (Parse file error) same p q = counted_twice a b first before now same p q
error_leaves a b first before now OutOfMemory same p q = tt

pub read_before : (a b : Option Held) (names : List Named) (texts : List (List ℕ)) → Told SameFiles a b → AreRead b names texts → AreRead a names texts
read_before a b [] [] same read = tt
read_before a b [] (t ∷ ts) same read = absurd read
read_before a b (n ∷ ns) [] same read = absurd read
read_before a b (n ∷ ns) (t ∷ ts) same read = (content_before a b n.name t same read.0, read.1, read_before a b ns ts same read.2)

pub read_more : (held : Option Held) (names : List Named) (texts : List (List ℕ)) (n : Named) (t : List ℕ) → AreRead held names texts → HasContent held n.name t → length t ≤ source_limit → AreRead held (names ++ n ∷ []) (texts ++ t ∷ [])
read_more held [] [] n t read content short = (content, short, tt)
read_more held [] (u ∷ ts) n t read content short = absurd read
read_more held (m ∷ ns) [] n t read content short = absurd read
read_more held (m ∷ ns) (u ∷ ts) n t read content short = (read.0, read.1, read_more held ns ts n t read.2 content short)

-- a fault that came after others had not
pub fault_before : (limit : ℕ) (name : List ℕ) (a b : Option Held) (first before now : ℕ) (error : FileError) → Told SameFiles a b → first ≤ before → ReadingFault limit name b before now error → ReadingFault limit name a first now error
fault_before limit name a b first before now files.Failed same le fault = omega arith
fault_before limit name None None first before now files.Missing same le fault = omega arith
fault_before limit name None (Some y) first before now files.Missing same le fault = absurd same
fault_before limit name (Some x) None first before now files.Missing same le fault = absurd same
fault_before limit name (Some x) (Some y) first before now files.Missing same le fault = sym (same name) ∙ fault
fault_before limit name None None first before now files.TooLong same le fault = omega arith
fault_before limit name None (Some y) first before now files.TooLong same le fault = absurd same
fault_before limit name (Some x) None first before now files.TooLong same le fault = absurd same
fault_before limit name (Some x) (Some y) first before now files.TooLong same le fault = subst (IsLonger limit) (same name) fault
fault_before limit name a b first before now files.OutOfMemory same le fault = absurd fault

pub stops_reading : (held : Option Held) (before now : ℕ) (first : List Named) (next : Named) (rest : List Named) (texts : List (List ℕ)) (error : LoadError) → AreRead held first texts → WasNotRead source_limit next.name held before now error → OneWasNotRead held before now (first ++ next ∷ rest) error
stops_reading held before now first next rest texts (File name error) read cause = record { first = first; next = next; rest = rest; texts = texts; order = refl; read = read; same = cause.0; fault = cause.1 }
stops_reading held before now first next rest texts (Config error) read cause = absurd cause
stops_reading held before now first next rest texts (Parse file error) read cause = absurd cause
stops_reading held before now first next rest texts OutOfMemory read cause = tt

pub unread_before : (limit : ℕ) (name : List ℕ) (a b : Option Held) (first before now : ℕ) (error : LoadError) → Told SameFiles a b → first ≤ before → WasNotRead limit name b before now error → WasNotRead limit name a first now error
unread_before limit name a b first before now (File n error) same le cause = (cause.0, fault_before limit name a b first before now error same le cause.1)
unread_before limit name a b first before now (Config error) same le cause = absurd cause
unread_before limit name a b first before now (Parse file error) same le cause = absurd cause
unread_before limit name a b first before now OutOfMemory same le cause = tt

-- ---- one file of a list

first_part : (names : List SourceName) (i : ℕ) (x : SourceName) → i < length names → x ≡ get_or names i x → source_files (take (i + 1) names) ≡ source_files (take i names) ++ source_file x ∷ []
first_part names i x less is =
    let whole : take (i + 1) names ≡ take i names ++ x ∷ [] = take_more names i x less ∙ ap (λ (y : SourceName). take i names ++ y ∷ []) (sym is) in
    ap source_files whole ∙ map-append source_file (take i names) (x ∷ [])

pub next_read : (held : Option Held) (names : List SourceName) (i : ℕ) (x : SourceName) (name : List ℕ) (texts new : List SourceText) (t : SourceText) → i < length names → x ≡ get_or names i x → name ≡ x.name.now → new ≡ texts ++ t ∷ []
    → AreRead held (source_files (take i names)) (texts_of texts) → HasContent held name t.bytes.items → length t.bytes.items ≤ source_limit → AreRead held (source_files (take (i + 1) names)) (texts_of new)
next_read held names i x name texts new t less is same pushed read content short =
    let more = read_more held (source_files (take i names)) (texts_of texts) (source_file x) t.bytes.items read (subst (λ n. HasContent held n t.bytes.items) same content) short in
    let all : texts_of new ≡ texts_of texts ++ t.bytes.items ∷ [] = ap texts_of pushed ∙ map-append (λ (s : SourceText). s.bytes.items) texts (t ∷ []) in
    subst (λ ns. AreRead held ns (texts_of new)) (sym (first_part names i x less is)) (subst (AreRead held (source_files (take i names) ++ source_file x ∷ [])) (sym all) more)

split : (names : List SourceName) (i : ℕ) (x : SourceName) → i < length names → x ≡ get_or names i x → source_files names ≡ source_files (take i names) ++ source_file x ∷ source_files (drop (suc i) names)
split names i x less is =
    let rest : drop i names ≡ x ∷ drop (suc i) names = drop-cons names i x less ∙ ap (λ (y : SourceName). y ∷ drop (suc i) names) (sym is) in
    let whole : names ≡ take i names ++ x ∷ drop (suc i) names = sym (take-append-drop i names) ∙ ap (λ l. take i names ++ l) rest in
    ap source_files whole ∙ map-append source_file (take i names) (x ∷ drop (suc i) names)

pub stops_here : (a b : Option Held) (first before now : ℕ) (names : List SourceName) (i : ℕ) (x : SourceName) (name : List ℕ) (texts : List SourceText) (error : LoadError) → i < length names → x ≡ get_or names i x → name ≡ x.name.now
    → Told SameFiles a b → first ≤ before → AreRead a (source_files (take i names)) (texts_of texts) → WasNotRead source_limit name b before now error → OneWasNotRead a first now (source_files names) error
stops_here a b first before now names i x name texts error less is same told le read cause =
    let early = unread_before source_limit x.name.now a b first before now error told le (subst (λ n. WasNotRead source_limit n b before now error) same cause) in
    subst (λ ns. OneWasNotRead a first now ns error) (sym (split names i x less is)) (stops_reading a first now (source_files (take i names)) (source_file x) (source_files (drop (suc i) names)) (texts_of texts) error read early)
