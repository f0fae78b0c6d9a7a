-- What was read under names, and why a file was not read.
use Rattle.std.specs.Prelude.{◌≡◌, ℕ, ◌≤◌, List, [], ◌∷◌, ◌++◌, length, map, Option, Some, None, MatchOption, IfSome, IsSome}
use Rattle.fx_base.specs.Faults.{Rose}
use Rattle.fx_base.specs.Files.{Held, IsLonger}
use Rattle.fx_base.specs.declared.files.FileError.{FileError}
use Rattle.fx_base.specs.declared.files.FileError.TheVariants as files
use Rattle.fx_cmd_load.specs.declared.error.LoadError.{LoadError}
use Rattle.fx_cmd_load.specs.declared.error.LoadError.TheVariants.{File, Config, Parse, OutOfMemory}
use Rattle.fx_cmd_load.specs.declared.reading.SourceText.{SourceText}
use Rattle.fx_cmd_load.specs.Named.{Named}

-- the limits of the files that are read
abbrev pub config_limit : ℕ
config_limit = 16_777_216

abbrev pub source_limit : ℕ
source_limit = 1_048_576

-- where content is told, these bytes stand under the name
abbrev pub HasContent : Option Held → List ℕ → List ℕ → Type 0
HasContent held name bytes = IfSome held (λ files. files name ≡ Some bytes)

-- they were read, of a file that is no longer than the limit
abbrev pub WasRead : ℕ → Option Held → List ℕ → List ℕ → Type 0
WasRead limit held name bytes = HasContent held name bytes × (length bytes ≤ limit)

-- Where content is told, the count of faults is as it was. So no file that failed was read again.
abbrev pub LeavesCount : Option Held → ℕ → ℕ → Type 0
LeavesCount held before now = IsSome held → now ≡ before

-- A refusal leaves the count, unless the files failed.
abbrev pub FaultLeaves : FileError → Option Held → ℕ → ℕ → Type 0
FaultLeaves files.Failed held before now = Unit {0}
FaultLeaves _ held before now = LeavesCount held before now

-- the cause of a file's fault: the count rose, or the content is told and the file is missing or longer than
-- the limit
abbrev pub ReadingFault : ℕ → List ℕ → Option Held → ℕ → ℕ → FileError → Type 0
ReadingFault limit name held before now files.Failed = Rose before now
ReadingFault limit name held before now files.Missing = MatchOption held (Rose before now) (λ files. files name ≡ None)
ReadingFault limit name held before now files.TooLong = MatchOption held (Rose before now) (λ files. IsLonger limit (files name))
ReadingFault limit name held before now files.OutOfMemory = ⊥

-- this file's fault, or want of memory
abbrev pub WasFileError : List ℕ → FileError → LoadError → Type 0
WasFileError name fault (File n error) = (n ≡ name) × (error ≡ fault) × (fault ≡ files.OutOfMemory → ⊥)
WasFileError name fault (Config error) = ⊥
WasFileError name fault (Parse file error) = ⊥
WasFileError name fault OutOfMemory = Unit {0}

-- nothing but a file that failed changes the count, as far as memory was there to say which
abbrev pub ErrorLeaves : Option Held → ℕ → ℕ → LoadError → Type 0
ErrorLeaves held before now (File name error) = FaultLeaves error held before now
ErrorLeaves held before now OutOfMemory = Unit {0}
ErrorLeaves held before now _ = LeavesCount held before now

-- a file of this name was not read, or memory ran out
abbrev pub WasNotRead : ℕ → List ℕ → Option Held → ℕ → ℕ → LoadError → Type 0
WasNotRead limit name held before now (File n error) = (n ≡ name) × ReadingFault limit name held before now error
WasNotRead limit name held before now (Config error) = ⊥
WasNotRead limit name held before now (Parse file error) = ⊥
WasNotRead limit name held before now OutOfMemory = Unit {0}

-- the texts of the files, in order
abbrev pub AreRead : Option Held → List Named → List (List ℕ) → Type 0
AreRead held [] [] = Unit {0}
AreRead held [] (t ∷ ts) = ⊥
AreRead held (n ∷ ns) [] = ⊥
AreRead held (n ∷ ns) (t ∷ ts) = HasContent held n.name t × (length t ≤ source_limit) × AreRead held ns ts

-- the files before one were read, and that one was not; or memory ran out
pub record StopsReading (held : Option Held) (before now : ℕ) (names : List Named) (name : List ℕ) (error : FileError) : Type 0 where
  pub first : List Named
  pub next : Named
  pub rest : List Named
  pub texts : List (List ℕ)
  pub order : names ≡ first ++ next ∷ rest
  pub read : AreRead held first texts
  pub same : name ≡ next.name
  pub fault : ReadingFault source_limit next.name held before now error

abbrev pub OneWasNotRead : Option Held → ℕ → ℕ → List Named → LoadError → Type 0
OneWasNotRead held before now names (File name error) = StopsReading held before now names name error
OneWasNotRead held before now names (Config error) = ⊥
OneWasNotRead held before now names (Parse file error) = ⊥
OneWasNotRead held before now names OutOfMemory = Unit {0}

abbrev pub texts_of : List SourceText → List (List ℕ)
texts_of ss = map (λ (s : SourceText). s.bytes.items) ss
