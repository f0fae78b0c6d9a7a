use Rattle.std.specs.Prelude.{◌≡◌, ◌≢◌, ℕ, ◌<◌, List, length, Option, Some, None}
use Rattle.fx_base.specs.declared.files.FileError.{FileError}
use Rattle.fx_base.specs.declared.files.FileError.TheVariants.{Failed, Missing, TooLong, OutOfMemory}

-- What stands under each name: the file's bytes, or None where no file has the name.
abbrev pub Held : Type 0
Held = List ℕ → Option (List ℕ)

-- Every file is as it was.
abbrev pub SameFiles : Held → Held → Type 0
SameFiles old new = (name : List ℕ) → new name ≡ old name

-- Every file but the named one is as it was.
abbrev pub SameElsewhere : List ℕ → Held → Held → Type 0
SameElsewhere name old new = (other : List ℕ) → other ≢ name → new other ≡ old other

-- There is a file, and it is longer than the limit.
abbrev pub IsLonger : ℕ → Option (List ℕ) → Type 0
IsLonger limit None = ⊥
IsLonger limit (Some bytes) = limit < length bytes

-- What a refused reading says of the file: Missing that there is none, TooLong that it is longer than the limit.
abbrev pub RefusesReading : ℕ → Option (List ℕ) → FileError → Type 0
RefusesReading limit file Failed = Unit {0}
RefusesReading limit file Missing = file ≡ None
RefusesReading limit file TooLong = IsLonger limit file
RefusesReading limit file OutOfMemory = Unit {0}

-- The refusals that speak of the file itself.
abbrev pub IsOfTheFile : FileError → Type 0
IsOfTheFile Failed = ⊥
IsOfTheFile Missing = Unit {0}
IsOfTheFile TooLong = Unit {0}
IsOfTheFile OutOfMemory = ⊥
