-- The source files that a configuration names, in the order in which they are read and parsed.
use Rattle.std.specs.Prelude.{ℕ, ◌+◌, List, [], ◌∷◌, ◌++◌, map}
use Rattle.fx_config.specs.declared.configuration.Library.{Library}
use Rattle.fx_cmd_load.specs.declared.named.SourceName.{SourceName}

-- a source file's name, with the number of its library
pub record Named : Type 0 where
  pub library : ℕ
  pub name : List ℕ

abbrev pub in_library : ℕ → List (List ℕ) → List Named
in_library library names = map (λ (name : List ℕ). record { library = library; name = name }) names

-- the files of the libraries from the one of a number on
abbrev pub from_library : ℕ → List Library → List Named
from_library library [] = []
from_library library (l ∷ ls) = in_library library l.files ++ from_library (library + 1) ls

abbrev pub source_file : SourceName → Named
source_file s = record { library = s.library; name = s.name.now }

abbrev pub source_files : List SourceName → List Named
source_files ss = map source_file ss
