-- What the words say.
use Rattle.std.specs.Prelude.{ℕ, Bool, ◌&&◌, ◌||◌, if◌then◌else◌, List, [], ◌∷◌, Option, None}
use Rattle.std.specs.Prelude.{Some, codes, bytes_eq}
use Rattle.fx_cmd_base.specs.Words.{RunGiven, ExecGiven, is_file_name, run_words, exec_words}
use Rattle.fx_cmd_base.specs.Views.{run_given, exec_given}
use Rattle.fx_cmd_single.specs.Words.{SingleGiven, single_words, single_given}
use Rattle.flexos.specs.declared.command.Command.{Command}
use Rattle.flexos.specs.declared.command.Command.TheVariants as commands
use Rattle.flexos.specs.declared.command.Migrate.{Migrate as Migrating}
use Rattle.flexos.specs.declared.command.Build.{Build as Building}

-- The names of `migrate OLD NEW`.
pub record MigrateGiven : Type 0 where
  pub old : List ℕ
  pub new : List ℕ

-- The names of `build CONF IMAGE`.
pub record BuildGiven : Type 0 where
  pub config : List ℕ
  pub image : List ℕ

-- A command with what it is given, or none, which is usage.
pub data Said : Type 0 where
  Exec : (given : ExecGiven) → Said
  Run : (given : RunGiven) → Said
  Single : (given : SingleGiven) → Said
  Place : (config : List ℕ) → Said
  Build : (given : BuildGiven) → Said
  Show : (image : List ℕ) → Said
  Migrate : (given : MigrateGiven) → Said
  Help : Said
  Version : Said
  Usage : Said

-- A command of one file's name: the name in `command NAME`.
abbrev pub named_words : (command : List ℕ) → List (List ℕ) → Option (List ℕ)
named_words command [] = None
named_words command (word ∷ []) = None
named_words command (word ∷ name ∷ []) =
    if bytes_eq word command && is_file_name name then Some name else None
named_words command (word ∷ name ∷ next ∷ rest) = None

-- The configuration of `place CONF`, and the image of `show IMAGE`.
abbrev pub place_words : List (List ℕ) → Option (List ℕ)
place_words words = named_words (codes "place") words

abbrev pub show_words : List (List ℕ) → Option (List ℕ)
show_words words = named_words (codes "show") words

-- The names of `migrate OLD NEW`.
abbrev pub migrate_words : List (List ℕ) → Option MigrateGiven
migrate_words [] = None
migrate_words (word ∷ []) = None
migrate_words (word ∷ old ∷ []) = None
migrate_words (word ∷ old ∷ new ∷ []) =
    if bytes_eq word (codes "migrate") && (is_file_name old && is_file_name new)
    then Some (record { old = old; new = new }) else None
migrate_words (word ∷ old ∷ new ∷ next ∷ rest) = None

-- The names of `build CONF IMAGE`.
abbrev pub build_words : List (List ℕ) → Option BuildGiven
build_words [] = None
build_words (word ∷ []) = None
build_words (word ∷ config ∷ []) = None
build_words (word ∷ config ∷ image ∷ []) =
    if bytes_eq word (codes "build") && (is_file_name config && is_file_name image)
    then Some (record { config = config; image = image }) else None
build_words (word ∷ config ∷ image ∷ next ∷ rest) = None

-- The one word of a command that writes a text.
abbrev pub is_help : List ℕ → Bool
is_help word =
    bytes_eq word (codes "help") || (bytes_eq word (codes "--help") || bytes_eq word (codes "-h"))

abbrev pub text_said : List (List ℕ) → Said
text_said [] = Usage
text_said (word ∷ []) =
    if is_help word then Help else if bytes_eq word (codes "--version") then Version else Usage
text_said (word ∷ next ∷ rest) = Usage

-- The command, where it is given, or what the words say else.
abbrev pub said_or : {A : Type 0} → (A → Said) → Option A → Said → Said
said_or command None other = other
said_or command (Some given) other = command given

-- What these words say. The first word is another for each command.
abbrev pub image_said : List (List ℕ) → Said
image_said words =
    said_or Show (show_words words) (said_or Migrate (migrate_words words) (text_said words))

abbrev pub built_said : List (List ℕ) → Said
built_said words = said_or Build (build_words words) (image_said words)

abbrev pub source_said : List (List ℕ) → Said
source_said words =
    said_or Single (single_words words) (said_or Place (place_words words) (built_said words))

abbrev pub said_by : List (List ℕ) → Said
said_by words =
    said_or Exec (exec_words words) (said_or Run (run_words words) (source_said words))

abbrev pub migrate_given : Migrating → MigrateGiven
migrate_given migrate = record { old = migrate.old.now; new = migrate.new.now }

abbrev pub build_given : Building → BuildGiven
build_given build = record { config = build.config.now; image = build.image.now }

-- What a command that was read says.
abbrev pub said_of : Option Command → Said
said_of None = Usage
said_of (Some (commands.Exec exec)) = Exec (exec_given exec)
said_of (Some (commands.Run run)) = Run (run_given run)
said_of (Some (commands.Single single)) = Single (single_given single)
said_of (Some (commands.Place place)) = Place place.config.now
said_of (Some (commands.Build build)) = Build (build_given build)
said_of (Some (commands.Show show)) = Show show.image.now
said_of (Some (commands.Migrate migrate)) = Migrate (migrate_given migrate)
said_of (Some commands.Help) = Help
said_of (Some commands.Version) = Version
