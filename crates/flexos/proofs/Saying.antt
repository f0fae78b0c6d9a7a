-- What the words say, by the command that was read of them.
use Rattle.std.proofs.Common.{◌≡◌, ℕ, List, Option, Some, None, ap, ◌∙◌, sym, subst}
use Rattle.fx_device.specs.Rules.{Meaning}
use Rattle.fx_cmd_base.specs.Streams.{Streams}
use Rattle.fx_cmd_base.specs.Ends.{ErrorStream}
use Rattle.fx_cmd_base.specs.Words.{RunGiven, ExecGiven, run_words, exec_words}
use Rattle.fx_cmd_single.specs.Words.{SingleGiven, single_words}
use Rattle.flexos.specs.Words.{Said, Exec, Run, Single, Place, Build, Show, Migrate, Usage}
use Rattle.flexos.specs.Words.{BuildGiven, MigrateGiven, place_words, build_words, show_words}
use Rattle.flexos.specs.Words.{migrate_words, said_or, text_said, image_said, built_said}
use Rattle.flexos.specs.Words.{source_said, said_by}
use Rattle.flexos.specs.Table.{Performs, CommandTable, PerformsWell, Done}

-- the command that is given, or what the words say else
given_said : {A : Type 0} (command : A → Said) (given : A) (words : Option A) (other : Said) → Some given ≡ words → command given ≡ said_or command words other
given_said command given words other is = ap (λ w. said_or command w other) is

else_said : {A : Type 0} (command : A → Said) (said : Said) (words : Option A) (other : Said) → None ≡ words → said ≡ other → said ≡ said_or command words other
else_said command said words other none is = is ∙ ap (λ w. said_or command w other) none

module _ (words : List (List ℕ)) where
  pub show_said : (image : List ℕ) → Some image ≡ show_words words → Show image ≡ image_said words
  show_said image show = given_said Show image (show_words words) (said_or Migrate (migrate_words words) (text_said words)) show

  pub migrate_said : (given : MigrateGiven) → None ≡ show_words words → Some given ≡ migrate_words words → Migrate given ≡ image_said words
  migrate_said given show migrate =
      else_said Show (Migrate given) (show_words words) (said_or Migrate (migrate_words words) (text_said words)) show
      (given_said Migrate given (migrate_words words) (text_said words) migrate)

  pub text_command_said : (said : Said) → None ≡ show_words words → None ≡ migrate_words words → said ≡ text_said words → said ≡ image_said words
  text_command_said said show migrate is =
      else_said Show said (show_words words) (said_or Migrate (migrate_words words) (text_said words)) show
      (else_said Migrate said (migrate_words words) (text_said words) migrate is)

  pub single_said : (given : SingleGiven) → Some given ≡ single_words words
      → Single given ≡ source_said words
  single_said given single =
      given_said Single given (single_words words) (said_or Place (place_words words)
      (built_said words)) single

  pub place_said : (config : List ℕ) → None ≡ single_words words
      → Some config ≡ place_words words → Place config ≡ source_said words
  place_said config single place =
      else_said Single (Place config) (single_words words) (said_or Place (place_words words)
      (built_said words)) single
      (given_said Place config (place_words words) (built_said words) place)

  pub built_command_said : (said : Said) → None ≡ single_words words → None ≡ place_words words
      → said ≡ built_said words → said ≡ source_said words
  built_command_said said single place is =
      else_said Single said (single_words words) (said_or Place (place_words words)
      (built_said words)) single
      (else_said Place said (place_words words) (built_said words) place is)

  pub build_said : (given : BuildGiven) → Some given ≡ build_words words
      → Build given ≡ built_said words
  build_said given build = given_said Build given (build_words words) (image_said words) build

  pub image_command_said : (said : Said) → None ≡ build_words words → said ≡ image_said words
      → said ≡ built_said words
  image_command_said said build is =
      else_said Build said (build_words words) (image_said words) build is

  pub exec_said : (given : ExecGiven) → Some given ≡ exec_words words → Exec given ≡ said_by words
  exec_said given exec = given_said Exec given (exec_words words) (said_or Run (run_words words) (source_said words)) exec

  pub run_said : (given : RunGiven) → None ≡ exec_words words → Some given ≡ run_words words → Run given ≡ said_by words
  run_said given exec run =
      else_said Exec (Run given) (exec_words words) (said_or Run (run_words words) (source_said words)) exec
      (given_said Run given (run_words words) (source_said words) run)

  pub source_command_said : (said : Said) → None ≡ exec_words words → None ≡ run_words words → said ≡ source_said words → said ≡ said_by words
  source_command_said said exec run is =
      else_said Exec said (exec_words words) (said_or Run (run_words words) (source_said words)) exec
      (else_said Run said (run_words words) (source_said words) run is)

-- what a command comes to is what the words that say it come to
module _ (said : Said) (words : List (List ℕ)) (boxes : List (Option Meaning)) (before after : Streams) (err : ErrorStream) (result : ℕ) (is : said ≡ said_by words) where
  pub table_at : Performs said boxes before after err result → CommandTable words boxes before after err result
  table_at performs = subst (λ (s : Said). Performs s boxes before after err result) is performs

  pub done_at : PerformsWell said boxes before after err → Done words boxes before after err
  done_at done = subst (λ (s : Said). PerformsWell s boxes before after err) is done
