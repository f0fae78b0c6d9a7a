-- The table of commands: what each does, and what its status 0 means.
use Rattle.std.specs.Prelude.{◌≡◌, ◌≢◌, ℕ, List, Option, codes}
use Rattle.fx_device.specs.Rules.{Meaning}
use Rattle.fx_cmd_base.specs.Streams.{Streams}
use Rattle.fx_cmd_base.specs.Ends.{ErrorStream, Ended}
use Rattle.fx_cmd_build.specs.Builds.{DoesBuild, DoneBuild}
use Rattle.fx_cmd_exec.specs.Does.{DoesExec, DoneExec}
use Rattle.fx_cmd_run.specs.Reports.{Does}
use Rattle.fx_cmd_single.specs.Reports.{DoesSingle}
use Rattle.fx_cmd_show.specs.Shows.{DoesShow, DoneShow}
use Rattle.fx_cmd_migrate.specs.Migrates.{DoesMigrate, DoneMigrate}
use Rattle.flexos.specs.Words.{Said, Exec, Run, Single, Place, Build, Show, Migrate, Help, Version}
use Rattle.flexos.specs.Words.{Usage, said_by}
use Rattle.flexos.specs.Places.{DoesPlace, DonePlace}
use Rattle.flexos.specs.Runs.{DoneRun}
use Rattle.flexos.specs.Singles.{DoneSingle}
use Rattle.flexos.specs.Texts.{help_text, version_text, DoesText, DoneText}

-- Each command does what its definition says, and has not the status of usage. Words that are no
-- command have its status and its line, and touch neither files nor input nor output.
abbrev pub Performs : Said → List (Option Meaning) → Streams → Streams → ErrorStream → ℕ → Type 0
Performs (Exec given) boxes before after err result =
    DoesExec given boxes before after result err × (result ≢ 2)
Performs (Run given) boxes before after err result =
    Does given boxes before after result err × (result ≢ 2)
Performs (Single given) boxes before after err result =
    DoesSingle given boxes before after result err × (result ≢ 2)
Performs (Place config) boxes before after err result =
    DoesPlace config before after result err × (result ≢ 2)
Performs (Build given) boxes before after err result =
    DoesBuild given.config given.image before after result err × (result ≢ 2)
Performs (Show image) boxes before after err result =
    DoesShow image before after result err × (result ≢ 2)
Performs (Migrate given) boxes before after err result =
    DoesMigrate given.old given.new before after result err × (result ≢ 2)
Performs Help boxes before after err result =
    DoesText help_text before after result err × (result ≢ 2)
Performs Version boxes before after err result =
    DoesText version_text before after result err × (result ≢ 2)
Performs Usage boxes before after err result =
    Ended 2 (codes "usage\n") result err × (after ≡ before)

-- What the words come to, by the command that they say.
abbrev pub CommandTable : List (List ℕ) → List (Option Meaning) → Streams → Streams
    → ErrorStream → ℕ → Type 0
CommandTable words boxes before after err result =
    Performs (said_by words) boxes before after err result

-- A command that ended well. `exec` wrote an image that is faithful to the source read, and the
-- output took the source's constants; the run of the image read ended by Exit; the run of the
-- program in one compartment came to an end by Exit; `place` put the placement; `build` wrote the
-- image of the configuration's sources; `show` put the image's text; `migrate` wrote the image in
-- today's version; the others put their text.
abbrev pub PerformsWell : Said → List (Option Meaning) → Streams → Streams → ErrorStream → Type 0
PerformsWell (Exec given) boxes before after err = DoneExec given boxes before after err
PerformsWell (Run given) boxes before after err = DoneRun given boxes before after err
PerformsWell (Single given) boxes before after err = DoneSingle given boxes before after err
PerformsWell (Place config) boxes before after err = DonePlace config before after err
PerformsWell (Build given) boxes before after err =
    DoneBuild given.config given.image before after err
PerformsWell (Show image) boxes before after err = DoneShow image before after err
PerformsWell (Migrate given) boxes before after err =
    DoneMigrate given.old given.new before after err
PerformsWell Help boxes before after err = DoneText help_text before after err
PerformsWell Version boxes before after err = DoneText version_text before after err
PerformsWell Usage boxes before after err = ⊥

abbrev pub Done : List (List ℕ) → List (Option Meaning) → Streams → Streams → ErrorStream → Type 0
Done words boxes before after err = PerformsWell (said_by words) boxes before after err
