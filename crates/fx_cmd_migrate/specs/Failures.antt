-- The status and the line of an image that was not migrated.
use Rattle.std.specs.Prelude.{ℕ, List, codes}
use Rattle.fx_base.specs.declared.files.FileError.TheVariants as files
use Rattle.fx_cmd_base.specs.RefusalWords.{file_fault}
use Rattle.fx_cmd_run.specs.Lines.{no_image_words, unbegun_status}
use Rattle.fx_cmd_migrate.specs.declared.failure.Unmigrated.{Unmigrated}
use Rattle.fx_cmd_migrate.specs.declared.failure.Unmigrated.TheVariants.{NoImage, WriteFailed}
use Rattle.fx_cmd_migrate.specs.declared.failure.Unmigrated.TheVariants.{OutOfMemory}

abbrev pub unmigrated_status : Unmigrated → ℕ
unmigrated_status (NoImage why) = unbegun_status why
unmigrated_status WriteFailed = 4
unmigrated_status OutOfMemory = 6

-- A line tells the file that was at fault: the old one at reading, the new one at writing.
abbrev pub unmigrated_words : (old new : List ℕ) → Unmigrated → List ℕ
unmigrated_words old new (NoImage why) = no_image_words old why
unmigrated_words old new WriteFailed = file_fault new files.Failed
unmigrated_words old new OutOfMemory = codes "out of memory"
