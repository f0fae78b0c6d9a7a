-- The status and the line that the command `run` ends with.
use Rattle.std.specs.Prelude.{ℕ, List, [], ◌∷◌, ◌++◌, unwrap_or, Result, Ok, Err, codes}
use Rattle.std.specs.Fmt.{decimal}
use Rattle.fx_image.specs.declared.error.ImageError.{ImageError}
use Rattle.fx_image.specs.declared.error.ImageError.TheVariants as faults
use Rattle.fx_cmd_run.specs.Verdicts.{status_of}
use Rattle.fx_cmd_run.specs.VerdictLines.{line_of}
use Rattle.fx_cmd_base.specs.RefusalWords.{file_fault}
use Rattle.fx_cmd_base.specs.Words.{RunGiven}
use Rattle.fx_cmd_run.specs.declared.command.Finished.{Finished}
use Rattle.fx_cmd_run.specs.declared.load.Unbegun.{Unbegun}
use Rattle.fx_cmd_run.specs.declared.load.Unbegun.TheVariants.{Unread, Refused, OutOfMemory}
use Rattle.fx_cmd_run.specs.declared.load.Which.{Which}
use Rattle.fx_cmd_run.specs.declared.load.Which.TheVariants as which

-- The name of one of the files that a run reads.
abbrev pub name_of : RunGiven → Which → List ℕ
name_of given which.Image = given.image
name_of given which.Schedule = unwrap_or given.options.schedule []

-- Why bytes are no image, by the cause's name and its number.
abbrev pub image_words : ImageError → List ℕ
image_words faults.Magic = codes "refused: image Magic"
image_words faults.Version = codes "refused: image Version"
image_words faults.Short = codes "refused: image Short"
image_words faults.Extra = codes "refused: image Extra"
image_words (faults.Field number) = codes "refused: image Field " ++ decimal number
image_words (faults.KeySequence place) = codes "refused: image KeySequence " ++ decimal place
image_words faults.OutOfMemory = codes "out of memory"

-- Why there is no image, of the file of this name.
abbrev pub no_image_words : List ℕ → Unbegun → List ℕ
no_image_words name (Unread file error) = file_fault name error
no_image_words name (Refused error) = image_words error
no_image_words name OutOfMemory = codes "out of memory"

abbrev pub unbegun_words : RunGiven → Unbegun → List ℕ
unbegun_words given (Unread file error) = no_image_words (name_of given file) (Unread file error)
unbegun_words given (Refused error) = no_image_words given.image (Refused error)
unbegun_words given OutOfMemory = no_image_words given.image OutOfMemory

abbrev pub unbegun_status : Unbegun → ℕ
unbegun_status (Unread file error) = 4
unbegun_status (Refused error) = 3
unbegun_status OutOfMemory = 6

abbrev pub came_status : Result Finished Unbegun → ℕ
came_status (Ok done) = status_of done.verdict
came_status (Err why) = unbegun_status why

-- The line, ended by a line feed.
abbrev pub came_line : RunGiven → Result Finished Unbegun → List ℕ
came_line given (Ok done) = line_of done.image done.verdict
came_line given (Err why) = unbegun_words given why ++ 10 ∷ []
