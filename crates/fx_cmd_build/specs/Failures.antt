-- The status and the line where no image was written.
use Rattle.std.specs.Prelude.{ℕ, List, codes}
use Rattle.fx_base.specs.declared.files.FileError.TheVariants as files
use Rattle.fx_cmd_base.specs.ProgramWords.{program_status, program_words}
use Rattle.fx_cmd_base.specs.RefusalWords.{numbered, grants_refusal, place_refusal, file_fault}
use Rattle.fx_cmd_build.specs.declared.building.Unbuilt.{Unbuilt}
use Rattle.fx_cmd_build.specs.declared.building.Unbuilt.TheVariants as unbuilt
use Rattle.fx_cmd_build.specs.declared.failure.BuildFailure.{BuildFailure}
use Rattle.fx_cmd_build.specs.declared.failure.BuildFailure.TheVariants.{Program, Mechanism, Image}
use Rattle.fx_cmd_build.specs.declared.failure.BuildFailure.TheVariants.{WriteFailed, OutOfMemory}

abbrev pub unbuilt_status : Unbuilt → ℕ
unbuilt_status (unbuilt.Grants error) = 3
unbuilt_status (unbuilt.Place error) = 3
unbuilt_status (unbuilt.CodeTooLong bytes) = 3
unbuilt_status unbuilt.OutOfMemory = 6

abbrev pub failure_status : BuildFailure → ℕ
failure_status (Program error) = program_status error
failure_status Mechanism = 3
failure_status (Image error) = unbuilt_status error
failure_status WriteFailed = 4
failure_status OutOfMemory = 6

abbrev pub unbuilt_words : Unbuilt → List ℕ
unbuilt_words (unbuilt.Grants error) = grants_refusal error
unbuilt_words (unbuilt.Place error) = place_refusal error
unbuilt_words (unbuilt.CodeTooLong bytes) = numbered (codes "refused: link CodeTooLong") bytes
unbuilt_words unbuilt.OutOfMemory = codes "out of memory"

-- A line tells the image's name where the files failed at it.
abbrev pub failure_words : (image : List ℕ) → BuildFailure → List ℕ
failure_words image (Program error) = program_words error
failure_words image Mechanism = codes "refused: early Config"
failure_words image (Image error) = unbuilt_words error
failure_words image WriteFailed = file_fault image files.Failed
failure_words image OutOfMemory = codes "out of memory"
