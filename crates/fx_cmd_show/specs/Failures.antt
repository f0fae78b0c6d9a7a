-- The status and the line of an image that was not shown.
use Rattle.std.specs.Prelude.{ℕ, List, codes}
use Rattle.fx_cmd_run.specs.Lines.{no_image_words, unbegun_status}
use Rattle.fx_cmd_show.specs.declared.failure.Unshown.{Unshown}
use Rattle.fx_cmd_show.specs.declared.failure.Unshown.TheVariants.{NoImage, WriteFault, OutOfMemory}

abbrev pub unshown_status : Unshown → ℕ
unshown_status (NoImage why) = unbegun_status why
unshown_status WriteFault = 5
unshown_status OutOfMemory = 6

abbrev pub unshown_words : List ℕ → Unshown → List ℕ
unshown_words name (NoImage why) = no_image_words name why
unshown_words name WriteFault = codes "write fault"
unshown_words name OutOfMemory = codes "out of memory"
