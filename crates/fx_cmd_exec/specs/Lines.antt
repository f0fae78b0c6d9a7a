-- The names of the files that the building of a program of constant output reads and writes.
use Rattle.std.specs.Prelude.{ℕ, List, codes}
use Rattle.fx_cmd_base.specs.Words.{ExecGiven}
use Rattle.fx_cmd_exec.specs.declared.unbuilt.Which.{Which}
use Rattle.fx_cmd_exec.specs.declared.unbuilt.Which.TheVariants as which

-- The source's name.
abbrev pub source_name : List ℕ
source_name = codes "a.c"

-- The name of one of the files of the building.
abbrev pub name_of : ExecGiven → Which → List ℕ
name_of given which.Config = given.config
name_of given which.Source = source_name
name_of given which.Image = given.run.image
