-- What rights and grants say of one access.
use Rattle.std.specs.Prelude.{◌≡◌, ℕ, Bool}
use Rattle.fx_config.specs.declared.configuration.Config.{Config}
use Rattle.fx_c_ast.specs.declared.checked.TProgram.{TProgram}
use Rattle.fx_grants.specs.declared.grants.Grants.{Grants}
use Rattle.fx_grants.specs.declared.grants.Place as grants
use Rattle.fx_grants.specs.declared.grants.Place.TheVariants as places
use Rattle.fx_grants.specs.GrantSets.{merged_of, may_of}
use Rattle.fx_c_mean_blocks.specs.declared.block.Place.{Place}
use Rattle.fx_c_mean_blocks.specs.declared.block.Place.TheVariants.{Global, Literal, Local}
use Rattle.fx_c_mean_model.specs.Programs.{Program, program_of}
use Rattle.fx_c_mean_model.specs.Rights.{may}
use Rattle.fx_c_mean.specs.Rights.{rights_of}

-- an object of a program, as grants name it
abbrev pub place_of : Place → grants.Place
place_of (Global n) = places.Global n
place_of (Literal n) = places.Literal n
place_of (Local f local) = places.Local f local

-- of one program and configuration, where all compartments are merged into one
abbrev pub SameMerged : Type 0
SameMerged = (p : TProgram) (k : Config) (c : ℕ) (place : Place) (write : Bool) → may (program_of p) (rights_of (merged_of p k)) c place write ≡ may_of (merged_of p k) c (place_of place) write
