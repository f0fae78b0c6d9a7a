-- The refusals of what was loaded, as refusals of a program.
use Rattle.fx_cmd_load.specs.declared.error.LoadError.{LoadError}
use Rattle.fx_cmd_load.specs.declared.error.LoadError.TheVariants as load
use Rattle.fx_cmd_load.specs.declared.program_error.ProgramError.{ProgramError}
use Rattle.fx_cmd_load.specs.declared.program_error.ProgramError.TheVariants.{File, Config, Parse, OutOfMemory}

abbrev pub unloaded : LoadError → ProgramError
unloaded (load.File name error) = File name error
unloaded (load.Config error) = Config error
unloaded (load.Parse file error) = Parse file error
unloaded load.OutOfMemory = OutOfMemory
