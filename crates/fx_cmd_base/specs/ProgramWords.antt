-- The status and the words where there is no checked program.
use Rattle.std.specs.Prelude.{ℕ, List, codes}
use Rattle.fx_cmd_load.specs.declared.program_error.ProgramError.{ProgramError}
use Rattle.fx_cmd_load.specs.declared.program_error.ProgramError.TheVariants.{File, Config, Parse, Types, OutOfMemory}
use Rattle.fx_cmd_base.specs.RefusalWords.{config_refusal, file_fault, parse_refusal, types_refusal}

abbrev pub program_status : ProgramError → ℕ
program_status (File name error) = 4
program_status (Config error) = 3
program_status (Parse file error) = 3
program_status (Types kind declaration) = 3
program_status OutOfMemory = 6

abbrev pub program_words : ProgramError → List ℕ
program_words (File name error) = file_fault name error
program_words (Config error) = config_refusal error
program_words (Parse file error) = parse_refusal file error
program_words (Types kind declaration) = types_refusal kind declaration
program_words OutOfMemory = codes "out of memory"
