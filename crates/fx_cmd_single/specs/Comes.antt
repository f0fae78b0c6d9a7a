-- What the command `single` comes to.
use Rattle.std.specs.Prelude.{ℕ, List, Option, Result, Ok, Err}
use Rattle.fx_base.specs.Told.{Told}
use Rattle.fx_base.specs.declared.device_op.DeviceOp.{DeviceOp}
use Rattle.fx_device.specs.Rules.{Meaning}
use Rattle.fx_config.specs.declared.configuration.Config.{Config}
use Rattle.fx_c_ast.specs.declared.checked.TProgram.{TProgram}
use Rattle.fx_c_mean_model.specs.Programs.{program_of}
use Rattle.fx_grants.specs.GrantSets.{merged_of}
use Rattle.fx_c_mean.specs.Rights.{rights_of}
use Rattle.fx_cmd_load.specs.declared.program_error.ProgramError.{ProgramError}
use Rattle.fx_cmd_load.specs.Reading.{LeavesCount}
use Rattle.fx_cmd_load.specs.Programs.{IsProgramOf, ProgramCause, ProgramLeaves}
use Rattle.fx_cmd_base.specs.Streams.{Streams, Untouched}
use Rattle.fx_cmd_single.specs.declared.outcome.Outcome.{Outcome}
use Rattle.fx_cmd_single.specs.Ran.{RunsTo, Output, Input}
use Rattle.fx_cmd_single.specs.Verdicts.{IsCalled}
use Rattle.fx_cmd_single.specs.Words.{SingleGiven, budget_of}
use Rattle.fx_cmd_single.specs.declared.verdict.Verdict.{Verdict}

-- A checked program was run with all its libraries in one compartment and these devices in their boxes, as long
-- as the cost of its steps was below a budget. What it came to is the verdict.
pub record RunsMerged (budget : ℕ) (boxes : List (Option Meaning)) (before after : Streams) (config : Config) (program : TProgram) (verdict : Verdict) : Type 0 where
  pub outcome : Outcome
  pub cost : ℕ
  pub transcript : List DeviceOp
  pub ran : RunsTo (program_of program) (rights_of (merged_of program config)) budget boxes before.input_faults after.input_faults before.output_faults after.output_faults outcome cost transcript
  pub output : Told (Output outcome transcript) before.taken after.taken
  pub input : Told (Input outcome transcript) before.left after.left
  pub called : IsCalled outcome cost budget verdict

-- The program of the configuration under this name was run.
pub record RunsProgram (given : SingleGiven) (boxes : List (Option Meaning)) (before after : Streams) (verdict : Verdict) : Type 0 where
  pub config : Config
  pub program : TProgram
  pub loaded : IsProgramOf given.config before.held config program
  -- No file failed, and none is read behind the loading.
  pub counted : LeavesCount before.held before.file_faults after.file_faults
  pub run : RunsMerged (budget_of given) boxes before after config program verdict

-- There is no checked program, for its cause, and neither input nor output was touched.
pub record NotBegun (given : SingleGiven) (before after : Streams) (error : ProgramError) : Type 0 where
  pub why : ProgramCause given.config before.held before.file_faults after.file_faults error
  pub counted : ProgramLeaves before.held before.file_faults after.file_faults error
  pub untouched : Untouched before after

abbrev pub Comes : SingleGiven → List (Option Meaning) → Streams → Streams → Result Verdict ProgramError → Type 0
Comes given boxes before after (Ok verdict) = RunsProgram given boxes before after verdict
Comes given boxes before after (Err error) = NotBegun given before after error
