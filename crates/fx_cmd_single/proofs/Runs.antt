-- The run of a program in one compartment, from what its steps come to.
use Rattle.std.proofs.Common.{◌≡◌, ℕ, false, List, [], Option, refl, ap, sym, subst}
use Rattle.std.specs.Prelude.{IfSome}
use Rattle.fx_base.specs.Told.{Told}
use Rattle.fx_base.specs.declared.device_op.DeviceOp.{DeviceOp}
use Rattle.fx_device.specs.Rules.{Meaning}
use Rattle.fx_config.specs.declared.configuration.Config.{Config}
use Rattle.fx_c_ast.specs.declared.checked.TProgram.{TProgram}
use Rattle.fx_c_mean_model.specs.declared.end.End.{End}
use Rattle.fx_c_mean_model.specs.declared.rights.Rights.{Rights}
use Rattle.fx_c_mean_model.specs.Laws.{IsNoDenial}
use Rattle.fx_c_mean_model.specs.Programs.{Program, program_of}
use Rattle.fx_c_mean_model.specs.Steps.{extra, first_state}
use Rattle.fx_c_mean_model.specs.Expected.{expected}
use Rattle.fx_outcomes.specs.Runs as runs
use Rattle.fx_grants.specs.GrantSets.{merged_of}
use Rattle.fx_c_mean.specs.Rights.{rights_of}
use Rattle.fx_c_mean_law.specs.Counting.{answers_of}
use Rattle.fx_c_mean_law.proofs.Reaching.{undenied, unguarded_free}
use Rattle.fx_cmd_single.specs.declared.outcome.Outcome.{Outcome}
use Rattle.fx_cmd_single.specs.declared.outcome.Outcome.TheVariants as outcomes
use Rattle.fx_cmd_single.specs.Ran.{RunsTo, Output, Input}
use Rattle.fx_cmd_single.proofs.Moments.{nothing_ran}
use Rattle.fx_cmd_single.specs.Verdicts.{IsUndenied, IsCalled}
use Rattle.fx_cmd_load.specs.declared.program_error.ProgramError.{ProgramError}
use Rattle.fx_cmd_load.specs.Reading.{LeavesCount}
use Rattle.fx_cmd_load.specs.Programs.{IsProgramOf, ProgramCause, ProgramLeaves}
use Rattle.fx_cmd_base.specs.Streams.{Streams, Untouched}
use Rattle.fx_cmd_single.specs.Words.{SingleGiven, budget_of}
use Rattle.fx_cmd_single.specs.Comes.{RunsMerged, RunsProgram, NotBegun}
use Rattle.fx_cmd_single.specs.declared.verdict.Verdict.{Verdict}
use Rattle.fx_cmd_single.specs.declared.verdict.Verdict.TheVariants.{OutOfMemory}

-- no run under plain calls ends by a denial
never_denied : (p : Program) (r : Rights) (answers : List ℕ) (k : ℕ) → r.guarded ≡ false → IfSome (expected p r answers k).finish IsNoDenial
never_denied p r answers k plain = undenied p r (unguarded_free p r plain) k (extra p (first_state p)) (record { state = first_state p; answers = answers })

pub free : (p : Program) (r : Rights) (budget : ℕ) (boxes : List (Option Meaning)) (i l o f : ℕ) (outcome : Outcome) (cost : ℕ) (made : List DeviceOp) → r.guarded ≡ false → RunsTo p r budget boxes i l o f outcome cost made → IsUndenied outcome
free p r budget boxes i l o f (outcomes.Ended e) cost made plain ran =
    subst (λ (x : Option End). IfSome x IsNoDenial) (ap (λ (x : runs.Outcome DeviceOp End). x.finish) ran.came.expected_is) (never_denied p r (answers_of made) ran.spent plain)
free p r budget boxes i l o f outcomes.Spent cost made plain ran = tt
free p r budget boxes i l o f (outcomes.Device d) cost made plain ran = tt
free p r budget boxes i l o f outcomes.ReadFault cost made plain ran = tt
free p r budget boxes i l o f outcomes.WriteFault cost made plain ran = tt
free p r budget boxes i l o f outcomes.OutOfMemory cost made plain ran = tt

-- rights in one compartment are those of plain calls
pub merged_plain : (p : TProgram) (k : Config) (r : Rights) → r ≡ rights_of (merged_of p k) → r.guarded ≡ false
merged_plain p k r is = ap (λ (x : Rights). x.guarded) is

pub runs_merged : (budget : ℕ) (boxes : List (Option Meaning)) (before after : Streams) (k : Config) (p : TProgram) (r : Rights) (outcome : Outcome) (cost : ℕ) (made : List DeviceOp) (verdict : Verdict) → r ≡ rights_of (merged_of p k)
    → RunsTo (program_of p) r budget boxes before.input_faults after.input_faults before.output_faults after.output_faults outcome cost made → Told (Output outcome made) before.taken after.taken → Told (Input outcome made) before.left after.left → IsCalled outcome cost budget verdict
    → RunsMerged budget boxes before after k p verdict
runs_merged budget boxes before after k p r outcome cost made verdict is ran put read called = record {
  outcome = outcome;
  cost = cost;
  transcript = made;
  ran = subst (λ (x : Rights). RunsTo (program_of p) x budget boxes before.input_faults after.input_faults before.output_faults after.output_faults outcome cost made) is ran;
  output = put;
  input = read;
  called = called;
}

-- no memory was there for the rights
pub not_merged : (budget : ℕ) (boxes : List (Option Meaning)) (before after : Streams) (k : Config) (p : TProgram) → after.taken ≡ before.taken → after.left ≡ before.left → RunsMerged budget boxes before after k p OutOfMemory
not_merged budget boxes before after k p kept unread =
    let d = nothing_ran (program_of p) (rights_of (merged_of p k)) budget boxes before.taken before.left before.input_faults after.input_faults before.output_faults after.output_faults 0 [] refl refl in
    record {
      outcome = outcomes.OutOfMemory;
      cost = 0;
      transcript = [];
      ran = d.ran;
      output = subst (Told (Output outcomes.OutOfMemory []) before.taken) (sym kept) d.output_is;
      input = subst (Told (Input outcomes.OutOfMemory []) before.left) (sym unread) d.input_is;
      called = refl;
    }

-- the program of the configuration was run within the budget that the words give
pub runs_program : (given : SingleGiven) (boxes : List (Option Meaning)) (before after : Streams) (k : Config) (p : TProgram) (budget : ℕ) (verdict : Verdict) → budget ≡ budget_of given
    → IsProgramOf given.config before.held k p → LeavesCount before.held before.file_faults after.file_faults → RunsMerged budget boxes before after k p verdict → RunsProgram given boxes before after verdict
runs_program given boxes before after k p budget verdict is loaded counted run = record {
  config = k;
  program = p;
  loaded = loaded;
  counted = counted;
  run = subst (λ b. RunsMerged b boxes before after k p verdict) is run;
}

-- there is no checked program, and neither input nor output was touched
pub not_begun : (given : SingleGiven) (before after : Streams) (error : ProgramError) → ProgramCause given.config before.held before.file_faults after.file_faults error
    → ProgramLeaves before.held before.file_faults after.file_faults error → Untouched before after → NotBegun given before after error
not_begun given before after error why counted untouched = record { why = why; counted = counted; untouched = untouched }
