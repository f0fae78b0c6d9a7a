use Rattle.std.proofs.Common.{subst, sym}
use Rattle.fx_cmd_load.specs.Programs.{UnconfiguredCause, ProgramLeaves}
use Rattle.fx_cmd_load.proofs.Causes.{unconfigured, unloaded_leaves}
use Rattle.fx_cmd_load.proofs.checking.load_configuration.Goals as goal

pub returns-in-Err-clause-cause : goal.returns-in-Err-clause-cause
returns-in-Err-clause-cause g c =
    let held = g.F.Files.held c.args.files.now in
    let before = g.F.Files.faults c.args.files.now in
    let now = g.F.Files.faults c.read_configuration.new.files in
    subst (UnconfiguredCause c.args.name.now held before now) (sym c.unloaded.ensures)
    (unconfigured c.args.name.now held before now c.in-Err.error c.in-Err.ensures.cause)

pub returns-in-Err-clause-counted : goal.returns-in-Err-clause-counted
returns-in-Err-clause-counted g c =
    let held = g.F.Files.held c.args.files.now in
    let before = g.F.Files.faults c.args.files.now in
    let now = g.F.Files.faults c.read_configuration.new.files in
    subst (ProgramLeaves held before now) (sym c.unloaded.ensures)
    (unloaded_leaves held before now c.in-Err.error c.in-Err.ensures.counted)
