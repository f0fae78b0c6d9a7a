use Rattle.std.proofs.Common.{subst, sym}
use Rattle.fx_cmd_load.specs.Named.{from_library}
use Rattle.fx_cmd_load.specs.Programs.{UnparsedCause, ProgramLeaves}
use Rattle.fx_cmd_load.proofs.Causes.{unparsed, unloaded_leaves}
use Rattle.fx_cmd_load.proofs.checking.parsed.Goals as goal

pub returns-in-Err-clause-cause : goal.returns-in-Err-clause-cause
returns-in-Err-clause-cause g c =
    let held = g.F.Files.held c.args.files.now in
    let before = g.F.Files.faults c.args.files.now in
    let now = g.F.Files.faults c.load_sources.new.files in
    let names = from_library 0 c.args.config.now.libraries in
    subst (UnparsedCause held before now names) (sym c.unloaded.ensures)
    (unparsed held before now names c.in-Err.error c.in-Err.ensures.cause)

pub returns-in-Err-clause-counted : goal.returns-in-Err-clause-counted
returns-in-Err-clause-counted g c =
    let held = g.F.Files.held c.args.files.now in
    let before = g.F.Files.faults c.args.files.now in
    let now = g.F.Files.faults c.load_sources.new.files in
    subst (ProgramLeaves held before now) (sym c.unloaded.ensures)
    (unloaded_leaves held before now c.in-Err.error c.in-Err.ensures.counted)
