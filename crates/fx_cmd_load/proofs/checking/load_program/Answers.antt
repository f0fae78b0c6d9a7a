use Rattle.std.proofs.lemmas.Result.{err_from_is_err_and}
use Rattle.fx_cmd_load.specs.Named.{from_library}
use Rattle.fx_cmd_load.proofs.Causes.{configuration_stops, sources_stop}
use Rattle.fx_cmd_load.proofs.Causes.{given_before, program_leaves}
use Rattle.fx_cmd_load.proofs.Stages.{counted_twice}
use Rattle.fx_cmd_load.proofs.checking.load_program.Goals as goal

pub returns-in_err-config-clause-cause : goal.returns-in_err-config-clause-cause
returns-in_err-config-clause-cause g c =
    let p = err_from_is_err_and c.from_residual.result
    c.from_residual.ensures.1 in
    rw (p.1, p.2) (configuration_stops c.args.name.now (g.F.Files.held c.args.files.now)
    (g.F.Files.faults c.args.files.now) (g.F.Files.faults c.load_configuration.new.files)
    c.in_err-config.field-0.0 c.in_err-config.ensures.cause)

pub returns-in_err-program-clause-cause : goal.returns-in_err-program-clause-cause
returns-in_err-program-clause-cause g c =
    let p = err_from_is_err_and c.from_residual-in_err-program.result
    c.from_residual-in_err-program.ensures.1 in
    rw (p.1, p.2) (sources_stop c.args.name.now (g.F.Files.held c.args.files.now)
    (g.F.Files.held c.load_configuration.new.files) (g.F.Files.faults c.args.files.now)
    (g.F.Files.faults c.load_configuration.new.files) (g.F.Files.faults c.check_sources.new.files)
    c.in_ok-config.config c.in_err-program.field-0.0 c.in_ok-config.ensures.keeps
    c.in_ok-config.ensures.later c.in_ok-config.ensures.configured
    c.in_err-program.ensures.cause)

pub returns-in_err-program-clause-counted : goal.returns-in_err-program-clause-counted
returns-in_err-program-clause-counted g c =
    let p = err_from_is_err_and c.from_residual-in_err-program.result
    c.from_residual-in_err-program.ensures.1 in
    rw (p.1, p.2) (program_leaves (g.F.Files.held c.args.files.now)
    (g.F.Files.held c.load_configuration.new.files) (g.F.Files.faults c.args.files.now)
    (g.F.Files.faults c.load_configuration.new.files) (g.F.Files.faults c.check_sources.new.files)
    c.in_err-program.field-0.0 c.in_ok-config.ensures.keeps c.in_ok-config.ensures.counted
    c.in_err-program.ensures.counted)

pub returns-clause-counted : goal.returns-clause-counted
returns-clause-counted g c =
    counted_twice (g.F.Files.held c.args.files.now) (g.F.Files.held c.load_configuration.new.files)
    (g.F.Files.faults c.args.files.now) (g.F.Files.faults c.load_configuration.new.files)
    (g.F.Files.faults c.check_sources.new.files) c.in_ok-config.ensures.keeps
    c.in_ok-config.ensures.counted c.in_ok-program.ensures.counted

pub returns-clause-program : goal.returns-clause-program
returns-clause-program g c =
    let is = c.in_ok-program.ensures.program in (
      is.0,
      (
        c.in_ok-config.ensures.configured,
        given_before (g.F.Files.held c.args.files.now)
            (g.F.Files.held c.load_configuration.new.files)
            (from_library 0 c.in_ok-config.config.libraries) is.0 c.in_ok-config.ensures.keeps is.1,
      ),
      is.2,
    )
