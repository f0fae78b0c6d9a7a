use Rattle.std.proofs.lemmas.Result.{err_from_is_err_and}
use Rattle.fx_cmd_load.specs.Named.{from_library}
use Rattle.fx_cmd_load.proofs.Causes.{given_before, sources_stop}
use Rattle.fx_cmd_build.proofs.Ways.{unplain}
use Rattle.fx_cmd_build.proofs.loading.load_plain.Goals as goal

pub returns-in_err-config-clause-cause : goal.returns-in_err-config-clause-cause
returns-in_err-config-clause-cause g c =
    let p = err_from_is_err_and c.from_residual.result c.from_residual.ensures.1 in
    rw (p.1, p.2) (unplain c.args.name.now (g.F.Files.held c.args.files.now)
    (g.F.Files.faults c.args.files.now) (g.F.Files.faults c.plain_configuration.new.files)
    c.in_err-config.field-0.0 c.in_err-config.ensures.cause)

pub returns-in-Ok-clause-program : goal.returns-in-Ok-clause-program
returns-in-Ok-clause-program g c =
    let is = c.in-Ok.ensures.program in (
      is.0,
      (
        c.in_ok-config.ensures.configured,
        given_before (g.F.Files.held c.args.files.now)
            (g.F.Files.held c.plain_configuration.new.files)
            (from_library 0 c.in_ok-config.config.libraries) is.0 c.in_ok-config.ensures.keeps is.1,
      ),
      is.2,
    )

pub returns-in-Err-clause-cause : goal.returns-in-Err-clause-cause
returns-in-Err-clause-cause g c =
    sources_stop c.args.name.now (g.F.Files.held c.args.files.now)
    (g.F.Files.held c.plain_configuration.new.files) (g.F.Files.faults c.args.files.now)
    (g.F.Files.faults c.plain_configuration.new.files)
    (g.F.Files.faults c.check_sources.new.files) c.in_ok-config.config c.in-Err.error
    c.in_ok-config.ensures.keeps c.in_ok-config.ensures.later c.in_ok-config.ensures.configured
    c.in-Err.ensures.cause
