use Rattle.std.proofs.lemmas.Result.{err_from_is_err_and}
use Rattle.fx_cmd_load.proofs.Few.{few}
use Rattle.fx_cmd_load.proofs.Work.{configuration_leaves}
use Rattle.fx_cmd_load.proofs.configured.read_configuration.Goals as goal

pub returns-in_err-config-clause-counted : goal.returns-in_err-config-clause-counted
returns-in_err-config-clause-counted g c =
    let p = err_from_is_err_and c.from_residual-in_err-config.result c.from_residual-in_err-config.ensures.1 in
    rw (p.1, p.2) (configuration_leaves c.deref.result.now (g.F.Files.held c.args.files.now) (g.F.Files.faults c.args.files.now) (g.F.Files.faults c.read_file.new.files) c.in_err-config.field-0.0 c.in_err-config.ensures.cause c.in_ok-text.ensures.counted)

pub returns-clause-few : goal.returns-clause-few
returns-clause-few g c = few c.deref.result.now c.in_ok-config.config c.in_ok-config.ensures.means
