use Rattle.std.proofs.Common.{arith}
use Rattle.std.proofs.lemmas.Result.{err_from_is_err_and}
use Rattle.fx_cmd_load.specs.Named.{from_library}
use Rattle.fx_cmd_load.proofs.Causes.{unread, broken, breaks_leave}
use Rattle.fx_cmd_load.proofs.Counting.{few_given}
use Rattle.fx_cmd_load.proofs.checking.check_sources.Goals as goal

pub checked-requires : goal.checked-requires
checked-requires g c =
    let given = c.in_ok-trees.ensures.given in
    omega (
      arith,
      few_given (g.F.Files.held c.args.files.now) c.args.config.now c.in_ok-trees.trees.items given
          c.requires,
    )

pub returns-in_err-trees-clause-cause : goal.returns-in_err-trees-clause-cause
returns-in_err-trees-clause-cause g c =
    let p = err_from_is_err_and c.from_residual.result
    c.from_residual.ensures.1 in
    rw (p.1, p.2) (unread (g.F.Files.held c.args.files.now) (g.F.Files.faults c.args.files.now)
    (g.F.Files.faults c.parsed.new.files) (from_library 0 c.args.config.now.libraries)
    c.in_err-trees.field-0.0 c.in_err-trees.ensures.cause)

pub returns-in_err-program-clause-cause : goal.returns-in_err-program-clause-cause
returns-in_err-program-clause-cause g c =
    let p = err_from_is_err_and c.from_residual-in_err-program.result
    c.from_residual-in_err-program.ensures.1 in
    rw (p.1, p.2) (broken (g.F.Files.held c.args.files.now) (g.F.Files.faults c.args.files.now)
    (g.F.Files.faults c.parsed.new.files) (from_library 0 c.args.config.now.libraries)
    c.in_ok-trees.trees.items c.in_err-program.field-0.0 c.in_ok-trees.ensures.given
    c.in_err-program.ensures.cause)

pub returns-in_err-program-clause-counted : goal.returns-in_err-program-clause-counted
returns-in_err-program-clause-counted g c =
    let p = err_from_is_err_and c.from_residual-in_err-program.result
    c.from_residual-in_err-program.ensures.1 in
    rw (p.1, p.2) (breaks_leave (g.F.Files.held c.args.files.now)
    (g.F.Files.faults c.args.files.now) (g.F.Files.faults c.parsed.new.files)
    c.in_ok-trees.trees.items c.in_err-program.field-0.0 c.in_err-program.ensures.cause
    c.in_ok-trees.ensures.counted)
