use Rattle.std.proofs.Common.{subst, sym}
use Rattle.fx_cmd_exec.specs.Causes.{HasProgram}
use Rattle.std.proofs.lemmas.Result.{err_from_is_err_and}
use Rattle.fx_cmd_exec.proofs.Holding.{same_twice, program_before, built, writes, unbuilt_leaves, image_leaving}
use Rattle.fx_cmd_exec.proofs.build.build_image.Goals as goal

pub returns-clause-built : goal.returns-clause-built
returns-clause-built g c =
    let first = g.F.Files.held c.args.files.now in
    let second = g.F.Files.held c.take_config.new.files in
    built c.args.words.now.config.now first c.deref.result.now c.make_image.result c.in_ok-take_config.ensures.ok
    (program_before first second c.deref.result.now c.in_ok-take_config.ensures.keeps (subst (HasProgram second) (sym c.deref.ensures.value) c.in_ok-constants.ensures.ok))
    c.make_image.ensures.value c.make_image.ensures.rules c.make_image.ensures.faithful

pub returns-clause-written : goal.returns-clause-written
returns-clause-written g c =
    let first = g.F.Files.held c.args.files.now in
    let second = g.F.Files.held c.take_config.new.files in
    let third = g.F.Files.held c.take_source.new.files in
    writes c.args.words.now.run.image.now first third (g.F.Files.held c.make_image.new.files) c.make_image.result
    (same_twice first second third c.in_ok-take_config.ensures.keeps c.in_ok-constants.ensures.keeps) c.make_image.ensures.written c.make_image.ensures.others

pub returns-in_err-constants-clause-counted : goal.returns-in_err-constants-clause-counted
returns-in_err-constants-clause-counted g c =
    let p = err_from_is_err_and c.from_residual-in_err-constants.result c.from_residual-in_err-constants.ensures.1 in
    rw (p.1, p.2) (unbuilt_leaves (g.F.Files.held c.args.files.now) (g.F.Files.held c.take_config.new.files) (g.F.Files.faults c.args.files.now) (g.F.Files.faults c.take_config.new.files) (g.F.Files.faults c.take_source.new.files)
    c.in_err-constants.field-0.0 c.in_ok-take_config.ensures.keeps c.in_ok-take_config.ensures.counted c.in_err-constants.ensures.counted)

pub returns-clause-counted : goal.returns-clause-counted
returns-clause-counted g c =
    image_leaving (g.F.Files.held c.args.files.now) (g.F.Files.faults c.args.files.now) (g.F.Files.faults c.take_source.new.files) (g.F.Files.faults c.make_image.new.files) c.make_image.result c.make_image.ensures.cause
