use Rattle.std.proofs.Common.{refl}
use Rattle.std.proofs.lemmas.Result.{err_from_is_err_and}
use Rattle.fx_cmd_single.specs.Words.{single_given}
use Rattle.fx_cmd_single.proofs.Runs.{runs_program, not_begun}
use Rattle.fx_cmd_single.proofs.command.perform.Goals as goal

pub run_merged-requires : goal.run_merged-requires
run_merged-requires g c = c.requires

pub returns-in_err-x-clause-keeps : goal.returns-in_err-x-clause-keeps
returns-in_err-x-clause-keeps g c = c.in_err-x.ensures.keeps

pub returns-in_err-x-clause-comes : goal.returns-in_err-x-clause-comes
returns-in_err-x-clause-comes g c =
    let p = err_from_is_err_and c.from_residual.result c.from_residual.ensures.1 in
    rw (p.1, p.2) (not_begun (single_given c.args.words.now) _ _ c.in_err-x.field-0.0 c.in_err-x.ensures.cause c.in_err-x.ensures.counted (record { input = refl; input_faults = refl; output = refl; output_faults = refl }))

pub returns-clause-keeps : goal.returns-clause-keeps
returns-clause-keeps g c = c.in_ok-x.ensures.keeps

pub returns-clause-comes : goal.returns-clause-comes
returns-clause-comes g c =
    runs_program (single_given c.args.words.now) _ _ _ c.in_ok-x.x.config c.in_ok-x.x.program c.budget_of.result c.run_merged.result c.budget_of.ensures c.in_ok-x.ensures.program c.in_ok-x.ensures.counted (c.run_merged.ensures _ _ _ _)
