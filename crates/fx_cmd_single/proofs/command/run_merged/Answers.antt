use Rattle.std.proofs.Common.{refl}
use Rattle.fx_cmd_single.proofs.Runs.{free, merged_plain, runs_merged, not_merged}
use Rattle.fx_cmd_single.proofs.command.run_merged.Goals as goal

pub verdict_of-requires : goal.verdict_of-requires
verdict_of-requires g c = free _ _ _ _ _ _ _ _ _ _ _ (merged_plain c.args.x.now.program c.args.x.now.config _ c.in-Ok.ensures) c.single_run-ran.ensures.ran

pub returns : goal.returns
returns g c = λ held kept faults now.
    runs_merged _ _ _ _ c.args.x.now.config c.args.x.now.program _ _ _ _ _ c.in-Ok.ensures c.single_run-ran.ensures.ran c.single_run-ran.ensures.output c.single_run-ran.ensures.input c.verdict_of.ensures

pub returns-in-Err : goal.returns-in-Err
returns-in-Err g c = λ held kept faults now. not_merged _ _ _ _ c.args.x.now.config c.args.x.now.program refl refl
