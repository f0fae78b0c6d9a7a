use Rattle.std.proofs.Common.{◌<◌, length, arith}
use Rattle.fx_c_mean_model.specs.Programs.{program_of}
use Rattle.fx_c_mean.proofs.Starts.{globals_more}
use Rattle.fx_c_mean.proofs.start.add_globals.Goals as goal

pub loop-global-preserved : goal.loop-global-preserved
loop-global-preserved c =
    let i = c.loop-global in
    let there : i.global-index < length c.as_slice-global-items.result.now = omega arith in record {
      number = omega arith;
      made = globals_more (program_of c.args.source.now.program.now) i.memory c.add_global.new.memory _ c.as_slice-global-items.result.now i.global-index i.number c.in_ok-number.number c.global-item.result i.invariant.number there c.global-item.is c.in_ok-add_global.ensures c.in_ok-number.ensures i.invariant.made;
    }
