-- The parts of a program's image spell no WRPKRU.
use Rattle.std.proofs.Common.{◌+◌, ◌≤◌, length, arith}
use Rattle.fx_c_mean_model.specs.Programs.{program_of}
use Rattle.fx_c_lower_model.specs.Code.{code_of}
use Rattle.fx_build_parts.specs.Parts.{plan_of, parts_of}
use Rattle.fx_build_quiet_law.specs.Quiet.{PartsHaveNoKeys}
use Rattle.fx_build_quiet_law.proofs.Registers.{code_has}
use Rattle.fx_build_quiet_law.proofs.Functions.{Known, ranges_quiet}
use Rattle.fx_build_quiet_law.proofs.Frames.{plain, sections_low, ranges_few}
use Rattle.fx_build_quiet_law.proofs.Inside.{inside}

pub no_keys : Known → PartsHaveNoKeys
no_keys x p g k at buildable lowerable placeable is pages short =
    let parts = parts_of p g at k in
    let few : 0 + length k.compartments ≤ 16 = omega (arith, buildable.compartments) in
    record {
      ranges = ranges_quiet x p (plan_of p g at k) (code_of (program_of p)) 0 k.compartments
          (plain p at k buildable lowerable pages) few
          (ranges_few 1048576 parts.ranges (omega (arith, short))) (code_has p lowerable);
      runtime = x.runtimes p at k 0 pages (sections_low p g k at placeable is);
      inside = inside parts p at k;
    }
