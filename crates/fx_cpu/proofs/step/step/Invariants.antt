use Rattle.std.proofs.Common.{◌≡◌, ◌-◌, take, length, []}
use Rattle.fx_cpu.specs.Fetches.{Fetches}
use Rattle.fx_cpu.specs.World.{World}
use Rattle.fx_cpu.specs.declared.registers.Regs.{Regs}
use Rattle.fx_cpu.specs.declared.trap.Stepped.{Stepped}
use Rattle.fx_cpu.proofs.step.step.Given as goal

abbrev pub invariant-loop-n : goal.invariant-loop-n
invariant-loop-n g l = record {
  length_is : length l.text ≡ 15;
  -- what the rest may do is what the whole may do
  rest : (t : Stepped) (s : Regs) (o : World) → Fetches (15 - l.n) (take l.n l.text) l.r (g.M.Port.world l.m) t s o → Fetches 15 [] l.fn.r (g.M.Port.world l.fn.m) t s o;
}
