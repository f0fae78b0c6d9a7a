use Rattle.std.proofs.Common.{◌≡◌, ◌<◌, ℕ, length}
use Rattle.std.specs.Prelude.{slice_index_or}
use Rattle.fx_cpu.specs.declared.registers.Regs.{Regs}
use Rattle.fx_machine_model.specs.Boot.{boot_regs}
use Rattle.fx_machine.proofs.boot.boot_cpus.Given as goal

abbrev pub invariant-loop-vcpu : goal.invariant-loop-vcpu
invariant-loop-vcpu l = record {
  many : length l.cpus.items ≡ l.vcpu;
  each : (k : ℕ) (d : Regs) → k < l.vcpu → slice_index_or l.cpus.items k d ≡ boot_regs l.image k;
}
