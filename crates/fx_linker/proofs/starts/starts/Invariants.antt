use Rattle.std.proofs.Common.{◌≡◌, ◌++◌, drop}
use Rattle.fx_linker.specs.Data.{starts_from}
use Rattle.fx_linker.proofs.starts.starts.Given as goal

abbrev pub invariant-loop-vcpu : goal.invariant-loop-vcpu
invariant-loop-vcpu l = l.found.items ++ starts_from l.k l.home l.runtime l.vcpu (drop l.vcpu l.pieces) ≡ starts_from l.k l.home l.runtime 0 l.pieces
