use Rattle.std.proofs.Common.{◌≡◌}
use Rattle.fx_cmd_load.specs.Programs.{sources_of}
use Rattle.fx_cmd_load.proofs.checking.sources_of.Given as goal

abbrev pub invariant-loop-file : goal.invariant-loop-file
invariant-loop-file l = l.all.items ≡ sources_of l.yielded
