use Rattle.std.proofs.Common.{◌≡◌, ◌++◌, drop}
use Rattle.fx_cmd_load.specs.Named.{source_files, from_library}
use Rattle.fx_cmd_load.proofs.named.source_names.Given as goal

abbrev pub invariant-loop-number : goal.invariant-loop-number
invariant-loop-number l = source_files l.all.items ++ from_library l.number (drop l.number l.libraries) ≡ from_library 0 l.libraries
