use Rattle.std.proofs.Common.{◌≡◌, ◌++◌, take}
use Rattle.fx_cmd_load.specs.Named.{source_files, in_library}
use Rattle.fx_cmd_load.proofs.named.push_files.Given as goal

abbrev pub invariant-loop-name : goal.invariant-loop-name
invariant-loop-name l = source_files l.all.items ≡ source_files l.fn.all.items ++ in_library l.library (take l.name-index l.files)
