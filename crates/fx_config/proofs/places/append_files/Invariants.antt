use Rattle.std.proofs.Common.{◌≡◌, ◌++◌, map, take}
use Rattle.fx_config.proofs.places.append_files.Given as goal

abbrev pub invariant-loop-file : goal.invariant-loop-file
invariant-loop-file l = map (λ s. s.now) l.found.items ≡ map (λ s. s.now) l.initial.found.items ++ take l.file-index l.files
