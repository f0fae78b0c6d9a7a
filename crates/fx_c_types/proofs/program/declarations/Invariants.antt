use Rattle.std.proofs.Common.{◌≡◌, ◌++◌, drop}
use Rattle.fx_c_types.specs.ProgramView.{placed_in, placed_trees, declarations}
use Rattle.fx_c_types.proofs.program.declarations.Given as goal

abbrev pub invariant-loop-file : goal.invariant-loop-file
invariant-loop-file l = placed_trees l.all.items ++ declarations (drop l.file-index l.files) ≡ declarations l.files

abbrev pub invariant-loop-decl : goal.invariant-loop-decl
invariant-loop-decl l = placed_trees l.all.items ++ placed_in l.library (drop l.decl-index l.decl-items) ≡ placed_trees l.initial.all.items ++ placed_in l.library l.decl-items
