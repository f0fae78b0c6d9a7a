use Rattle.std.proofs.Common.{◌≡◌, ◌+◌, ◌++◌, drop}
use Rattle.fx_c_ast.specs.CheckedTrees.{struct_types}
use Rattle.fx_match_rel.specs.Frames.{slots_of, slots_from}
use Rattle.fx_match_rel.proofs.frames.slots.Given as goal

abbrev pub invariant-loop-local : goal.invariant-loop-local
invariant-loop-local l =
    (l.slots.items ++ slots_from (struct_types l.p.structs) l.before (drop l.local-index l.locals) ≡ slots_from (struct_types l.p.structs) 0 l.locals)
    × (l.before + slots_of (struct_types l.p.structs) (drop l.local-index l.locals) ≡ slots_of (struct_types l.p.structs) l.locals)
