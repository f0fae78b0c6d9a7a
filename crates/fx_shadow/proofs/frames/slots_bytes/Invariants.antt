use Rattle.std.proofs.Common.{◌≡◌, ◌+◌, drop}
use Rattle.fx_c_ast.specs.CheckedTrees.{struct_types}
use Rattle.fx_shadow.specs.Frames.{slots_of}
use Rattle.fx_shadow.proofs.frames.slots_bytes.Given as goal

abbrev pub invariant-loop-local : goal.invariant-loop-local
invariant-loop-local l = l.bytes + slots_of (struct_types l.p.structs) (drop l.local-index l.locals) ≡ slots_of (struct_types l.p.structs) l.locals
