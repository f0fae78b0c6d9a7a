use Rattle.std.proofs.Common.{◌≡◌, ◌++◌, map, drop}
use Rattle.fx_c_ast.specs.CheckedTrees.{struct_types}
use Rattle.fx_match_rel.specs.Frames.{table_of}
use Rattle.fx_match_rel.proofs.addresses.frames.Given as goal

abbrev pub invariant-loop-number : goal.invariant-loop-number
invariant-loop-number l = l.tables.items ++ map (table_of (struct_types l.p.structs)) (drop l.number l.p.functions) ≡ map (table_of (struct_types l.p.structs)) l.p.functions
