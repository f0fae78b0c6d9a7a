use Rattle.std.proofs.Common.{◌≡◌, ◌++◌, take}
use Rattle.std.specs.List.{flat_map}
use Rattle.fx_image.proofs.writing.put_all.Given as goal

abbrev pub invariant-loop-record : goal.invariant-loop-record
invariant-loop-record g l = l.out.items ≡ l.fn.out.items ++ flat_map (g.T.Written.spelling l.version) (take l.record-index l.records)
