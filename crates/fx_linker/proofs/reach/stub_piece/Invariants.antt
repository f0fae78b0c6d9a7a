use Rattle.std.proofs.Common.{◌≡◌, drop}
use Rattle.fx_linker.specs.Code.{stub_piece}
use Rattle.fx_linker.proofs.reach.stub_piece.Given as goal

abbrev pub invariant-loop-stub : goal.invariant-loop-stub
invariant-loop-stub l = stub_piece l.from l.to l.entry (drop l.stub-index l.stubs) ≡ stub_piece l.from l.to l.entry l.stubs
