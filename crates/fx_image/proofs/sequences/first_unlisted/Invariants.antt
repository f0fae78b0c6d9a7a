use Rattle.std.proofs.Common.{◌≡◌, drop}
use Rattle.fx_image.specs.Rules.{unlisted_from}
use Rattle.fx_image.proofs.sequences.first_unlisted.Given as goal

abbrev pub invariant-loop-at : goal.invariant-loop-at
invariant-loop-at l = unlisted_from l.stubs l.at (drop l.at l.code) ≡ unlisted_from l.stubs 0 l.code
