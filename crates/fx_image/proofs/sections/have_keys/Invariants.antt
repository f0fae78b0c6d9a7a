use Rattle.std.proofs.Common.{◌≡◌, drop}
use Rattle.fx_image.specs.Rules.{all_numbered, has_key}
use Rattle.fx_image.proofs.sections.have_keys.Given as goal

abbrev pub invariant-loop-k : goal.invariant-loop-k
invariant-loop-k l = all_numbered (has_key l.mechanism) l.k (drop l.k l.sections) ≡ all_numbered (has_key l.mechanism) 0 l.sections
