use Rattle.std.proofs.Common.{◌≡◌, drop}
use Rattle.fx_image.specs.Rules.{all_numbered, leads}
use Rattle.fx_image.proofs.sections.all_lead.Given as goal

abbrev pub invariant-loop-k : goal.invariant-loop-k
invariant-loop-k l = all_numbered (leads l.n) l.k (drop l.k l.sections) ≡ all_numbered (leads l.n) 0 l.sections
