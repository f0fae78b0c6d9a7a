use Rattle.std.proofs.lemmas.List.{get_or-replicate}
use Rattle.fx_machine.proofs.pages.filled.Goals as goal

pub returns : goal.returns
returns c = λ k d lt. get_or-replicate 64 k c.args.slot d lt
