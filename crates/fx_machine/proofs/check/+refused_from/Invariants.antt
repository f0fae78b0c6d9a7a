use Rattle.fx_machine.proofs.check.+refused_from.Given as goal

abbrev pub decreases-refused_from : goal.decreases-refused_from
decreases-refused_from l = l.bytes
