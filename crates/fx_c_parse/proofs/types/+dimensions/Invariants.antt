use Rattle.fx_c_parse.proofs.types.+dimensions.Given as goal

abbrev pub decreases-dimensions : goal.decreases-dimensions
decreases-dimensions l = l.left
