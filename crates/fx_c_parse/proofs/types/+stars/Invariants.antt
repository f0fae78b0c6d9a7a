use Rattle.fx_c_parse.proofs.types.+stars.Given as goal

abbrev pub decreases-stars : goal.decreases-stars
decreases-stars l = l.left
