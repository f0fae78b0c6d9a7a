use Rattle.fx_c_mean_blocks.proofs.cells.+set_parts.Given as goal

abbrev pub decreases-set_parts : goal.decreases-set_parts
decreases-set_parts l = l.n
