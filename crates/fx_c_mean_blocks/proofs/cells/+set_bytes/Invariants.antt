use Rattle.fx_c_mean_blocks.proofs.cells.+set_bytes.Given as goal

abbrev pub decreases-set_bytes : goal.decreases-set_bytes
decreases-set_bytes l = l.n
