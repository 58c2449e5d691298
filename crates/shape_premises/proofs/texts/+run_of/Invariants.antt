use Rattle.shape_premises.proofs.texts.+run_of.Given as goal

abbrev pub decreases-run_of : goal.decreases-run_of
decreases-run_of l = l.depth
