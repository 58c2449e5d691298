use Rattle.shape_premises.proofs.texts.+has_expansion.Given as goal

abbrev pub decreases-has_expansion : goal.decreases-has_expansion
decreases-has_expansion l = l.depth
