use Rattle.shape_premises.proofs.equivalence.+expand.Given as goal

abbrev pub decreases-expand : goal.decreases-expand
decreases-expand l = l.depth
