use Rattle.buffer_unicode_tables.proofs.expansion.+expand_within.Given as goal

abbrev pub decreases-expand_within : goal.decreases-expand_within
decreases-expand_within l = l.depth
