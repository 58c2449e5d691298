use Rattle.buffer_unicode_tables.proofs.depth.+chain_ends.Given as goal

abbrev pub decreases-chain_ends : goal.decreases-chain_ends
decreases-chain_ends l = l.depth
