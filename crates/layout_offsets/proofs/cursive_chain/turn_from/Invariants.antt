use Rattle.std.proofs.Common.{◌-◌, ◌<◌, ◌≡◌, length}
use Rattle.layout_offsets.specs.Cursive.{chain_reversed_from, most_links}
use Rattle.layout_offsets.proofs.cursive_chain.turn_from.Given as goal

-- what is left to turn, from here, gives the whole
abbrev pub invariant-loop-done : goal.invariant-loop-done
invariant-loop-done l = (chain_reversed_from l.direction l.stop (most_links - l._done) l.at l.new l.positions ≡ chain_reversed_from l.direction l.stop most_links l.start l.fn.first l.fn.positions) × (l.at < length l.positions) × (length l.positions ≡ length l.fn.positions)
