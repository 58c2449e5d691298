use Rattle.buffer_stages.specs.Fronts.{one_seen}
use Rattle.buffer_stages.proofs.TurnedBack.{AreTurnedBack}
use Rattle.buffer_stages.proofs.groups.turn_groups.Given as goal

-- the groups before `i` stand in order, and the last begins at `begin`
abbrev pub invariant-loop-i : goal.invariant-loop-i
invariant-loop-i g l = AreTurnedBack (one_seen (g.R.GroupRule.begins l.rule)) l.i l.begin l.fn.glyphs l.glyphs
