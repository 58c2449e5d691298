use Rattle.std.proofs.Common.{reverse}
use Rattle.buffer_glyphs.specs.Items.{strip}
use Rattle.layout_match.proofs.Next.{GoesOn}
use Rattle.layout_match.proofs.neighbours.last_admitted.Given as goal

-- the glyphs so far are left out
abbrev pub invariant-loop-at : goal.invariant-loop-at
invariant-loop-at l = GoesOn l.lookup_props l.face.gdef.sets 0 l.at (strip (reverse l.buffer.behind))
