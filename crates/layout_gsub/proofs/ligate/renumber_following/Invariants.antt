use Rattle.layout_gsub.proofs.Renumbered.{IsFollowing}
use Rattle.layout_gsub.proofs.ligate.renumber_following.Given as goal

-- so many were renumbered
abbrev pub invariant-loop-at : goal.invariant-loop-at
invariant-loop-at l = IsFollowing l.numbering.lig_id l.last_lig_id l.numbering.ended l.numbering.own l.fn.buffer l.at l.buffer
