use Rattle.std.proofs.Common.{◌-◌, length}
use Rattle.layout_offsets.specs.FollowedLinks.{with_link_followed}
use Rattle.layout_offsets.specs.AdvanceSums.{drawing}
use Rattle.layout_offsets.specs.Walks.{IsComing}
use Rattle.layout_offsets.proofs.followed_links.follow.Given as goal

-- what is left of the way back leads to what it is to lead to
abbrev pub invariant-loop-step : goal.invariant-loop-step
invariant-loop-step l = IsComing (drawing l.by_sums l.direction) (with_link_followed (drawing l.by_sums l.direction) (length l.fn.positions) l.start l.fn.positions) (length l.fn.positions) l.last.at l.last.by (l._step-end - l._step) l.positions
