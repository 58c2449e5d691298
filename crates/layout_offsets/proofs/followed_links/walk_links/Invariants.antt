use Rattle.std.proofs.Common.{◌-◌, ◌<◌, ◌≡◌, length}
use Rattle.layout_offsets.specs.FollowedLinks.{Drawing, with_link_followed}
use Rattle.layout_offsets.specs.Walks.{IsGoing}
use Rattle.layout_offsets.proofs.followed_links.walk_links.Given as goal

-- what is left of the way leads to what it is to lead to
abbrev pub invariant-loop-depth : goal.invariant-loop-depth
invariant-loop-depth l = ((draw : Drawing) → IsGoing draw (with_link_followed draw l.count l.start l.fn.positions) l.count (l.count - l.depth) l.last.at l.last.by l.depth l.positions) × (l.count ≡ length l.fn.positions) × (l.last.at < length l.positions)
