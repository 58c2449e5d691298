use Rattle.std.proofs.Common.{◌-◌, ◌≡◌, length}
use Rattle.layout_offsets.specs.FollowedLinks.{with_links_followed_from, with_links_followed}
use Rattle.layout_offsets.specs.AdvanceSums.{drawing}
use Rattle.layout_offsets.specs.Walks.{are_shut}
use Rattle.layout_offsets.proofs.followed_links.follow_all.Given as goal

-- those that are left to be drawn lead to all
abbrev pub invariant-loop-i : goal.invariant-loop-i
invariant-loop-i l = (with_links_followed_from (drawing l.by_sums l.direction) l.i (length l.fn.positions - l.i) l.positions ≡ with_links_followed (drawing l.by_sums l.direction) l.fn.positions) × (length l.positions ≡ length l.fn.positions) × are_shut l.positions
