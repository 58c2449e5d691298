use Rattle.std.proofs.Common.{◌≡◌, ◌++◌, length, map, take, drop}
use Rattle.std.specs.List.{list_any}
use Rattle.layout_offsets.specs.FollowedLinks.{is_far_back, kind_tested}
use Rattle.layout_offsets.proofs.followed_links.test_kinds.Given as goal

-- those before it are tested, and it is known whether one of them is far back
abbrev pub invariant-loop-i : goal.invariant-loop-i
invariant-loop-i l = (l.positions ≡ map kind_tested (take l.i l.fn.positions) ++ drop l.i l.fn.positions) × (length l.positions ≡ length l.fn.positions) × (l.is_far ≡ list_any is_far_back (take l.i l.fn.positions))
