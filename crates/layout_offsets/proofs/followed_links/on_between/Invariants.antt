use Rattle.std.proofs.Common.{◌≡◌}
use Rattle.std.specs.Prelude.{slice_range}
use Rattle.std.specs.List.{fold}
use Rattle.layout_offsets.specs.FollowedLinks.{on_over}
use Rattle.layout_offsets.proofs.followed_links.on_between.Given as goal

-- what is left to move over leads to what all leads to
abbrev pub invariant-loop-i : goal.invariant-loop-i
invariant-loop-i l = fold on_over l.moved (slice_range l.positions l.i l.to) ≡ fold on_over l.fn.position (slice_range l.positions l.from l.to)
