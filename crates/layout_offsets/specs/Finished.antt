-- What following links leaves, with or without cycles.
use Rattle.std.specs.Prelude.{ℕ, pos, ◌≡◌, ◌<◌, List, map, length}
use Rattle.buffer_glyphs.specs.Items.{Position}
use Rattle.buffer_common.specs.declared.direction.Direction.{Direction}
use Rattle.layout_offsets.specs.FollowedLinks.{finished_positions}
use Rattle.layout_offsets.specs.Links.{position_at}
use Rattle.layout_offsets.specs.Trees.{only_advances}

-- each link is cleared, each advance stays, and so does each position without a link
pub record IsFinished (recorded drawn : List Position) : Type 0 where
  pub advances : map only_advances drawn ≡ map only_advances recorded
  pub cleared : (k : ℕ) → k < length recorded → (position_at k drawn).attach_chain ≡ pos 0
  pub linkless : (k : ℕ) → (position_at k recorded).attach_chain ≡ pos 0 → position_at k drawn ≡ position_at k recorded

-- each list of positions is finished so
abbrev pub LinksAreCleared : Type 0
LinksAreCleared = (d : Direction) (ps : List Position) → IsFinished ps (finished_positions d ps)
