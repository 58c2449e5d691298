-- The meaning of links without cycles: each glyph is drawn from its parent's final position.
use Rattle.std.specs.Prelude.{ℕ, pos, ◌≡◌, ◌<◌, Bool, true, false, List, map, set, length, Option, Some, None}
use Rattle.buffer_glyphs.specs.Items.{Position}
use Rattle.buffer_common.specs.declared.direction.Direction.{Direction}
use Rattle.layout_offsets.specs.FollowedLinks.{drawn_position, kinds_tested, finished_positions}
use Rattle.layout_offsets.specs.Links.{position_at, parent, without_link}

-- links form no cycle: each glyph has a depth, and its parent a lesser one
pub record HaveDepths (depth : ℕ → ℕ) (ps : List Position) : Type 0 where
  pub within : (k : ℕ) → k < length ps → depth k < length ps
  pub lesser : (k j : ℕ) → parent k ps ≡ Some j → depth j < depth k

-- a position with its advances only
abbrev pub only_advances : Position → Position
only_advances p = record { x_advance = p.x_advance; y_advance = p.y_advance; x_offset = pos 0; y_offset = pos 0; attach_chain = pos 0; attach_type = 0 }

-- a recorded glyph drawn from its parent, in a list of drawn glyphs
abbrev pub position_drawn_from : Direction → List Position → List Position → ℕ → Option ℕ → Position
position_drawn_from d recorded drawn k None = without_link (position_at k recorded)
position_drawn_from d recorded drawn k (Some j) = drawn_position d k j (set drawn k (without_link (position_at k recorded)))

-- a recorded glyph drawn from the parent of its link
abbrev pub final : Direction → List Position → List Position → ℕ → Position
final d recorded drawn k = position_drawn_from d recorded drawn k (parent k recorded)

-- all glyphs are drawn so
pub record AreDrawn (d : Direction) (recorded drawn : List Position) : Type 0 where
  pub long : length drawn ≡ length recorded
  pub advances : map only_advances drawn ≡ map only_advances recorded
  pub each : (k : ℕ) → k < length recorded → position_at k drawn ≡ final d recorded drawn k

-- links without cycles are followed so
abbrev pub TreesAreDrawn : Type 0
TreesAreDrawn = (d : Direction) (depth : ℕ → ℕ) (ps : List Position) → HaveDepths depth (kinds_tested ps) → AreDrawn d (kinds_tested ps) (finished_positions d ps)

-- some glyphs are drawn, and with each its parent; the others are as they were recorded
pub record ArePartlyDrawn (d : Direction) (recorded now : List Position) (done : ℕ → Bool) : Type 0 where
  pub long : length now ≡ length recorded
  pub advances : map only_advances now ≡ map only_advances recorded
  pub kept : (k : ℕ) → done k ≡ false → position_at k now ≡ position_at k recorded
  pub drawn : (k : ℕ) → k < length recorded → done k ≡ true → position_at k now ≡ final d recorded now k
  pub closed : (k j : ℕ) → done k ≡ true → parent k recorded ≡ Some j → done j ≡ true
