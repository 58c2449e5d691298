-- How the sums are made and taken apart, one position after another.
use Rattle.std.specs.Prelude.{ℕ, ◌≡◌, ◌≤◌, ◌<◌, List, ◌++◌, length, take, drop}
use Rattle.buffer_glyphs.specs.Items.{Position}
use Rattle.layout_offsets.specs.declared.advance_sums.Pen.{Pen}
use Rattle.layout_offsets.specs.FollowedLinks.{kinds_tested}
use Rattle.layout_offsets.specs.Links.{position_at}
use Rattle.layout_offsets.specs.AdvanceSums.{Fits, advance_sums_from, advance_sums, advances_of_sums_from, advances_of_sums}

-- those that are left to be summed up lead to all
pub record IsSumming (old : List Position) (i : ℕ) (pen : Pen) (ps : List Position) : Type 0 where
  pub leads : take i ps ++ advance_sums_from pen (kinds_tested (drop i ps)) ≡ advance_sums (kinds_tested old)
  pub long : length ps ≡ length old
  pub left : (k : ℕ) → i ≤ k → position_at k ps ≡ position_at k old
  pub fit : (k : ℕ) → k < i → Fits (position_at k old)

-- those that are left to be taken apart lead to all
pub record IsParting (old : List Position) (i : ℕ) (pen : Pen) (ps : List Position) : Type 0 where
  pub leads : take i ps ++ advances_of_sums_from pen (drop i ps) ≡ advances_of_sums old
  pub long : length ps ≡ length old
