-- The renumbering that merges postponed.
use Rattle.std.specs.Prelude.{ℕ, ◌≤◌, List}
use Rattle.buffer_glyphs.specs.declared.info.hb_glyph_info_t.{hb_glyph_info_t}
use Rattle.buffer_glyphs.specs.declared.level.BufferClusterLevel.{BufferClusterLevel}
use Rattle.buffer_glyphs.specs.Levels.{IsMonotone}
use Rattle.buffer_lists.specs.declared.due.Due.{Due}
use Rattle.buffer_lists.specs.declared.due.Due.TheVariants.{Nothing, Falling}
use Rattle.buffer_lists.specs.Falling.{with_range_in_cluster, IsDueBefore, IsRound}

-- the glyphs once a postponed renumbering is carried out
abbrev pub with_due : Due → List hb_glyph_info_t → List hb_glyph_info_t
with_due Nothing gs = gs
with_due (Falling d) gs = with_range_in_cluster d gs

-- a postponed renumbering is before an index
abbrev pub IsDue : ℕ → Due → List hb_glyph_info_t → Type 0
IsDue at Nothing gs = Unit {0}
IsDue at (Falling d) gs = IsDueBefore at d gs

-- the levels at which renumbering may be postponed
abbrev pub MayPostpone : BufferClusterLevel → Due → Type 0
MayPostpone level Nothing = Unit {0}
MayPostpone level (Falling d) = IsMonotone level

-- renumbering is postponed at a monotone level only
abbrev pub MayBeDue : BufferClusterLevel → ℕ → Due → List hb_glyph_info_t → Type 0
MayBeDue level at due gs = MayPostpone level due × IsDue at due gs

-- the postponed renumbering is within the first n glyphs
abbrev pub IsWithin : ℕ → Due → Type 0
IsWithin n Nothing = Unit {0}
IsWithin n (Falling d) = (d.from ≤ d.to) × (d.to ≤ n)

-- a postponed range ends before a range, or has all of it at its end
abbrev pub MayBeRound : ℕ → ℕ → Due → Type 0
MayBeRound start end Nothing = Unit {0}
MayBeRound start end (Falling d) = IsRound start end d
