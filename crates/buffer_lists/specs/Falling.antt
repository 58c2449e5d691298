-- Merges over clusters that decrease, of which the last waits.
use Rattle.std.specs.Prelude.{ℕ, ◌≡◌, ◌⊎◌, ◌≤◌, ◌<◌, List, ◌++◌, map, take, drop, slice_range}
use Rattle.buffer_glyphs.specs.declared.info.hb_glyph_info_t.{hb_glyph_info_t}
use Rattle.buffer_glyphs.specs.Items.{clusters}
use Rattle.buffer_glyphs.specs.Order.{IsFalling}
use Rattle.buffer_glyphs.specs.Glyphs.{in_cluster}
use Rattle.buffer_glyphs.specs.Lemmas.Numbers.{Has}
use Rattle.buffer_lists.specs.declared.due.falling.DueRange.{DueRange}

-- the glyphs once a range of them is renumbered to the cluster that is due
abbrev pub with_range_in_cluster : DueRange → List hb_glyph_info_t → List hb_glyph_info_t
with_range_in_cluster d gs = take d.from gs ++ map (in_cluster d.cluster) (slice_range gs d.from d.to) ++ drop d.to gs

-- the postponed range is before an index; no glyph before its end is of a lesser cluster, and none before it of its own
pub record IsDueBefore (at : ℕ) (d : DueRange) (gs : List hb_glyph_info_t) : Type 0 where
  pub ordered : d.from ≤ d.to
  pub before : d.to ≤ at
  pub some : 0 < d.to → d.from < d.to
  pub above : (n : ℕ) → Has (clusters (take d.from gs)) n → d.cluster < n
  pub least : (n : ℕ) → Has (clusters (take d.to gs)) n → d.cluster ≤ n
  pub falls : IsFalling (clusters (with_range_in_cluster d gs))

-- the postponed range ends before a range, or has all of it at its end
abbrev pub IsRound : ℕ → ℕ → DueRange → Type 0
IsRound start end d = (d.to ≤ start) ⊎ ((d.from ≤ start) × (d.to ≡ end))
