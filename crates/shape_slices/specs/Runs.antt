-- Runs of glyphs, and the slices of the text that they come from.
use Rattle.std.specs.Prelude.{ℕ, ◌≡◌, ◌-◌, Bool, true, false, List, length, map, replicate, reverse}
use Rattle.std.specs.List.{flat_map}
use Rattle.buffer_glyphs.specs.Order.{IsInOrder}
use Rattle.buffer_parts.specs.Slices.{AreJoined, slices}
use Rattle.shape_slices.specs.declared.slices.SourceSlice.{SourceSlice}

-- the indices of a run's glyphs: the first, and one past the last
abbrev pub glyph_range : SourceSlice → ℕ × ℕ
glyph_range s = (s.first_glyph, s.end_glyph)

-- the bytes of a run's slice: the first, and one past the last
abbrev pub byte_range : SourceSlice → ℕ × ℕ
byte_range s = (s.start, s.end)

-- the clusters of a run's glyphs: each is the first byte of the slice
abbrev pub run_clusters : SourceSlice → List ℕ
run_clusters s = replicate (s.end_glyph - s.first_glyph) s.start

-- slices in the order of the glyphs: by rising bytes, or where clusters fall by falling ones
abbrev pub along_glyphs : Bool → List (ℕ × ℕ) → List (ℕ × ℕ)
along_glyphs false ss = ss
along_glyphs true ss = reverse ss

-- the runs of glyphs with these clusters, each with its slice of a text of `end` bytes: the runs are all glyphs, one after another, none without a glyph; each glyph is of its run's cluster; and the bytes are the intervals between neighbouring clusters, the last one to the end of the text
pub record AreSourceSlices (ns : List ℕ) (end : ℕ) (ss : List SourceSlice) : Type 0 where
  pub glyphs : AreJoined 0 (length ns) (map glyph_range ss)
  pub clusters : flat_map run_clusters ss ≡ ns
  pub bytes : (falls : Bool) → IsInOrder falls ns → map byte_range ss ≡ along_glyphs falls (slices ns end)
