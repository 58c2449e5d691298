-- Merges and glyph flags on lists of glyphs.
use Rattle.std.specs.Prelude.{ℕ, ◌==◌, not, Bool, false, if◌then◌else◌, List, ◌++◌, map, take, drop, slice_range}
use Rattle.std.specs.List.{list_any}
use Rattle.std.specs.Int.RustNames.{bit_or}
use Rattle.buffer_glyphs.specs.declared.info.hb_glyph_info_t.{hb_glyph_info_t}
use Rattle.buffer_glyphs.specs.declared.level.BufferClusterLevel.{BufferClusterLevel}
use Rattle.buffer_glyphs.specs.Levels.{InList, Manner, Unites, Marks, Keeps, manner}
use Rattle.buffer_glyphs.specs.Items.{clusters, without_flags}
use Rattle.buffer_glyphs.specs.Parts.{range_of}
use Rattle.buffer_glyphs.specs.Merges.{least_number, merged_number}

-- a glyph in a cluster: where it was in another, its three flags are cleared
abbrev pub in_cluster : ℕ → hb_glyph_info_t → hb_glyph_info_t
in_cluster c g = if g.cluster == c then g else record g { cluster = c; mask = without_flags g.mask }

-- the clusters that occur in a range renumbered to the least of them, everywhere
abbrev pub glyphs_merged : List ℕ → List hb_glyph_info_t → List hb_glyph_info_t
glyphs_merged range gs = map (λ (g : hb_glyph_info_t). in_cluster (merged_number range g.cluster) g) gs

-- the glyphs of one cluster moved to another
abbrev pub glyphs_renumbered : ℕ → ℕ → List hb_glyph_info_t → List hb_glyph_info_t
glyphs_renumbered c low gs = map (λ (g : hb_glyph_info_t). if g.cluster == c then in_cluster low g else g) gs

-- whether a range has a cluster other than its least
abbrev pub has_several_numbers : List ℕ → Bool
has_several_numbers range = list_any (λ n. not (n == least_number range)) range

-- a glyph, with flags set where it is outside a cluster
abbrev pub marked_outside : ℕ → ℕ → hb_glyph_info_t → hb_glyph_info_t
marked_outside bits low g = if g.cluster == low then g else record g { mask = bit_or g.mask bits }

-- flags set on the indices from `from` up to before `to` outside the least cluster among them
abbrev pub glyphs_marked : ℕ → ℕ → ℕ → List hb_glyph_info_t → List hb_glyph_info_t
glyphs_marked bits from to gs = take from gs ++ map (marked_outside bits (least_number (range_of from to (clusters gs)))) (slice_range gs from to) ++ drop to gs

-- such indices merged, flagged or left alone, by manner
abbrev pub glyphs_merged_as : Manner → ℕ → ℕ → List hb_glyph_info_t → List hb_glyph_info_t
glyphs_merged_as Unites from to gs = glyphs_merged (range_of from to (clusters gs)) gs
glyphs_merged_as Marks from to gs = glyphs_marked 3 from to gs
glyphs_merged_as Keeps from to gs = gs

-- such indices merged at a level, or flagged as unsafe to break and to concat
abbrev pub glyphs_merged_at : BufferClusterLevel → ℕ → ℕ → List hb_glyph_info_t → List hb_glyph_info_t
glyphs_merged_at level from to gs = glyphs_merged_as (manner InList level) from to gs

-- the glyphs of another list after such a merge of a range
abbrev pub beside_merged_as : Manner → List ℕ → List hb_glyph_info_t → List hb_glyph_info_t
beside_merged_as Unites range gs = glyphs_merged range gs
beside_merged_as Marks range gs = gs
beside_merged_as Keeps range gs = gs

-- the glyphs of another list after a merge of a range at a level
abbrev pub beside_merged : BufferClusterLevel → List ℕ → List hb_glyph_info_t → List hb_glyph_info_t
beside_merged level range gs = beside_merged_as (manner InList level) range gs

-- whether a merge of such indices flags a glyph
abbrev pub is_marked_as : Manner → ℕ → ℕ → List ℕ → Bool
is_marked_as Unites from to ns = false
is_marked_as Marks from to ns = has_several_numbers (range_of from to ns)
is_marked_as Keeps from to ns = false

-- whether a merge of such indices at a level flags a glyph
abbrev pub is_marked_at : BufferClusterLevel → ℕ → ℕ → List ℕ → Bool
is_marked_at level from to ns = is_marked_as (manner InList level) from to ns

-- a glyph with flags set
abbrev pub glyph_flagged : ℕ → hb_glyph_info_t → hb_glyph_info_t
glyph_flagged bits g = record g { mask = bit_or g.mask bits }

-- flags set on the indices from `from` up to before `to`
abbrev pub glyphs_flagged : ℕ → ℕ → ℕ → List hb_glyph_info_t → List hb_glyph_info_t
glyphs_flagged bits from to gs = take from gs ++ map (glyph_flagged bits) (slice_range gs from to) ++ drop to gs
