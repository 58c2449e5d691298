-- Merges and replacements of a buffer's glyphs.
use Rattle.std.specs.Prelude.{ℕ, ◌+◌, ◌-◌, ◌==◌, ◌||◌, Bool, if◌then◌else◌, List, [], ◌∷◌, ◌++◌, map, length, take, drop, Option}
use Rattle.std.specs.Int.RustNames.{bit_or}
use Rattle.buffer_glyphs.specs.declared.info.hb_glyph_info_t.{hb_glyph_info_t}
use Rattle.buffer_glyphs.specs.declared.level.BufferClusterLevel.{BufferClusterLevel}
use Rattle.buffer_glyphs.specs.Items.{clusters}
use Rattle.buffer_glyphs.specs.Parts.{first_of, last_of, or}
use Rattle.buffer_glyphs.specs.Levels.{InOutput, grapheme_manner, manner}
use Rattle.buffer_glyphs.specs.Deleting.{DeletionSides, sides_handed_if}
use Rattle.buffer_glyphs.specs.Glyphs.{glyphs_merged_as, glyphs_merged_at, is_marked_at}
use Rattle.buffer_glyphs.specs.Replacements.{numbered_copies, glyph_numbered}
use Rattle.buffer_core.specs.Sides.{Sides, all_glyphs, requests_breaks, has_output_room, with_behind}

-- the index among all glyphs of an index of the input; with no output open the input is all glyphs
abbrev pub index_in_all : ℕ → Sides → ℕ
index_in_all i s = length s.behind + i - s.read

-- other glyphs, with as many on each side as before
abbrev pub with_glyphs : List hb_glyph_info_t → Sides → Sides
with_glyphs gs s = record s { behind = take (length s.behind) gs; ahead = drop (length s.behind) gs }

-- scratch flags, with HAS_GLYPH_FLAGS set where a glyph got one of the three flags
abbrev pub with_has_glyph_flags : Bool → ℕ → ℕ
with_has_glyph_flags any flags = if any then bit_or flags 32 else flags

-- the indices from `from` up to before `to` merged, or flagged, by level (`merge_clusters`)
abbrev pub with_merged : ℕ → ℕ → Sides → Sides
with_merged from to s = record (with_glyphs (glyphs_merged_at s.level from to (all_glyphs s)) s) { scratch_flags = with_has_glyph_flags (is_marked_at s.level from to (clusters (all_glyphs s))) s.scratch_flags }

-- such indices of the output merged at a level, or left alone
abbrev pub output_merged_at : BufferClusterLevel → ℕ → ℕ → List hb_glyph_info_t → List hb_glyph_info_t
output_merged_at level from to gs = glyphs_merged_as (manner InOutput level) from to gs

-- the indices of the output from `from` up to before `to` merged (`merge_out_clusters`)
abbrev pub with_output_merged : ℕ → ℕ → Sides → Sides
with_output_merged from to s = with_glyphs (output_merged_at s.level from to (all_glyphs s)) s

-- the indices from `from` up to before `to` of all glyphs, a grapheme, merged where the level merges graphemes
-- (`merge_grapheme_clusters`, `merge_out_grapheme_clusters`)
abbrev pub with_grapheme_merged : ℕ → ℕ → Sides → Sides
with_grapheme_merged from to s = with_glyphs (glyphs_merged_as (grapheme_manner s.level) from to (all_glyphs s)) s

-- the glyph that new glyphs are copies of: the glyph at the cursor, else the last output glyph
abbrev pub model : Sides → Option hb_glyph_info_t
model s = or (first_of s.ahead) (last_of s.behind)

-- other glyphs on both sides of the cursor
abbrev pub with_sides : DeletionSides → Sides → Sides
with_sides l s = record s { behind = l.front; ahead = l.back }

-- flags of glyphs that left at the cursor handed on, where safe breaks are requested
abbrev pub with_handed_on : List hb_glyph_info_t → Sides → Sides
with_handed_on gone s = with_sides (sides_handed_if (requests_breaks s) gone (record { front = s.behind; back = s.ahead })) s

-- the first n glyphs ahead replaced by a copy of the model for each number, with no merge
abbrev pub with_copied : ℕ → List ℕ → Sides → Sides
with_copied taken numbers s = with_behind (s.behind ++ numbered_copies glyph_numbered (model s) numbers) (record s { ahead = drop taken s.ahead; read = s.read + taken })

-- the first n glyphs ahead replaced so, which hand on their flags
abbrev pub with_copied_handed : ℕ → List ℕ → Sides → Sides
with_copied_handed taken numbers s = with_handed_on (take taken s.ahead) (with_copied taken numbers s)

-- the first n glyphs ahead merged, and then replaced by a copy of the model for each number (`replace_glyphs`)
abbrev pub with_replaced : ℕ → List ℕ → Sides → Sides
with_replaced taken numbers s = with_copied_handed taken numbers (with_merged (length s.behind) (length s.behind + taken) s)

-- whether n copies may be appended to the output; without a glyph to copy none is
abbrev pub fits_copies : ℕ → Sides → Bool
fits_copies n s = (length (all_glyphs s) == 0) || has_output_room n s

-- a glyph appended behind the cursor (`output_info`)
abbrev pub with_output_info : hb_glyph_info_t → Sides → Sides
with_output_info g s = with_behind (s.behind ++ g ∷ []) s

-- a copy of the model under a number appended behind the cursor (`output_glyph`)
abbrev pub with_output_glyph : ℕ → Sides → Sides
with_output_glyph n s = with_behind (s.behind ++ numbered_copies glyph_numbered (model s) (n ∷ [])) s

-- the glyph at the cursor moved behind it under another number (`replace_glyph`)
abbrev pub with_replaced_glyph : ℕ → Sides → Sides
with_replaced_glyph n s = record s { behind = s.behind ++ map (λ (g : hb_glyph_info_t). glyph_numbered g n) (take 1 s.ahead); ahead = drop 1 s.ahead; read = s.read + 1 }

-- the glyph at the cursor deleted, with no merge, and no flag of it handed on
abbrev pub with_glyph_passed : Sides → Sides
with_glyph_passed s = record s { ahead = drop 1 s.ahead; read = s.read + 1 }

-- the glyph at the cursor deleted, with no merge (`skip_glyph`)
abbrev pub with_glyph_skipped : Sides → Sides
with_glyph_skipped s = with_handed_on (take 1 s.ahead) (with_glyph_passed s)
