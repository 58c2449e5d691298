-- Copies of glyphs appended to others.
use Rattle.std.specs.Prelude.{ℕ, Bool, List, ◌++◌, take, drop}
use Rattle.buffer_glyphs.specs.declared.info.hb_glyph_info_t.{hb_glyph_info_t}
use Rattle.buffer_glyphs.specs.Parts.{first_of, last_of, or}
use Rattle.buffer_glyphs.specs.Deleting.{DeletionSides, sides_handed_if}
use Rattle.buffer_glyphs.specs.Replacements.{numbered_copies, glyph_numbered}

-- glyphs with a copy of the first input glyph appended for each number, or of their last one where no input is left
abbrev pub with_copies : List ℕ → List hb_glyph_info_t → List hb_glyph_info_t → List hb_glyph_info_t
with_copies numbers ahead behind = behind ++ numbered_copies glyph_numbered (or (first_of ahead) (last_of behind)) numbers

-- both lists after the first input glyphs were replaced by copies; where it is requested, they handed on their flags
abbrev pub sides_replaced : Bool → ℕ → List ℕ → List hb_glyph_info_t → List hb_glyph_info_t → DeletionSides
sides_replaced breaks count numbers ahead behind = sides_handed_if breaks (take count ahead) (record { front = with_copies numbers ahead behind; back = drop count ahead })
