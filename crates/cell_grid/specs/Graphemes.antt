-- Where the runs of a text begin.
use Rattle.std.specs.Prelude.{ℕ, ◌≡◌, IsTrue, List, Contains}
use Rattle.kuspveli.specs.buffer_glyphs.declared.level.BufferClusterLevel.TheVariants.{Graphemes}
use Rattle.kuspveli.specs.buffer_glyphs.Order.{has_number}
use Rattle.kuspveli.specs.buffer_unicode_tables.Lawful.{IsLawful}
use Rattle.kuspveli.specs.shape_parts.GraphemeLaws.{grapheme_starts}
use Rattle.kuspveli.specs.shape_pipeline.Results.{IsShapedBy}
use Rattle.kuspveli.specs.shape_pipeline.Shaping.{Shaping}
use Rattle.kuspveli.specs.shaping_buffer.buffer_core.Sides.{Sides, all_glyphs}
use Rattle.kuspveli.specs.shaping_buffer.buffer_core.Text.{added_text}
use Rattle.cell_grid.specs.declared.cells.CellRun.{CellRun}
use Rattle.cell_grid.specs.Grids.{Grid, IsGridOf}

-- law: at the level Graphemes each run of a text that was pushed once begins where a grapheme does, so none ends inside of one (UAX 29, as HarfBuzz cuts graphemes)
abbrev pub RunsBeginAtGraphemes : Type 0
RunsBeginAtGraphemes = (p : Shaping) (bytes : List ℕ) (text result : Sides) (g : Grid) (r : CellRun) → IsLawful p.tables → text.level ≡ Graphemes → all_glyphs text ≡ added_text bytes → IsShapedBy p text result
    → IsGridOf result bytes g → Contains g.runs r → IsTrue (has_number (grapheme_starts p.tables bytes) r.start)
