-- The cells of a line of text.
use Rattle.std.specs.Prelude.{ℕ, ◌≡◌, ◌≤◌, ◌-◌, ◌⊎◌, ◌↔◌, List, [], ◌∷◌, Option, Some, None, All, length, map, slice_get, zip}
use Rattle.kuspveli.specs.buffer_common.declared.direction.Direction.{Direction}
use Rattle.kuspveli.specs.buffer_glyphs.declared.info.hb_glyph_info_t.{hb_glyph_info_t}
use Rattle.kuspveli.specs.buffer_glyphs.declared.position.GlyphPosition.{GlyphPosition}
use Rattle.kuspveli.specs.buffer_glyphs.Items.{clusters}
use Rattle.kuspveli.specs.buffer_parts.Slices.{AreJoined, IsIn, slices}
use Rattle.kuspveli.specs.shaping_buffer.buffer_core.Sides.{Sides, all_glyphs}
use Rattle.caret_model.specs.Lines.{HasLine}
use Rattle.cell_grid.specs.declared.cells.CellFault.{CellFault}
use Rattle.cell_grid.specs.declared.cells.CellFault.TheVariants.{OutOfMemory, NoSlices}
use Rattle.cell_grid.specs.declared.cells.CellGlyph.{CellGlyph}
use Rattle.cell_grid.specs.declared.cells.CellRun.{CellRun}
use Rattle.cell_grid.specs.Widths.{run_starts, width_before}

-- the bytes of a run: the first, and one past the last
abbrev pub byte_range : CellRun → ℕ × ℕ
byte_range r = (r.start, r.end)

-- the cells of a run: the first, and one past the last
abbrev pub cell_range : CellRun → ℕ × ℕ
cell_range r = (r.first_cell, r.end_cell)

-- the glyphs of a run: the first from left to right, and one past the last
abbrev pub glyph_range : CellRun → ℕ × ℕ
glyph_range r = (r.first_glyph, r.end_glyph)

-- a line of cells
pub record Grid : Type 0 where
  -- its runs, in the order of the text
  pub runs : List CellRun
  -- its glyphs, from left to right
  pub glyphs : List CellGlyph
  -- how many cells it has
  pub width : ℕ

-- the cell after a run, 0 without one
abbrev pub end_or_none : Option CellRun → ℕ
end_or_none None = 0
end_or_none (Some r) = r.end_cell

-- the cell after the last of some runs
abbrev pub end_of_runs : List CellRun → ℕ
end_of_runs rs = end_or_none (slice_get rs (length rs - 1))

-- the cells of runs, one run after another, are those of a line: each run has some, but for a first one whose characters take none
abbrev pub AreCells : ℕ → List CellRun → Type 0
AreCells width [] = 0 ≡ width
AreCells width (r ∷ rs) = (r.first_cell ≡ 0) × AreJoined r.end_cell width (map cell_range rs)

-- what holds of all lines of cells
abbrev pub IsGrid : Grid → Type 0
IsGrid g = AreCells g.width g.runs

-- a glyph as it is drawn
abbrev pub cell_glyph : hb_glyph_info_t × GlyphPosition → CellGlyph
cell_glyph p = record { glyph_id = p.0.glyph_id; x_advance = p.1.x_advance; y_advance = p.1.y_advance; x_offset = p.1.x_offset; y_offset = p.1.y_offset }

-- the glyphs of a result as they are drawn
abbrev pub cell_glyphs : Sides → List CellGlyph
cell_glyphs result = map cell_glyph (zip (all_glyphs result) result.positions)

-- the slices of a text between the clusters of a result, in the order of the text
abbrev pub text_slices : Sides → List ℕ → List (ℕ × ℕ)
text_slices result text = slices (clusters (all_glyphs result)) (length text)

-- a run begins after the cells of the text before it, and ends after its own
pub record HasItsCells (text : List ℕ) (ss : List (ℕ × ℕ)) (r : CellRun) : Type 0 where
  pub first : r.first_cell ≡ width_before text ss r.start
  pub end : r.end_cell ≡ width_before text ss r.end

-- the glyphs of a run are exactly those whose clusters are among its bytes
pub record HasItsGlyphs (ns : List ℕ) (r : CellRun) : Type 0 where
  pub ordered : r.first_glyph ≤ r.end_glyph
  pub within : r.end_glyph ≤ length ns
  pub exact : (k n : ℕ) → slice_get ns k ≡ Some n → IsIn (glyph_range r) k ↔ IsIn (byte_range r) n

-- the line of cells of the result of a text
pub record IsGridOf (result : Sides) (text : List ℕ) (g : Grid) : Type 0 where
  -- the bytes of the runs, one run after another, are the text
  pub bytes : AreJoined 0 (length text) (map byte_range g.runs)
  -- a run begins with the first slice of the text, and with each one that takes a cell
  pub starts : map (λ (r : CellRun). r.start) g.runs ≡ run_starts text (text_slices result text)
  pub cells : All (HasItsCells text (text_slices result text)) g.runs
  pub width : g.width ≡ width_before text (text_slices result text) (length text)
  -- each glyph is in one run
  pub runs : All (HasItsGlyphs (clusters (all_glyphs result))) g.runs
  pub glyphs : g.glyphs ≡ cell_glyphs result
  pub grid : IsGrid g

-- the result of a text has cells along a direction: it has a line, or both are empty
abbrev pub HasCells : Direction → Sides → List ℕ → Type 0
HasCells d result text = ((text ≡ []) × (all_glyphs result ≡ [])) ⊎ HasLine d result text

-- why there are no cells of a result: of want of memory no clause says more
abbrev pub IsFaultOf : Direction → Sides → List ℕ → CellFault → Type 0
IsFaultOf d result text OutOfMemory = Unit {0}
IsFaultOf d result text NoSlices = ¬ HasCells d result text
