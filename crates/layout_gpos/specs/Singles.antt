-- Single adjustment (OpenType, GPOS lookup type 1).
use Rattle.std.specs.Prelude.{List, [], length, Option, Some, None}
use Rattle.buffer_common.specs.declared.direction.Direction.{Direction}
use Rattle.buffer_glyphs.specs.Parts.{first_of}
use Rattle.layout_common.specs.Rows.{value_of}
use Rattle.layout_common.specs.declared.glyph_row.GlyphRow.{GlyphRow}
use Rattle.layout_tables.specs.declared.value.ValueRecord.{ValueRecord}
use Rattle.buffer_stages.specs.Actions.{Action, Passes, Acts, at_first}
use Rattle.layout_gpos.specs.Values.{with_adjusted_position}
use Rattle.layout_gpos.specs.Moving.{cut_with_positions}

-- the item at the cut adjusted, where the subtable covers it
abbrev pub single_adjusted : Direction → Option ValueRecord → Action
single_adjusted d None c = Passes []
single_adjusted d (Some v) c = Acts (cut_with_positions 1 (with_adjusted_position d (length c.front) v c.positions) c) []

-- single adjustment (OpenType, GPOS lookup type 1)
abbrev pub single_subtable : Direction → List (GlyphRow ValueRecord) → Action
single_subtable d rows c = at_first (λ x. single_adjusted d (value_of x.number rows)) (first_of c.rest) c
