-- Value records (OpenType, GPOS): adjustments of a position.
use Rattle.std.specs.Prelude.{ℕ, ℤ, ◌==◌, ◌&&◌, nat_abs, Bool, true, false, List, set}
use Rattle.buffer_glyphs.specs.Items.{Position}
use Rattle.buffer_common.specs.declared.direction.Direction.{Direction}
use Rattle.buffer_common.specs.Direction.{is_horizontal}
use Rattle.layout_tables.specs.declared.value.ValueRecord.{ValueRecord}
use Rattle.layout_offsets.specs.Sums.{plus, minus}
use Rattle.layout_offsets.specs.Links.{position_at}

-- an advance along the line is added; downward it is subtracted
abbrev pub position_with_advance : Bool → ValueRecord → Position → Position
position_with_advance true v p = record p { x_advance = plus p.x_advance v.x_advance }
position_with_advance false v p = record p { y_advance = minus p.y_advance v.y_advance }

-- a position with the placement of a record added to its offsets
abbrev pub position_with_placement : ValueRecord → Position → Position
position_with_placement v p = record p { x_offset = plus p.x_offset v.x_placement; y_offset = plus p.y_offset v.y_placement }

-- a position adjusted: placements always apply, an advance only along the line
abbrev pub adjusted_position : Direction → ValueRecord → Position → Position
adjusted_position d v p = position_with_advance (is_horizontal d) v (position_with_placement v p)

-- the position at an index adjusted
abbrev pub with_adjusted_position : Direction → ℕ → ValueRecord → List Position → List Position
with_adjusted_position d i v ps = set ps i (adjusted_position d v (position_at i ps))

-- whether a value is zero
abbrev pub is_none : ℤ → Bool
is_none a = nat_abs a == 0

-- whether all values of a record are zero
abbrev pub is_zero : ValueRecord → Bool
is_zero v = is_none v.x_placement && is_none v.y_placement && is_none v.x_advance && is_none v.y_advance
