use Rattle.std.proofs.Common.{◌≡◌, ◌+◌, ◌*◌, ◌-◌}
use Rattle.font_bytes.specs.Records.{records}
use Rattle.font_cmap.specs.Encoded.{row_glyph}
use Rattle.font_cmap.specs.Variations.{after, selectors_in, itself}
use Rattle.font_cmap.proofs.variations.read_selectors.Given as goal

-- the rows so far and those of the records that are left are all
abbrev pub invariant-loop-index : goal.invariant-loop-index
invariant-loop-index l = after l.rows.items (selectors_in l.table (row_glyph l.usual) l.base l.room.left (records itself 11 (l.base + 10 + 11 * l.index) (l.count - l.index)))
    ≡ selectors_in l.table (row_glyph l.usual) l.base l.initial.room.left (records itself 11 (l.base + 10) l.count)
