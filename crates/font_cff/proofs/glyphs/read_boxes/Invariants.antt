use Rattle.std.proofs.Common.{◌≡◌, ◌-◌}
use Rattle.font_common.specs.Offsets.{after, tables_in}
use Rattle.font_cff.specs.Fonts.{numbers}
use Rattle.font_cff.specs.Outlines.{glyph_box}
use Rattle.font_cff.specs.Glyphs.{boxes_of}
use Rattle.font_cff.proofs.glyphs.read_boxes.Given as goal

-- the boxes so far, and those that are left, are all
abbrev pub invariant-loop-glyph : goal.invariant-loop-glyph
invariant-loop-glyph l = boxes_of l.table l.outlines.cff l.outlines.privates.items l.outlines.selects.items l.outlines.sids.items l.fn.room.left l.count
    ≡ after l.boxes.items (tables_in (glyph_box l.table l.outlines.cff l.outlines.privates.items l.outlines.selects.items l.outlines.sids.items) l.room.left (numbers l.glyph (l.count - l.glyph)))
