use Rattle.std.proofs.Common.{◌≡◌, ◌-◌, ◌++◌}
use Rattle.font_metrics.specs.Boxes.{glyf_boxes}
use Rattle.font_metrics.proofs.boxes.glyf_boxes.Given as goal

-- the boxes so far and those of the glyphs that are left are all
abbrev pub invariant-loop-glyph : goal.invariant-loop-glyph
invariant-loop-glyph l = l.boxes.items ++ glyf_boxes l.loca l.is_long l.glyf l.hmtx l.long l.glyph (l.count - l.glyph) ≡ glyf_boxes l.loca l.is_long l.glyf l.hmtx l.long 0 l.count
