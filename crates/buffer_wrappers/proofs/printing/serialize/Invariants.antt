use Rattle.std.proofs.Common.{◌≡◌, ◌^◌, ◌*◌, ◌++◌, take, string_bytes}
use Rattle.buffer_wrappers.specs.Pen.{IsWithin, pen_after}
use Rattle.buffer_wrappers.specs.Printed.{printed_text}
use Rattle.buffer_wrappers.proofs.Steps.{left_at}
use Rattle.buffer_wrappers.proofs.printing.serialize.Given as goal

abbrev pub invariant-loop-index : goal.invariant-loop-index
invariant-loop-index g l = record {
  pen : l.pen ≡ pen_after l.flags (take l.index l.positions);
  near : IsWithin (2 ^ 31 * l.index) l.pen;
  printed : string_bytes l.text ++ left_at (g.N.GlyphNames.name_of l.names) (g.N.GlyphNames.extents_of l.names) l.flags l.glyphs l.positions l.index
      ≡ printed_text (g.N.GlyphNames.name_of l.names) (g.N.GlyphNames.extents_of l.names) l.flags l.glyphs l.positions;
}
