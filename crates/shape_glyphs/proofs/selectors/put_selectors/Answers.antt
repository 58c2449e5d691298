use Rattle.std.proofs.Common.{rules}
use Rattle.shape_glyphs.specs.Selectors.{shown_selector}
use Rattle.shape_glyphs.proofs.Ended.{selectors_done}
use Rattle.shape_glyphs.proofs.selectors.put_selectors.Goals as goal

pub returns : goal.returns
returns c = selectors_done c.args.glyph c.args.buffer.now _ c.ranges.glyph (c.map_glyphs.ensures (shown_selector c.args.glyph) (λ g h r. search rules))
