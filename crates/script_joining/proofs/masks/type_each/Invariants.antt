use Rattle.buffer_stages.proofs.Loops.{AreWritten}
use Rattle.script_joining.specs.Glyphs.{item_typed}
use Rattle.script_joining.proofs.masks.type_each.Given as goal

-- the glyphs before an index store their types
abbrev pub invariant-loop-glyph : goal.invariant-loop-glyph
invariant-loop-glyph l = AreWritten (item_typed l.tables) l.glyph-index l.initial.glyphs l.glyphs
